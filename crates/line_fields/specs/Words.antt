-- Words of a line, and parts of a word: what stands between two bytes of one kind.
-- A quote opens a quoted part, which goes up to the next quote; a byte in it separates nothing. A quote that stands twice in a
-- literal closes the part and opens it again, so it needs no rule of its own.
use Rattle.std.specs.Prelude.{ℕ, List, [], ◌∷◌, ◌++◌, Bool, false, not, ◌&&◌, ◌==◌, if◌then◌else◌}
use Rattle.std.specs.List.{flat_map}
use Rattle.rl_value.specs.Literal.{quote}

-- a quote opens a quoted part or closes it
abbrev pub inside_after : Bool → ℕ → Bool
inside_after inside b = if b == quote then not inside else inside

-- a byte that separates, outside of quotes
abbrev pub separates : ℕ → Bool → ℕ → Bool
separates between inside b = not inside && (b == between)

-- the parts from here on, the first of which has begun so; `inside` says that a quote is open
abbrev pub split_from : ℕ → Bool → List ℕ → List ℕ → List (List ℕ)
split_from between inside part [] = part ∷ []
split_from between inside part (b ∷ bytes) =
    if separates between inside b then part ∷ split_from between false [] bytes
    else split_from between (inside_after inside b) (part ++ b ∷ []) bytes

-- the parts of these bytes, one at least
abbrev pub split : ℕ → List ℕ → List (List ℕ)
split between bytes = split_from between false [] bytes

-- the parts with the byte before each
abbrev pub joined_behind : ℕ → List (List ℕ) → List ℕ
joined_behind between parts = flat_map (λ part. between ∷ part) parts

-- the parts with the byte between each and the next
abbrev pub joined : ℕ → List (List ℕ) → List ℕ
joined between [] = []
joined between (part ∷ parts) = part ++ joined_behind between parts

-- the bytes between words, between the parts of names and transaction ids, of keys, of columns, and of cells
abbrev pub space : ℕ
space = 32

abbrev pub dot : ℕ
dot = 46

abbrev pub comma : ℕ
comma = 44

abbrev pub colon : ℕ
colon = 58

abbrev pub equals : ℕ
equals = 61

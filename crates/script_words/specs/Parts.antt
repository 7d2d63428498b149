-- The parts of a word: what stands before and behind a mark in it, names, and transaction ids. This project's own.
use Rattle.std.specs.Prelude.{ℕ, List, [], ◌∷◌, ◌==◌, if◌then◌else◌, Option, Some, None}
use Rattle.std.specs.Option.{option_map, option_and_then}
use Rattle.rl_value.specs.declared.xid.Xid.{Xid}
use Rattle.rl_value.specs.Text.{is_name}
use Rattle.script_words.specs.Numbers.{of_16_bits, of_32_bits}

-- the bytes before the first mark, or all where there is none
abbrev pub before : ℕ → List ℕ → List ℕ
before mark [] = []
before mark (b ∷ bytes) = if b == mark then [] else b ∷ before mark bytes

-- those behind it, where there is one
abbrev pub behind : ℕ → List ℕ → Option (List ℕ)
behind mark [] = None
behind mark (b ∷ bytes) = if b == mark then Some bytes else behind mark bytes

-- what is left behind these bytes, where the word begins with them
abbrev pub behind_front : List ℕ → List ℕ → Option (List ℕ)
behind_front [] word = Some word
behind_front (c ∷ front) [] = None
behind_front (c ∷ front) (b ∷ word) = if c == b then behind_front front word else None

-- the byte between the parts of a transaction id, and between a schema and a table
abbrev pub dot : ℕ
dot = 46

-- two or three parts, where none is missing
abbrev pub both : {A B C : Type 0} → (A → B → C) → Option A → Option B → Option C
both f None y = None
both f (Some x) y = option_map (f x) y

abbrev pub all_three : {A B C D : Type 0} → (A → B → C → D) → Option A → Option B → Option C → Option D
all_three f None y z = None
all_three f (Some x) y z = both (f x) y z

-- a name
abbrev pub name_of : List ℕ → Option (List ℕ)
name_of word = if is_name word then Some word else None

abbrev pub xid_named : ℕ → ℕ → ℕ → Xid
xid_named usn slot sqn = record { usn = usn; slot = slot; sqn = sqn }

-- undo segment, slot and sequence, where the last dot is there
unfoldable pub xid_of_parts : List ℕ → List ℕ → Option (List ℕ) → Option Xid
xid_of_parts usn slot None = None
xid_of_parts usn slot (Some sqn) = all_three xid_named (of_16_bits usn) (of_16_bits slot) (of_32_bits sqn)

-- a transaction id: three numbers with dots between
unfoldable pub xid_of : List ℕ → Option Xid
xid_of word = option_and_then (λ rest. xid_of_parts (before dot word) (before dot rest) (behind dot rest)) (behind dot word)

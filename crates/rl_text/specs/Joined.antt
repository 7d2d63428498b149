-- The literals of several values with a byte between them.
use Rattle.std.specs.Prelude.{ℕ, List, [], ◌∷◌, ◌++◌}
use Rattle.std.specs.List.{flat_map}
use Rattle.rl_value.specs.Literal.{literal}
use Rattle.rl_value.specs.declared.value.Value.{Value}

-- the literals, the byte before each
abbrev pub literals_behind : ℕ → List Value → List ℕ
literals_behind between values = flat_map (λ v. between ∷ literal v) values

-- the literals, the byte between each and the next
abbrev pub literals_between : ℕ → List Value → List ℕ
literals_between between [] = []
literals_between between (v ∷ vs) = literal v ++ literals_behind between vs

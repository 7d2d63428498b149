-- Whether a row has these values in these columns.
use Rattle.std.specs.Prelude.{ℕ, List, [], ◌∷◌, Bool, true, false, ◌&&◌}
use Rattle.rl_value.specs.declared.value.Value.{Value}
use Rattle.rl_value.specs.Order.{value_eq}
use Rattle.redo_spec.specs.Tables.{value_in}

abbrev pub has_at : List Value → List ℕ → List Value → Bool
has_at row [] [] = true
has_at row [] (v ∷ vs) = false
has_at row (c ∷ cs) [] = false
has_at row (c ∷ cs) (v ∷ vs) = value_eq v (value_in row c) && has_at row cs vs

-- A table and changes of it, for worked examples.
use Rattle.std.specs.Prelude.{ℕ, List, [], ◌∷◌, codes, true, false}
use Rattle.rl_value.specs.declared.value.Value.{Value}
use Rattle.redo_vec.specs.declared.change.Change.{Change}
use Rattle.redo_vec.specs.declared.change.Op.{Op}
use Rattle.redo_vec.specs.declared.columns.Kind.TheVariants as kinds
use Rattle.redo_vec.specs.declared.table.TableRow.{TableRow}
use Rattle.redo_spec.specs.Worked.{one_of}

-- T.A with a number, a text and a raw value, of which the number and the text are the key
abbrev pub mixed : TableRow
mixed = record {
  id = 7;
  schema = codes "T";
  name = codes "A";
  columns =
      record { name = codes "N"; kind = kinds.Number; nullable = false }
      ∷ record { name = codes "X$"; kind = kinds.Text 30; nullable = false }
      ∷ record { name = codes "R#"; kind = kinds.Raw 30; nullable = true } ∷ [];
  keys = (0 ∷ 1 ∷ []) ∷ [];
}

abbrev pub mixed_change : Op → List (ℕ × Value) → List (ℕ × Value) → Change
mixed_change op old new = record { xid = one_of 1; op = op; table = 7; old = old; new = new }

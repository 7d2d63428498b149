-- The owner of a unique value, as an index and the rows answer it: the row to which the value leads, where it has the value.
use Rattle.std.specs.Prelude.{ℕ, List, if◌then◌else◌, Option, Some, None}
use Rattle.std.specs.FinMap.Entries as entries
use Rattle.std.specs.Ordering.{eq_by_cmp}
use Rattle.rl_value.specs.declared.value.Value.{Value}
use Rattle.rl_value.specs.Order.{row_cmp}
use Rattle.redo_spec.specs.Tables.{Rows, values_at}

abbrev pub owner_if : List ℕ → List Value → List Value → Option (List Value) → Option (List Value)
owner_if columns values primary None = None
owner_if columns values primary (Some row) = if eq_by_cmp row_cmp (values_at row columns) values then Some primary else None

abbrev pub owner_by : List ℕ → List Value → Rows → Option (List Value) → Option (List Value)
owner_by columns values rows None = None
owner_by columns values rows (Some primary) = owner_if columns values primary (entries.find row_cmp primary rows)

-- The effect of an UPDATE whose row is there and is as it was logged: the row goes, and the new one comes.
use Rattle.std.proofs.Common.{◌≡◌, ℕ, List, sym, ap, ◌∙◌, Option, Some, None}
use Rattle.std.specs.FinMap.Entries as entries
use Rattle.rl_value.specs.declared.value.Value.{Value}
use Rattle.rl_value.specs.declared.key.Key.{Key}
use Rattle.rl_value.specs.declared.miss.Miss.{Miss}
use Rattle.rl_value.specs.declared.miss.Miss.TheVariants.{Absent}
use Rattle.rl_value.specs.Order.{row_cmp}
use Rattle.rl_value.specs.Outcome.{◌>>=◌, or_err, refused_by}
use Rattle.redo_vec.specs.declared.change.Op.TheVariants.{Update}
use Rattle.redo_vec.specs.declared.table.TableRow.{TableRow}
use Rattle.redo_spec.specs.Effect.{add_row, difference, effect_on, logged_key, with_cells}
use Rattle.redo_spec.specs.Tables.{Rows, Table, named as named_key}
use Rattle.redo_spec.specs.Work.{write_row}
use Rattle.row_apply.specs.Kept.{row_key}

pub update_joins : (t : TableRow) (rows : Rows) (key : Key) (row after : List Value) (old new : List (ℕ × Value)) →
    key ≡ row_key t.id (logged_key t old) → entries.find row_cmp key.values rows ≡ Some row →
    difference row old ≡ None → after ≡ with_cells t row new →
    effect_on (record { row = t; rows = rows }) Update old new ≡
    add_row (record { row = t; rows = write_row rows key.values None }) after
update_joins t rows key row after old new named f d made =
    let k = logged_key t old in
    let u : Table = record { row = t; rows = write_row rows k None } in
    let at : entries.find row_cmp k rows ≡ Some row = ap (λ (q : Key). entries.find row_cmp q.values rows) (sym named) ∙ f in
    ap (λ (found : Option (List Value)). (or_err found (Absent (named_key t k)) >>= λ r. refused_by (difference r old) (r, u)) >>=
    λ (taken : List Value × Table). add_row taken.1 (with_cells t taken.0 new)) at
    ∙ ap (λ (o : Option Miss). refused_by o (row, u) >>=
    λ (taken : List Value × Table). add_row taken.1 (with_cells t taken.0 new)) d
    ∙ (λ i. add_row (let v : Table = record { row = t; rows = write_row rows (sym named i).values None } in v) (sym made i))

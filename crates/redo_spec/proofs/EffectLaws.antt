-- What an effect leaves as it was.
use Rattle.std.proofs.Common.{◌≡◌, List, ap, sym, ◌∙◌, false, cond, Option, Some, None, Ok}
use Rattle.std.specs.Ordering.{eq_by_cmp}
use Rattle.std.specs.FinMap.Entries as entries
use Rattle.rl_value.specs.declared.value.Value.{Value}
use Rattle.rl_value.specs.Order.{row_cmp, row_total}
use Rattle.rl_value.specs.Outcome.{refused_by}
use Rattle.redo_spec.specs.Tables.{Table, primary_key}
use Rattle.redo_spec.specs.Effect.{add_row}

-- what is not refused is the value
not_refused : {A E : Type 0} (refusal : Option E) (x y : A) → refused_by refusal x ≡ Ok y → x ≡ y
not_refused None x y e = cc
not_refused (Some r) x y e = absurd (cc)

-- a row that comes changes no row of another key
pub add_row-keeps : (t after : Table) (row key : List Value) → add_row t row ≡ Ok after →
    eq_by_cmp row_cmp key (primary_key t.row row) ≡ false →
    entries.find row_cmp key after.rows ≡ entries.find row_cmp key t.rows
add_row-keeps t after row key e other =
    ap (λ u. entries.find row_cmp key u.rows) (sym (not_refused _
    (record t { rows = entries.put row_cmp (primary_key t.row row) row t.rows }) after e))
    ∙ entries.find-put row_cmp row_total key (primary_key t.row row) row t.rows
    ∙ ap (λ b. cond b (Some row) (entries.find row_cmp key t.rows)) other

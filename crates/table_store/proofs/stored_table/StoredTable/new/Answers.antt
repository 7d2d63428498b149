use Rattle.std.proofs.Common.{◌≡◌, [], List, map, length, sym, ap, ◌∙◌, subst}
use Rattle.std.specs.Arc.{arc_value}
use Rattle.redo_spec.specs.Dictionary.{uniques_of}
use Rattle.redo_spec.specs.Tables.{Rows}
use Rattle.table_store.specs.Leads.{AreLedBut}
use Rattle.table_store.proofs.Leading.{none_led}
use Rattle.table_store.proofs.stored_table.StoredTable.new.Goals as goal

pub invariant_of-result : goal.invariant_of-result
invariant_of-result c =
    let keys = uniques_of (arc_value c.in-Ok.definition) in
    let P : Rows → List Rows → Type 0 = λ rows indexes. AreLedBut keys [] rows indexes in
    let indexes : c.in_ok-uniques.uniques.items ≡ map (λ _. []) keys =
    c.in_ok-uniques.ensures.none ∙ ap (map (λ _. [])) (c.unique_keys.ensures.same ∙ ap uniques_of (sym c.in-Ok.ensures.ok)) in (
      subst (λ rows. P rows c.in_ok-uniques.uniques.items) (sym c.new-2.ensures.empty)
          (subst (P []) (sym indexes) (none_led keys)),
      sym (ap length c.new-2.ensures.empty),
    )

use Rattle.std.proofs.Common.{arith, sym, ap, ◌∙◌, Vec, Global}
use Rattle.redo_spec.specs.Dictionary.{Dictionary}
use Rattle.redo_spec.specs.Tables.{definitions_of, row_count}
use Rattle.table_store.specs.Shared.{tables_in}
use Rattle.table_store.specs.declared.shared_table.SharedTable.{SharedTable}
use Rattle.table_store.proofs.Overlaying.{empty_definitions, empty_count}
use Rattle.table_store.proofs.tables.Tables.new.Goals as goal

pub invariant_of-result : goal.invariant_of-result
invariant_of-result c =
    let same = ap (λ (v : Vec SharedTable Global). tables_in v.items) c.in-Ok-new.ensures.ok ∙ c.in-Ok.ensures.empty in (
      ap definitions_of same ∙ empty_definitions c.tables.result.now ∙ c.tables.ensures.same ∙
          ap (λ (d : Dictionary). d.tables) (sym c.in-Ok-new-2.ensures.ok),
      empty_count c.tables.result.now ∙ ap row_count (sym same),
      omega arith,
    )

use Rattle.std.proofs.Common.{◌∙◌, sym, subst, ap, List}
use Rattle.std.specs.FinMap.Entries.{find}
use Rattle.std.specs.Option.{IsSome}
use Rattle.rl_value.specs.Order.{row_cmp}
use Rattle.redo_vec.specs.declared.table.TableRow.{TableRow}
use Rattle.redo_spec.specs.Dictionary.{table_of}
use Rattle.redo_spec.specs.Tables.{rows_by}
use Rattle.plain_store.specs.Beneath.{Beneath}
use Rattle.plain_store.proofs.TableLaws.{definitions_assembled, row_at_assembled}
use Rattle.plain_store.proofs.based.BasedRows.get.Goals as goal

pub returns : goal.returns
returns c =
    let b = c.args.self.now in
    let key = c.args.key.now in
    let there : IsSome (table_of b.dictionary.tables key.table) =
    subst (λ (us : List TableRow). IsSome (table_of us key.table)) (definitions_assembled b.dictionary.tables b.rows)
    c.requires.there in
    record {
      row = c.get.ensures.found
          ∙ ap (λ (v : Beneath). find row_cmp key.values (rows_by v.rows key.table)) c.self.view_is
          ∙ sym (row_at_assembled b.dictionary.tables b.rows key there);
    }

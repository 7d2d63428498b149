use Rattle.std.proofs.Common.{List, sym, ap, ◌∙◌}
use Rattle.std.specs.FinMap.Entries as entries
use Rattle.rl_value.specs.Order.{row_cmp}
use Rattle.redo_vec.specs.declared.table.TableRow.{TableRow}
use Rattle.redo_spec.specs.Dictionary.{table_of}
use Rattle.query_sessions.proofs.Finding.{none_there}
use Rattle.query_sessions.proofs.table_rows.row_at.Goals as goal

-- a table that is not in the dictionary has no row
pub returns-in-None : goal.returns-in-None
returns-in-None c =
    let id = c.args.key.now.table in
    record {
      found = sym (ap (entries.find row_cmp c.args.key.now.values)
          (none_there c.args.tables.now.tables id
          (ap (λ (ts : List TableRow). table_of ts id) c.dict.ensures.defined ∙ sym c.in-None.ensures.found)));
    }

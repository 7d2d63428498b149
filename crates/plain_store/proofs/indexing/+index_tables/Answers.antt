use Rattle.plain_store.proofs.WriteLaws.{indexed_all}
use Rattle.plain_store.proofs.indexing.+index_tables.Goals as goal

pub returns : goal.returns
returns c d = record {
  indexed = indexed_all d.index_table.result d.args.rest.now d.table-item.result d.args.tables.now d.index_tables.new.index
      d.index_table.new.index d.in-len1-up.len_at_least d.table-item.is
      d.in_ok-index_tables.ensures.indexed d.index_table.ensures.indexed d.index_table.ensures.others;
}

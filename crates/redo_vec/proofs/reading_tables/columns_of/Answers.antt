use Rattle.redo_vec.proofs.Forming.{columns_form}
use Rattle.redo_vec.proofs.reading_tables.columns_of.Goals as goal

pub of-requires : goal.of-requires
of-requires c = record {
  form = columns_form c.args.size c.args.count c.args.bytes.now _ c.requires.some c.requires.most
      c.in_ok-columns.ensures;
}

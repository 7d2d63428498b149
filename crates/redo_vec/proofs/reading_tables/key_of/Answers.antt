use Rattle.redo_vec.proofs.Forming.{rising_list_form}
use Rattle.redo_vec.proofs.reading_tables.key_of.Goals as goal

pub of-requires : goal.of-requires
of-requires c = record {
  form = rising_list_form c.args.size c.in_ok-count.count c.in_ok-count.rest.now _
      c.in_ok-count.ensures.some c.in_ok-columns.ensures;
}

use Rattle.redo_vec.proofs.Forming.{cells_form}
use Rattle.redo_vec.proofs.reading_changes.cells_of.Goals as goal

pub of-requires : goal.of-requires
of-requires c = record { rising = cells_form c.args.size c.in_ok-count.count 0 c.in_ok-count.rest.now _ c.in_ok-cells.ensures }

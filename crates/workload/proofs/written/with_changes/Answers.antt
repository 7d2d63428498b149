use Rattle.workload.proofs.SizeLaws.{changes_fit}
use Rattle.workload.proofs.written.with_changes.Goals as goal

pub with-requires : goal.with-requires
with-requires c = changes_fit c.args.written.x c.args.written.pair c.in_ok-drawn.drawn c.in_ok-drawn.ensures

use Rattle.workload.proofs.SizeLaws.{starts_fit}
use Rattle.workload.proofs.written.put_starts.Goals as goal

pub with-requires : goal.with-requires
with-requires c = starts_fit c.args.pair.now c.in_ok-vectors.vectors c.in_ok-vectors.ensures

use Rattle.workload.proofs.SizeLaws.{dictionary_fits}
use Rattle.workload.proofs.logs.first_text.Goals as goal

pub with-requires : goal.with-requires
with-requires c = dictionary_fits c.in_ok-vectors.vectors c.in_ok-vectors.ensures

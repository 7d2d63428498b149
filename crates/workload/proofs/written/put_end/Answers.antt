use Rattle.workload.proofs.SizeLaws.{end_fits}
use Rattle.workload.proofs.written.put_end.Goals as goal

pub with-requires : goal.with-requires
with-requires c =
    end_fits c.args.x c.args.number c.end_vector-end.result c.in_ok-vectors.vectors c.end_vector-end.ensures
    c.in_ok-vectors.ensures

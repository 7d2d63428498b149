use Rattle.std.proofs.Common.{ap}
use Rattle.redo_wire.specs.Stream.{Stream}
use Rattle.redo_wire.proofs.RecordLaws.{framed_at}
use Rattle.redo_wire.proofs.cutter.Cutter.feed.Goals as goal

pub returns-in-Ok-clause-framed : goal.returns-in-Ok-clause-framed
returns-in-Ok-clause-framed c =
    framed_at c.args.self.now c.self.inside.head c.self.inside.place _ _ _ c.self.invariant.done c.in-Ok.ensures.cut
    c.of.ensures.same (ap (λ (s : Stream). s.head) c.self.view_is) (ap (λ (s : Stream). s.place) c.self.view_is)

use Rattle.redo_wire.proofs.CutLaws.{one_behind, took_as}
use Rattle.redo_wire.proofs.cutting.taken_behind.Goals as goal

pub returns-then-is_one-clause-cut : goal.returns-then-is_one-clause-cut
returns-then-is_one-clause-cut c =
    took_as c.taken_off-then-is_one.result _ _
    (one_behind c.args.head c.args.start c.place_behind.result c.args.waiting.now c.args.rest.now _ c.if-start-head.true
    (c.is_one.ensures c.if-is_one.true) c.place_behind.ensures c.in_ok-before.ensures) c.taken_off-then-is_one.ensures.cut

use Rattle.std.proofs.Common.{rules}
use Rattle.tag_lock.proofs.Keeps.{cuts}
use Rattle.tag_lock.proofs.steps.split_seat.Goals as goal

pub split_seat-requires : goal.split_seat-requires
split_seat-requires g c = (search rules, search rules, cuts g.V.Tagged.stands g.V.Tagged.height _ _ c.requires.two)

use Rattle.std.proofs.Common.{rules}
use Rattle.tag_lock.proofs.Keeps.{glues}
use Rattle.tag_lock.proofs.steps.join_seats.Goals as goal

pub join_seat-requires : goal.join_seat-requires
join_seat-requires g c = (
  search rules,
  search rules,
  search rules,
  search rules,
  glues g.V.Tagged.stands g.V.Tagged.height _ _ _ _ c.requires.part c.requires.other.1,
)

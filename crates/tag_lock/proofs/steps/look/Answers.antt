use Rattle.std.proofs.Common.{rules}
use Rattle.tag_lock.proofs.Keeps.{looks}
use Rattle.tag_lock.proofs.steps.look.Goals as goal

pub load-requires : goal.load-requires
load-requires g c = (search rules, search rules, looks g.V.Tagged.stands g.V.Tagged.height _ _ _)

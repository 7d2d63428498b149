use Rattle.std.proofs.Common.{rules}
use Rattle.tag_lock.proofs.Keeps.{claims}
use Rattle.tag_lock.proofs.steps.claim.Goals as goal

pub compare_exchange-requires : goal.compare_exchange-requires
compare_exchange-requires g c = (
  search rules,
  search rules,
  claims g.V.Tagged.stands g.V.Tagged.height _ _ _ c.args.word c.requires.part c.requires.even,
)

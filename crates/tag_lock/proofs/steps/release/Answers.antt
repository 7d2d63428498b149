use Rattle.std.proofs.Common.{rules}
use Rattle.tag_lock.proofs.Keeps.{releases}
use Rattle.tag_lock.proofs.steps.release.Goals as goal

pub store-requires : goal.store-requires
store-requires g c = (search rules, search rules, releases g.V.Tagged.stands g.V.Tagged.height _ _ _ c.args.rank c.requires.value)

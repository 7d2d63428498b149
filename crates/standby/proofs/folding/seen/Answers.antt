use Rattle.std.proofs.Common.{subst}
use Rattle.standby.proofs.OneLog.{InspectsAs, twice, found-is_of}
use Rattle.standby.proofs.folding.seen.Goals as goal

pub returns-in-Ok-clause-exact : goal.returns-in-Ok-clause-exact
returns-in-Ok-clause-exact g c =
    twice (g.A.Archive.logs c.args.archive.now) c.args.seq c.in-Ok.entry c.inspect.result c.in-Ok.ensures.exact
    (subst (λ known. InspectsAs known c.args.seq c.in-Ok.entry.head.dbid c.inspect.result) c.in-Ok.ensures.logs
    c.inspect.ensures.exact)

pub returns-in-Ok-clause-of : goal.returns-in-Ok-clause-of
returns-in-Ok-clause-of g c =
    found-is_of (g.A.Archive.logs c.args.archive.now) c.args.seq c.in-Ok.entry.head.dbid c.inspect.result
    c.inspect.ensures.sequence c.inspect.ensures.database
    (subst (λ known. InspectsAs known c.args.seq c.in-Ok.entry.head.dbid c.inspect.result) c.in-Ok.ensures.logs
    c.inspect.ensures.exact)

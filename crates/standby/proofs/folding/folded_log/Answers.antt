use Rattle.standby.proofs.OneLog.{refused-where_told}
use Rattle.standby.proofs.folding.folded_log.Goals as goal

pub returns-in-Err-clause-folded : goal.returns-in-Err-clause-folded
returns-in-Err-clause-folded g c = refused-where_told (g.A.Archive.logs c.args.archive) c.args.seq c.in-Err.fault
    c.refused-folded.result c.in-Err.ensures.exact c.refused-folded.ensures.folded

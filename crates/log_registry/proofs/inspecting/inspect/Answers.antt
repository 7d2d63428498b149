use Rattle.log_registry.proofs.HeaderLaws.{told_refused, told_found, told_other}
use Rattle.log_registry.proofs.inspecting.inspect.Goals as goal

pub returns-in-Err-clause-exact : goal.returns-in-Err-clause-exact
returns-in-Err-clause-exact g c = told_refused (g.A.Archive.logs c.args.archive.now) c.args.seq c.args.dbid c.in-Err.fault
    c.in-Err.ensures.exact

pub returns-then-entry-dbid-clause-exact : goal.returns-then-entry-dbid-clause-exact
returns-then-entry-dbid-clause-exact g c = told_found (g.A.Archive.logs c.args.archive.now) c.args.seq c.args.dbid c.in-Ok.entry
    c.if-entry-dbid.true c.in-Ok.ensures.exact

pub returns-else-entry-dbid-clause-exact : goal.returns-else-entry-dbid-clause-exact
returns-else-entry-dbid-clause-exact g c = told_other (g.A.Archive.logs c.args.archive.now) c.args.seq c.args.dbid c.in-Ok.entry
    c.if-entry-dbid.false c.in-Ok.ensures.exact

use Rattle.redo_spec.specs.LogHeader.{header_in, header_fault}
use Rattle.log_registry.proofs.HeaderLaws.{judged_ok, judged_err}
use Rattle.log_registry.proofs.inspecting.judge.Goals as goal

pub returns-in-Ok : goal.returns-in-Ok
returns-in-Ok c = judged_ok c.args.size (header_fault c.args.seq c.args.front.now) (header_in c.args.front.now) c.in-Ok.head
    c.if-size.false c.in-Ok.ensures.exact

pub returns-in-Err : goal.returns-in-Err
returns-in-Err c = judged_err c.args.size (header_fault c.args.seq c.args.front.now) (header_in c.args.front.now) c.in-Err.fault
    c.if-size.false c.in-Err.ensures.exact

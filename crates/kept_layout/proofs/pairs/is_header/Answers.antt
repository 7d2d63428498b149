use Rattle.redo_spec.specs.LogHeader.{header_in, header_fault}
use Rattle.kept_layout.proofs.HeaderLaws.{header_good, header_bad}
use Rattle.kept_layout.proofs.pairs.is_header.Goals as goal

pub returns-in-Ok : goal.returns-in-Ok
returns-in-Ok c = header_good (header_fault c.args.seq c.args.bytes.now) (header_in c.args.bytes.now) c.in-Ok._head
    c.in-Ok.ensures.exact

pub returns-in-Err : goal.returns-in-Err
returns-in-Err c = header_bad (header_fault c.args.seq c.args.bytes.now) (header_in c.args.bytes.now) c.in-Err._fault
    c.in-Err.ensures.exact

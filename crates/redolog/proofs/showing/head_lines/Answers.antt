use Rattle.std.proofs.Common.{sym}
use Rattle.redolog.proofs.Heads.{ok_text, ok_head, err_text, err_head}
use Rattle.redolog.proofs.showing.head_lines.Goals as goal

pub returns-in_ok-show_header-in-Ok-clause-text : goal.returns-in_ok-show_header-in-Ok-clause-text
returns-in_ok-show_header-in-Ok-clause-text c =
    ok_text c.args.bytes.now c.in_ok-show_header-in-Ok.field-0.items c.in-Ok.head c.in-Ok.ensures
    c.in_ok-show_header-in-Ok.ensures.shown

pub returns-in_ok-show_header-in-Ok-clause-head : goal.returns-in_ok-show_header-in-Ok-clause-head
returns-in_ok-show_header-in-Ok-clause-head c = ok_head c.args.bytes.now c.in-Ok.head c.in-Ok.ensures

pub returns-in_ok-line-in-Err-clause-text : goal.returns-in_ok-line-in-Err-clause-text
returns-in_ok-line-in-Err-clause-text c =
    err_text c.args.bytes.now c.in_ok-line-in-Err.line.items c.in-Err.fault c.in-Err.ensures
    (rw c.first_bytes.ensures.bytes at c.in_ok-line-in-Err.ensures.shown)

pub returns-in_ok-line-in-Err-clause-head : goal.returns-in_ok-line-in-Err-clause-head
returns-in_ok-line-in-Err-clause-head c = sym (err_head c.args.bytes.now c.in-Err.fault c.in-Err.ensures)

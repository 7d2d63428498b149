use Rattle.std.proofs.Common.{refl}
use Rattle.redo_vec.proofs.Utf8.{text_read, text_refused}
use Rattle.redo_vec.proofs.reading_changes.text_of.Goals as goal

pub returns-in-Ok : goal.returns-in-Ok
returns-in-Ok c =
    let read = text_read c.args.size c.args.bytes.now c.in_ok-content.content.now c.in_ok-content.rest.now
    c.in_ok-content.ensures.read c.in-Ok.ensures.text.utf8 in
    rw c.in-Ok.ensures.value read

pub returns-in-Err-Utf8 : goal.returns-in-Err-Utf8
returns-in-Err-Utf8 c = rw c.not_utf8.ensures (text_refused c.args.size c.args.bytes.now c.in_ok-content.content.now
    c.in_ok-content.rest.now c.in_ok-content.ensures.read (c.in-Err-Utf8.ensures.utf8.0 (rw c.in-Err-Utf8.field-0-is refl)).1)

use Rattle.redo_wire.proofs.RecordLaws.{pieces_read}
use Rattle.redo_wire.proofs.pieces.pieces_give_the_records.Goals as goal

pub returns : goal.returns
returns c = record { records = pieces_read }

use Rattle.redo_text.proofs.StreamEnds.{log_whole}
use Rattle.redo_text.proofs.StreamTexts.{log_shown}
use Rattle.redo_text.proofs.laws.a_spelled_log_is_shown.Goals as goal

pub returns-clause-shown : goal.returns-clause-shown
returns-clause-shown c = log_shown c.a_spelled_record_is_read.ensures.read c.pieces_give_the_records.ensures.records

pub returns-clause-whole : goal.returns-clause-whole
returns-clause-whole c = log_whole c.a_spelled_record_is_read.ensures.read c.pieces_give_the_records.ensures.records

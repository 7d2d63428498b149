use Rattle.redo_vec.proofs.RecordLaws.{record_whole}
use Rattle.redo_vec.proofs.laws.a_spelled_record_is_read.Goals as goal

pub returns : goal.returns
returns c = record { read = record_whole }

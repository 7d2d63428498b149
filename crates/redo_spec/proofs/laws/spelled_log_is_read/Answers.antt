use Rattle.redo_spec.proofs.LogLaws.{log_is_read}
use Rattle.redo_spec.proofs.laws.spelled_log_is_read.Goals as goal

pub returns : goal.returns
returns c = record { read = log_is_read c.a_spelled_record_is_read.ensures.read }

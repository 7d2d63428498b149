use Rattle.redo_vec.proofs.Takes.{bytes_fit}
use Rattle.redo_vec.proofs.RecordLaws.{cut_of, record_sound}
use Rattle.redo_vec.proofs.laws.a_read_record_is_spelled.Goals as goal

pub returns-clause-fits : goal.returns-clause-fits
returns-clause-fits c bytes rec are cut read = (record_sound bytes rec (bytes_fit bytes are) (cut_of bytes cut) read).0

pub returns-clause-spelled : goal.returns-clause-spelled
returns-clause-spelled c bytes rec are cut read = (record_sound bytes rec (bytes_fit bytes are) (cut_of bytes cut) read).1

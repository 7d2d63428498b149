use Rattle.redo_vec.proofs.RecordLaws.{one_record}
use Rattle.redo_vec.proofs.encoding.one_spelling.Goals as goal

pub returns : goal.returns
returns c = record { same = one_record }

use Rattle.redo_vec.proofs.RecordLaws.{vector_whole}
use Rattle.redo_vec.proofs.laws.a_spelled_vector_is_read.Goals as goal

pub returns : goal.returns
returns c = record { read = λ size v rest fits. vector_whole size v rest fits }

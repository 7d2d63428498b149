use Rattle.redo_vec.proofs.Takes.{bytes_fit}
use Rattle.redo_vec.proofs.RecordLaws.{vector_sound}
use Rattle.redo_vec.proofs.laws.a_read_vector_is_spelled.Goals as goal

pub returns-clause-fits : goal.returns-clause-fits
returns-clause-fits c size bytes found are read = (vector_sound size bytes found (bytes_fit bytes are) read).1

pub returns-clause-spelled : goal.returns-clause-spelled
returns-clause-spelled c size bytes found are read = (vector_sound size bytes found (bytes_fit bytes are) read).0.parts

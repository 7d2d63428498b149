use Rattle.lcr.proofs.ChunkLaws.{chunk_sound}
use Rattle.lcr.proofs.laws.a_read_chunk_is_spelled.Goals as goal

pub returns : goal.returns
returns c = record { spelled = chunk_sound c.a_read_vector_is_spelled.ensures.spelled }

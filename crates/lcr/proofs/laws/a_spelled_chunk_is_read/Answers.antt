use Rattle.lcr.proofs.ChunkLaws.{chunk_whole}
use Rattle.lcr.proofs.laws.a_spelled_chunk_is_read.Goals as goal

pub returns : goal.returns
returns c = record { read = chunk_whole c.a_spelled_vector_is_read.ensures.read }

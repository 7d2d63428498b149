use Rattle.eager_work.proofs.WorkLaws.{split-alike}
use Rattle.eager_work.proofs.laws.a_chunk_may_be_split.Goals as goal

pub returns : goal.returns
returns c = record { split = split-alike }

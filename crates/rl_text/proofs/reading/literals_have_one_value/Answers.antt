use Rattle.rl_text.proofs.LiteralLaws.{agree, one_value}
use Rattle.rl_text.proofs.reading.literals_have_one_value.Goals as goal

pub returns : goal.returns
returns c = record { agree = agree; one = one_value }

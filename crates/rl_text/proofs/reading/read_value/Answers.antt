use Rattle.rl_text.proofs.LiteralLaws.{agree-found, AreBytes-from_fits}
use Rattle.rl_text.proofs.reading.read_value.Goals as goal

-- what is read is the value of the literal
pub returns-clause-literal : goal.returns-clause-literal
returns-clause-literal c = agree-found _ _ (AreBytes-from_fits _ c.type_inv.bytes) c.read_literal.ensures

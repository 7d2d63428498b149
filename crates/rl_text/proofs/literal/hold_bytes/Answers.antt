use Rattle.rl_text.proofs.LiteralLaws.{AreBytes-from_fits}
use Rattle.rl_text.proofs.literal.hold_bytes.Goals as goal

pub returns : goal.returns
returns c = AreBytes-from_fits _ c.type_inv._bytes

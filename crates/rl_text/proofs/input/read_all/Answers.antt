use Rattle.std.proofs.KnownBytes.{Consumes-trans}
use Rattle.rl_text.proofs.input.read_all.Goals as goal

-- what was read before, and what was read last
pub returns-then-is_err-clause-taken : goal.returns-then-is_err-clause-taken
returns-then-is_err-clause-taken g c = record {
  taken = _;
  consumed = Consumes-trans _ _ _ _ _ c.loop-bytes.invariant.taken c.in-Ok.ensures.bytes.0;
}

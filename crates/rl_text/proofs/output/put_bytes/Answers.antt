use Rattle.std.proofs.Common.{arith, rules}
use Rattle.rl_text.proofs.Moves.{Moved-more}
use Rattle.rl_text.proofs.output.put_bytes.Goals as goal

-- the sink took the front of what was left
pub loop-rest-preserved : goal.loop-rest-preserved
loop-rest-preserved g c = record {
  moved = rw c.split_at.ensures.back (Moved-more _ _ _ _ _ c.in_ok-count.count c.loop-rest.invariant.moved
      c.in_ok-count.ensures.bytes);
  none = search rules;
  later = omega (arith, c.in_ok-count.ensures.cause.later);
}

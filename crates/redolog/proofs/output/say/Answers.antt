use Rattle.std.proofs.Common.{rules}
use Rattle.std.proofs.KnownBytes.{Appends-trans}
use Rattle.redolog.proofs.Pieces.{take-more}
use Rattle.redolog.proofs.output.say.Goals as goal

pub loop-done-preserved : goal.loop-done-preserved
loop-done-preserved g c = record {
  within = search rules;
  front = rw (take-more c.args.text.now c.loop-done.done c.in_ok-taken.taken)
      (Appends-trans _ _ _ _ _ c.loop-done.invariant.front c.in_ok-taken.ensures.bytes);
  none = search rules;
  later = search rules;
}

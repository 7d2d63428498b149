use Rattle.std.proofs.Common.{◌≡◌, ◌++◌, List, length, map}
use Rattle.row_apply.specs.Overlaid.{overlaid}
use Rattle.row_apply.specs.Soundness.{AreSound}
use Rattle.lcr.specs.Chunks.{placed}
use Rattle.eager_work.specs.declared.did.Did.{Did}
use Rattle.eager_work.specs.Attempts.{attempted_all, marks, placed_marks}
use Rattle.eager_work.specs.Trying.{attempts_with, IsOver, IsFree}
use Rattle.eager_work.proofs.tries.try_all.Given as goal

-- what came so far, and what is left to be tried
abbrev pub invariant-loop-rest : goal.invariant-loop-rest
invariant-loop-rest g l = record {
  over : (before : List Did) → IsOver before l.initial.tries → IsOver before l.tries;
  sound : AreSound (g.R.Rows.tables l.base) → AreSound (overlaid (g.R.Rows.tables l.base) l.initial.tries.over) →
      AreSound (overlaid (g.R.Rows.tables l.base) l.tries.over);
  tried : (before : List Did) → IsOver before l.initial.tries → AreSound (g.R.Rows.tables l.base) →
      AreSound (overlaid (g.R.Rows.tables l.base) l.initial.tries.over) →
      attempted_all l.dict.tables l.skips l.n (g.R.Rows.tables l.base) (attempts_with before l.tries) (map placed l.rest) ≡
      attempted_all l.dict.tables l.skips l.n (g.R.Rows.tables l.base) (attempts_with before l.initial.tries) (map placed l.lcrs);
  marked : (before : List Did) → marks (attempts_with before l.tries) ++ placed_marks l.n (map placed l.rest) ≡
      marks (attempts_with before l.initial.tries) ++ placed_marks l.n (map placed l.lcrs);
  free : IsFree l.tries;
}

abbrev pub decreases-loop-rest : goal.decreases-loop-rest
decreases-loop-rest g l = length l.rest

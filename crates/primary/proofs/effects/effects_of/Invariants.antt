use Rattle.std.proofs.Common.{◌≡◌, length}
use Rattle.std.specs.Bool.{IsTrue}
use Rattle.redo_spec.specs.Tables.{assembled}
use Rattle.redo_spec.specs.Fold.{effects}
use Rattle.row_apply.specs.Overlaid.{overlaid, are_of}
use Rattle.row_apply.specs.Soundness.{AreSound}
use Rattle.primary.specs.Progress.{kept_of}
use Rattle.primary.specs.Running.{AreAccepted}
use Rattle.primary.proofs.effects.effects_of.Given as goal

-- what is left is to be done over what was written
abbrev pub invariant-loop-rest : goal.invariant-loop-rest
invariant-loop-rest l =
    let tables = assembled l.base.dictionary.tables l.base.rows in
    record {
      same : effects tables (kept_of l.skips l.base.dictionary.tables l.n l.changes) ≡
          effects (overlaid tables l.over) (kept_of l.skips l.base.dictionary.tables l.n l.rest);
      sound : AreSound (overlaid tables l.over);
      of_tables : IsTrue (are_of l.base.dictionary.tables l.over);
      accepted : AreAccepted l.base.dictionary.tables l.rest;
    }

abbrev pub decreases-loop-rest : goal.decreases-loop-rest
decreases-loop-rest l = length l.rest

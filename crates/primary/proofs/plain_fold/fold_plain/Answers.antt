use Rattle.std.proofs.Common.{rules, sym, ap, subst, Err}
use Rattle.redo_vec.specs.declared.redo_rec.RedoRec.{RedoRec}
use Rattle.primary.specs.Progress.{Progress, RowsAreSound}
use Rattle.primary.proofs.SoundLaws.{SoundAhead, ahead_item, start_ahead, starts_empty}
use Rattle.primary.proofs.plain_fold.fold_plain.Goals as goal

pub new-requires : goal.new-requires
new-requires c = record { fits = starts_empty c.args.start c.args.recs.now c.requires.fits }

pub loop-head-init : goal.loop-head-init
loop-head-init c =
    let begun = c.in_ok-fold.ensures.begun in
    record {
      same = search rules;
      rows = subst (λ (p : Progress). SoundAhead c.args.skips.now c.args.recs.now p) (sym begun)
          (start_ahead c.args.start c.args.skips.now c.args.recs.now c.requires.fits);
      few = search rules;
    }

pub unreachable-requires : goal.unreachable-requires
unreachable-requires c =
    let item = c.loop-head-item.result in
    let sound : RowsAreSound item c.loop-head.fold =
    ahead_item c.args.skips.now c.args.recs.now c.loop-head.head-index item item c.loop-head.fold c.loop-head-test.true
    c.loop-head-item.is c.loop-head.invariant.rows in
    c.in-Err-Unsound.ensures.unsound (ap Err c.in-Err-Unsound.field-0-is)
    (subst (λ (r : RedoRec). RowsAreSound (item.0, r) c.loop-head.fold) (sym c.in_ok-copy.ensures.equal) sound)

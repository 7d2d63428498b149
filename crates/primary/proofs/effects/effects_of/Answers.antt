use Rattle.std.proofs.Common.{◌≡◌, ◌∙◌, sym, subst, ap}
use Rattle.redo_spec.specs.Dictionary.{Dictionary}
use Rattle.redo_spec.specs.Tables.{Tables, assembled}
use Rattle.redo_spec.specs.Fold.{effects}
use Rattle.row_apply.specs.Overlaid.{overlaid, are_of}
use Rattle.row_apply.specs.Soundness.{AreSound}
use Rattle.primary.specs.Progress.{kept_of}
use Rattle.primary.proofs.ApplyLaws.{definitions_assembled}
use Rattle.primary.proofs.effects.effects_of.Goals as goal

pub loop-rest-init : goal.loop-rest-init
loop-rest-init c =
    let ts = c.args.base.now.dictionary.tables in
    let tables = assembled ts c.args.base.now.rows in
    let none : overlaid tables c.args.over.now ≡ tables = ap (overlaid tables) c.requires.empty ∙
    c.no_writes_change_nothing.ensures.same tables in
    let P : Tables → Type 0 = λ us. AreSound us in
    record {
      same = ap (λ us. effects us (kept_of c.args.skips.now ts c.args.n c.args.changes.now)) (sym none);
      sound = subst P (sym none) c.requires.sound;
      of_tables = ap (are_of ts) c.requires.empty;
      accepted = c.requires.accepted;
    }

pub effect-requires-clause-definitions : goal.effect-requires-clause-definitions
effect-requires-clause-definitions c = definitions_assembled c.args.base.now.dictionary.tables c.args.base.now.rows ∙
    ap (λ (d : Dictionary). d.tables) (sym c.dict-then-not-skipped.ensures.same)

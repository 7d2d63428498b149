use Rattle.std.proofs.Common.{◌≡◌, ◌∙◌, sym, ap, subst}
use Rattle.redo_spec.specs.Tables.{Tables, assembled}
use Rattle.row_apply.specs.Overlaid.{overlaid}
use Rattle.row_apply.specs.Soundness.{AreSound}
use Rattle.row_tests.proofs.plain_rows.writes_of.Goals as goal

pub returns-in-Ok-clause-sound : goal.returns-in-Ok-clause-sound
returns-in-Ok-clause-sound c =
    let base = c.of-base.result in
    let tables = assembled base.dictionary.tables base.rows in
    let same : tables ≡ assembled c.args.dict.now.tables c.args.tables.now =
    λ i. assembled (c.of-base.ensures.dictionary i).tables (c.of-base.ensures.rows i) in
    let P : Tables → Type 0 = λ us. AreSound us in
    let before : AreSound tables = subst P (sym same) c.requires.sound in
    let none : overlaid tables c.new-over.result ≡ tables = ap (overlaid tables) c.new-over.ensures.empty ∙
    c.no_writes_change_nothing.ensures.same tables in
    let after : AreSound (overlaid tables c.effect.new.over) = c.effect.ensures.sound before (subst P (sym none) before) in
    subst P (λ i. overlaid (same i) (sym c.in_ok-into_writes-in-Ok.ensures.same i)) after

use Rattle.std.proofs.Common.{◌≡◌, ◌∙◌, [], sym, ap, subst}
use Rattle.redo_spec.specs.Dictionary.{Dictionary}
use Rattle.redo_spec.specs.Standing.{Standing}
use Rattle.redo_spec.specs.Tables.{Tables, assembled}
use Rattle.row_apply.specs.Soundness.{AreSound}
use Rattle.plain_store.specs.Kept.{AreKept}
use Rattle.primary.specs.Progress.{OpenChanges, tables_shown}
use Rattle.primary.specs.Running.{FitsStanding}
use Rattle.primary.proofs.ApplyLaws.{shown_whole}
use Rattle.primary.proofs.StepLaws.{fits_first}
use Rattle.primary.proofs.evaluator.Evaluator.new.Goals as goal

pub kept_first-requires : goal.kept_first-requires
kept_first-requires c =
    let start = c.args.start in
    let law : c.dict-2.result.now ≡ start.law.dict = c.dict-2.ensures.same ∙
    ap (λ (s : Standing). s.dictionary) c.in-Ok.ensures.begun in
    record {
      sound = λ whole.
          subst (λ (d : Dictionary). AreSound (assembled d.tables start.tables)) (sym law)
          (subst (λ (ts : Tables). AreSound ts) (shown_whole start.law.dict.finished start.law.dict.tables start.tables
          (sym (ap (λ d. d.finished) law) ∙ whole)) c.requires.fits.sound);
    }

pub invariant_of-result : goal.invariant_of-result
invariant_of-result c =
    let start = c.args.start in
    let law : c.in-Ok.law.dictionary ≡ start.law.dict = ap (λ (s : Standing). s.dictionary) c.in-Ok.ensures.begun in
    let whole : c.finished-whole.result ≡ c.in-Ok.law.dictionary.finished =
    c.finished-whole.ensures.value ∙ ap (λ d. d.finished) c.dict.ensures.same in
    let tables : tables_shown c.finished-whole.result c.in-Ok.law.dictionary.tables start.tables ≡
    tables_shown start.law.dict.finished start.law.dict.tables start.tables =
    λ i. tables_shown ((whole ∙ ap (λ d. d.finished) law) i) (law i).tables start.tables in
    let sound : AreSound (tables_shown c.finished-whole.result c.in-Ok.law.dictionary.tables start.tables) =
    subst (λ (ts : Tables). AreSound ts) (sym tables) c.requires.fits.sound in (
      λ none. record {
        fits = subst (λ (live : OpenChanges). FitsStanding c.in-Ok.law live) (sym c.new-2.ensures.empty)
            (subst (λ (s : Standing). FitsStanding s []) (sym c.in-Ok.ensures.begun) (fits_first start));
        whole = whole;
        rec = sym (ap (λ (s : Standing). s.rec) c.in-Ok.ensures.begun);
        sound = sound;
        kept = λ yes.
            subst (λ (d : Dictionary). AreKept d.tables start.tables c.in_ok-index.field-0.index c.in_ok-index.field-0.count)
            c.dict-2.ensures.same
            (c.in_ok-index.ensures.kept (ap (λ d. d.finished) c.dict-2.ensures.same ∙ sym whole ∙ yes));
      },
      sound,
    )

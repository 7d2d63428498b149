use Rattle.std.proofs.Common.{◌≡◌, ◌+◌, ◌∷◌, [], length, refl, sym, ap, ◌∙◌, Some}
use Rattle.std.proofs.lemmas.List.{length-map}
use Rattle.std.proofs.lemmas.Result.{err_from_is_err_and}
use Rattle.skip_guard.specs.Rules.{rule_of, skip_of}
use Rattle.standby_spec.specs.Layout.{skip_item}
use Rattle.standby_spec.specs.Refusals.{skip_refusal}
use Rattle.standby_spec.specs.Writings.{AddSkip, state_after, items_for, skip_from}
use Rattle.checkpoint.specs.Images.{image_state}
use Rattle.publisher.proofs.PartsReady.{skip-ok}
use Rattle.publisher.proofs.Ready.{no-memory, prepared-err}
use Rattle.publisher.proofs.registering.prepare_skip.Goals as goal

pub returns-in_default : goal.returns-in_default
returns-in_default c = record { prepared = no-memory _ _ _ _ }

pub returns-in_err-skips : goal.returns-in_err-skips
returns-in_err-skips c =
    let s = image_state c.args.image.now in
    let rule = rule_of c.args.rule in
    let p = err_from_is_err_and c.from_residual.result c.from_residual.ensures.1 in
    record {
      prepared = rw (p.1, p.2) (prepared-err (items_for (AddSkip rule) s) (Some s) (state_after (AddSkip rule) s)
          (skip_refusal s rule) c.in_err-skips.field-0.0 c.in_err-skips.ensures.refused c.in_err-skips.ensures.own);
    }

pub returns : goal.returns
returns c =
    let s = image_state c.args.image.now in
    let rule = rule_of c.args.rule in
    let many : length c.entries.result.now ≡ length s.skips =
    sym (length-map c.entries.result.now skip_of) ∙ ap length c.entries.ensures.same in
    record {
      prepared = skip-ok s rule c.in_ok-skips.skips _ c.in_ok-skips.ensures.refused
          (c.in-Ok.ensures.items ∙ ap (λ n. skip_item (n + 1) (skip_from s.n rule) ∷ []) many) refl c.in_ok-skips.ensures.with
          c.requires.sound;
    }

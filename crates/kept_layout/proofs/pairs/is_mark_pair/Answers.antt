use Rattle.std.proofs.Common.{sym, ap, ◌∙◌}
use Rattle.standby_spec.specs.Loading.{is_mark_in, mark_in}
use Rattle.kept_layout.proofs.PairLaws.{both}
use Rattle.kept_layout.proofs.pairs.is_mark_pair.Goals as goal

pub returns-then-has_mark_form : goal.returns-then-has_mark_form
returns-then-has_mark_form c = both _ (is_mark_in c.args.logs.now c.args.n (mark_in c.args.n c.args.value.now)) c.is_mark.result
    (sym c.has_mark_form.ensures ∙ c.if-has_mark_form.true)
    (c.is_mark.ensures ∙ ap (is_mark_in c.args.logs.now c.args.n) c.mark_of.ensures)

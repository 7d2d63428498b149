use Rattle.std.proofs.Common.{◌∙◌, ◌++◌, ◌∷◌, [], List, sym, ap, subst}
use Rattle.redo_spec.specs.Skips.{Skip}
use Rattle.skip_guard.specs.Rules.{rule_of, skip_of, skip_fault, IsRefusal}
use Rattle.publisher.specs.Endings.{Tells, ending_of_fault}
use Rattle.publisher.specs.Parts.{skip_reason}
use Rattle.publisher.proofs.PartsReady.{rule-taken, rule-refused, rule-own}
use Rattle.publisher.proofs.registering.skips_with.Goals as goal

pub returns-in-Ok-add-clause-with : goal.returns-in-Ok-add-clause-with
returns-in-Ok-add-clause-with c =
    c.in-Ok-add.ensures.added ∙ ap (λ (ss : List Skip). ss ++ skip_of c.args.entry ∷ []) c.in-Ok.ensures.equal

pub returns-in-Ok-add-clause-refused : goal.returns-in-Ok-add-clause-refused
returns-in-Ok-add-clause-refused c =
    rule-taken c.args.skips.now (rule_of c.args.entry.rule)
    (sym (ap (λ ss. skip_fault ss (rule_of c.args.entry.rule)) c.in-Ok.ensures.equal) ∙ c.in-Ok-add.ensures.exact)

pub returns-in-Err-clause-refused : goal.returns-in-Err-clause-refused
returns-in-Err-clause-refused c =
    subst (Tells (skip_reason c.args.skips.now (rule_of c.args.entry.rule))) (sym c.refused_rule.ensures.exact)
    (rule-refused c.args.skips.now (rule_of c.args.entry.rule) c.in-Err.fault
    (subst (λ ss. IsRefusal c.in-Err.fault (skip_fault ss (rule_of c.args.entry.rule))) c.in-Ok.ensures.equal
    c.in-Err.ensures.exact.0))

pub returns-in-Err-clause-own : goal.returns-in-Err-clause-own
returns-in-Err-clause-own c = ap ending_of_fault c.refused_rule.ensures.exact ∙ rule-own c.in-Err.fault

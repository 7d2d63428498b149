use Rattle.std.proofs.Common.{sym, ◌∙◌, rules, tests}
use Rattle.std.proofs.lemmas.Iterator.{YieldsList-from_slice}
use Rattle.std.proofs.lemmas.Iterator.Search.{any_from_yields_List}
use Rattle.redo_spec.specs.Skips.{same_rule}
use Rattle.skip_guard.specs.Rules.{skip_of, rule_of}
use Rattle.skip_guard.proofs.EntryLaws.{any_of_map}
use Rattle.skip_guard.proofs.naming.has_rule.Goals as goal

pub returns : goal.returns
returns c =
    let entries = c.args.entries.now in
    any_from_yields_List (λ e. same_rule (rule_of e.rule) (rule_of c.args.rule.now)) _ _ _ c.any.ensures.ran
    (YieldsList-from_slice entries cc) (λ x b q k. search (rules, tests))
    ∙ sym (any_of_map (λ s. same_rule s.rule (rule_of c.args.rule.now)) skip_of entries)

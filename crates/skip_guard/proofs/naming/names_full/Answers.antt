use Rattle.std.proofs.Common.{◌&&◌, nat_le, sym, ◌∙◌, rules, tests}
use Rattle.std.proofs.lemmas.Iterator.{YieldsList-from_slice}
use Rattle.std.proofs.lemmas.Iterator.Search.{any_from_yields_List}
use Rattle.skip_guard.specs.Rules.{skip_of, rule_of, names_text}
use Rattle.skip_guard.proofs.EntryLaws.{any_of_map}
use Rattle.skip_guard.proofs.naming.names_full.Goals as goal

pub returns : goal.returns
returns c =
    let entries = c.args.entries.now in
    any_from_yields_List (λ e. nat_le e.from c.args.at && names_text (rule_of e.rule) c.args.name.now) _ _ _ c.any.ensures.ran
    (YieldsList-from_slice entries cc) (λ x b q k. search (rules, tests))
    ∙ sym (any_of_map (λ s. nat_le s.from c.args.at && names_text s.rule c.args.name.now) skip_of entries)

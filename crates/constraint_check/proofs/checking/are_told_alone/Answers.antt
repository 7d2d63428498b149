use Rattle.std.proofs.Common.{[], sym, subst, ◌∙◌}
use Rattle.std.specs.List.{AllByRecursion}
use Rattle.constraint_check.specs.LookUps.{IsAskable}
use Rattle.constraint_check.proofs.Values.{all-askable}
use Rattle.constraint_check.proofs.checking.are_told_alone.Goals as goal

pub owners_gone-requires-clause-askable : goal.owners_gone-requires-clause-askable
owners_gone-requires-clause-askable g c =
    subst (λ defs. AllByRecursion (IsAskable defs) c.as_slice.result.now) (sym c.requires.definitions)
    (subst (AllByRecursion (IsAskable c.args.dict.now.tables)) (sym (c.as_slice.ensures.value ∙ c.in_ok-keys.ensures.values))
    (all-askable c.args.dict.now.tables [] c.args.writes.now tt))

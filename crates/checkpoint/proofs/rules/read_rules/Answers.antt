use Rattle.std.proofs.Common.{rules, ap, ◌∙◌, [], Some, None, Ok}
use Rattle.std.proofs.lemmas.Result.{err_from_is_err_and}
use Rattle.standby_spec.specs.Loading.{skips_in, skip_step}
use Rattle.checkpoint.specs.Areas.{IsBadKey}
use Rattle.checkpoint.proofs.RuleLaws.{no_rules_yet}
use Rattle.checkpoint.proofs.Walking.{none_bad, told_start, told_on, told_bad, told_through, told_next}
use Rattle.checkpoint.proofs.rules.read_rules.Goals as goal

pub loop-init : goal.loop-init
loop-init g c = record {
  told = told_start (g.K.Keeper.holds c.args.keeper.now) 4 skip_step [] _ _ (search rules)
      (search rules) (g.met.K.Keeper.lawful c.args.keeper.now);
  read = no_rules_yet _ (search rules);
  same = search rules;
  none = search rules;
  later = search rules;
}

pub returns-in_err-found-clause-read : goal.returns-in_err-found-clause-read
returns-in_err-found-clause-read g c =
    let p = err_from_is_err_and c.from_residual.result c.from_residual.ensures.1 in
    rw (p.1, p.2) (none_bad (g.K.Keeper.holds c.args.keeper.now) (g.K.Keeper.holds c.loop.keeper) 4 c.loop.last
    c.in_err-found.field-0.0 (λ s f. IsBadKey f (skips_in s)) (λ s. tt) (λ s. tt)
    c.loop.invariant.same c.in_err-found.ensures.next)

pub returns-in_default-clause-read : goal.returns-in_default-clause-read
returns-in_default-clause-read g c =
    told_through (g.K.Keeper.holds c.args.keeper.now) 4 skip_step [] c.loop.skips c.loop.last
    c.loop.invariant.told
    (told_next (g.K.Keeper.holds c.args.keeper.now) (g.K.Keeper.holds c.loop.keeper) 4 c.loop.last c.in_ok-found.found None
    c.loop.invariant.same c.in_default.is c.in_ok-found.ensures.next)

pub returns-then-not-branch-clause-read : goal.returns-then-not-branch-clause-read
returns-then-not-branch-clause-read g c =
    told_bad (g.K.Keeper.holds c.args.keeper.now) 4 skip_step [] c.loop.skips c.loop.last
    c.in-Some.pair c.loop.invariant.told
    (told_next (g.K.Keeper.holds c.args.keeper.now) (g.K.Keeper.holds c.loop.keeper) 4 c.loop.last c.in_ok-found.found
    (Some c.in-Some.pair) c.loop.invariant.same c.in-Some.is c.in_ok-found.ensures.next)
    (c.in_ok-take_rule.ensures.refused (ap Ok c.if-not-branch.true))

pub loop-preserved : goal.loop-preserved
loop-preserved g c = record {
  told = told_on (g.K.Keeper.holds c.args.keeper.now) 4 skip_step [] c.loop.skips
      c.take_rule.new.skips c.loop.last c.in-Some.pair c.loop.invariant.told
      (told_next (g.K.Keeper.holds c.args.keeper.now) (g.K.Keeper.holds c.loop.keeper) 4 c.loop.last c.in_ok-found.found
      (Some c.in-Some.pair) c.loop.invariant.same c.in-Some.is c.in_ok-found.ensures.next)
      (c.in_ok-take_rule.ensures.taken (ap Ok c.if-not-branch.false));
  read = c.in_ok-take_rule.ensures.read (ap Ok c.if-not-branch.false);
  same = c.in_ok-found.ensures.same ∙ c.loop.invariant.same;
  none = search rules;
  later = search rules;
}

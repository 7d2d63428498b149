use Rattle.std.proofs.Common.{◌≡◌, rules, ◌∙◌, [], Some, None, arith}
use Rattle.std.proofs.lemmas.Result.{err_from_is_err_and}
use Rattle.standby_spec.specs.Loading.{of_area}
use Rattle.checkpoint.specs.Beginning.{IsFirstBad}
use Rattle.checkpoint.proofs.Beginnings.{empty_first, empty_on, empty_through, empty_bad}
use Rattle.checkpoint.proofs.Walking.{none_bad, told_head}
use Rattle.checkpoint.proofs.beginning.read_nothing.Goals as goal

pub loop-area-init : goal.loop-area-init
loop-area-init g c = record {
  told = empty_first (g.K.Keeper.holds c.args.keeper.now);
  same = search rules;
  none = search rules;
  later = search rules;
}

pub returns-in_err-found-clause-told : goal.returns-in_err-found-clause-told
returns-in_err-found-clause-told g c =
    let p = err_from_is_err_and c.from_residual.result c.from_residual.ensures.1 in
    rw (p.1, p.2) (none_bad (g.K.Keeper.holds c.args.keeper.now) (g.K.Keeper.holds c.loop-area.keeper) c.loop-area.area
    c.of-start.result c.in_err-found.field-0.0 (λ s f. of_area 1 s ≡ [] → IsFirstBad s f) (λ s e. tt) (λ s e. tt)
    c.loop-area.invariant.same c.in_err-found.ensures.next)

pub returns-in-Some-clause-told : goal.returns-in-Some-clause-told
returns-in-Some-clause-told g c =
    empty_bad (g.K.Keeper.holds c.args.keeper.now) c.loop-area.area c.in-Some.pair c.loop-area.auto.area c.loop-area-test.true
    (g.met.K.Keeper.lawful c.args.keeper.now) c.loop-area.invariant.told
    (told_head (g.K.Keeper.holds c.args.keeper.now) (g.K.Keeper.holds c.loop-area.keeper) c.loop-area.area c.of-start.result
    c.in_ok-found.found (Some c.in-Some.pair) c.loop-area.invariant.same (search rules) c.in-Some.is c.in_ok-found.ensures.next)

pub loop-area-preserved : goal.loop-area-preserved
loop-area-preserved g c = record {
  told = empty_on (g.K.Keeper.holds c.args.keeper.now) c.loop-area.area (g.met.K.Keeper.lawful c.args.keeper.now)
      c.loop-area.invariant.told
      (told_head (g.K.Keeper.holds c.args.keeper.now) (g.K.Keeper.holds c.loop-area.keeper) c.loop-area.area c.of-start.result
      c.in_ok-found.found None c.loop-area.invariant.same (search rules) c.in_default.is c.in_ok-found.ensures.next);
  same = c.in_ok-found.ensures.same ∙ c.loop-area.invariant.same;
  none = search rules;
  later = search rules;
}

pub returns-clause-told : goal.returns-clause-told
returns-clause-told g c =
    let end : c.loop-area.area ≡ 8 = omega (arith, c.loop-area-test.false, c.loop-area.auto.area-end) in
    empty_through (g.K.Keeper.holds c.args.keeper.now) (rw end at c.loop-area.invariant.told)

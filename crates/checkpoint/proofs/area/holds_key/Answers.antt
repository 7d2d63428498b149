use Rattle.std.proofs.Common.{rules, sym, ◌∙◌, Some, None}
use Rattle.std.proofs.lemmas.Result.{err_from_is_err_and}
use Rattle.checkpoint.specs.Images.{OfBadKey}
use Rattle.checkpoint.proofs.Walking.{none_bad, told_looked_start, told_looked_on, told_looked_found, told_looked_through, told_next}
use Rattle.checkpoint.proofs.area.holds_key.Goals as goal

pub loop-init : goal.loop-init
loop-init g c = record {
  told = told_looked_start (g.K.Keeper.holds c.args.keeper.now) c.args.area c.args.key.now _ (search rules)
      (g.met.K.Keeper.lawful c.args.keeper.now);
  same = search rules;
  none = search rules;
  later = search rules;
}

pub returns-in_err-found-clause-lawful : goal.returns-in_err-found-clause-lawful
returns-in_err-found-clause-lawful g c =
    let p = err_from_is_err_and c.from_residual.result c.from_residual.ensures.1 in
    rw (p.1, p.2) (none_bad (g.K.Keeper.holds c.args.keeper.now) (g.K.Keeper.holds c.loop.keeper) c.args.area c.loop.last
    c.in_err-found.field-0.0 (λ s f. OfBadKey f (λ area key. ⊥)) (λ s. tt) (λ s. tt) c.loop.invariant.same
    c.in_err-found.ensures.next)

pub returns-in_default-clause-told : goal.returns-in_default-clause-told
returns-in_default-clause-told g c =
    told_looked_through (g.K.Keeper.holds c.args.keeper.now) c.args.area c.args.key.now c.loop.last c.loop.invariant.told
    (told_next (g.K.Keeper.holds c.args.keeper.now) (g.K.Keeper.holds c.loop.keeper) c.args.area c.loop.last c.in_ok-found.found
    None c.loop.invariant.same c.in_default.is c.in_ok-found.ensures.next)

pub returns-then-same_key-clause-told : goal.returns-then-same_key-clause-told
returns-then-same_key-clause-told g c =
    told_looked_found (g.K.Keeper.holds c.args.keeper.now) c.args.area c.args.key.now c.loop.last c.in-Some.pair
    c.loop.invariant.told
    (told_next (g.K.Keeper.holds c.args.keeper.now) (g.K.Keeper.holds c.loop.keeper) c.args.area c.loop.last c.in_ok-found.found
    (Some c.in-Some.pair) c.loop.invariant.same c.in-Some.is c.in_ok-found.ensures.next)
    (sym c.same_key.ensures ∙ c.if-same_key.true)

pub loop-preserved : goal.loop-preserved
loop-preserved g c = record {
  told = told_looked_on (g.K.Keeper.holds c.args.keeper.now) c.args.area c.args.key.now c.loop.last c.in-Some.pair
      c.loop.invariant.told
      (told_next (g.K.Keeper.holds c.args.keeper.now) (g.K.Keeper.holds c.loop.keeper) c.args.area c.loop.last
      c.in_ok-found.found (Some c.in-Some.pair) c.loop.invariant.same c.in-Some.is c.in_ok-found.ensures.next)
      (sym c.same_key.ensures ∙ c.if-same_key.false);
  same = c.in_ok-found.ensures.same ∙ c.loop.invariant.same;
  none = search rules;
  later = search rules;
}

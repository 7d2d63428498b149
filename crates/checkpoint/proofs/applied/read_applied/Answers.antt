use Rattle.std.proofs.Common.{◌≡◌, rules, refl, sym, subst, Bool, true, false, Some, None}
use Rattle.std.proofs.lemmas.Result.{err_from_is_err_and}
use Rattle.rl_ports.specs.Faults.{Told}
use Rattle.standby_spec.specs.Layout.{applied_key}
use Rattle.standby_spec.specs.Loading.{of_area, has_key, applied_in}
use Rattle.checkpoint.specs.Areas.{IsBadKey}
use Rattle.checkpoint.proofs.Alone.{applied_few, applied_none, applied_one, applied_two, applied_bad, applied_missing}
use Rattle.checkpoint.proofs.Walking.{none_bad, no_key, told_head, told_next, told_now, lies_next}
use Rattle.checkpoint.proofs.applied.read_applied.Goals as goal

pub returns-in_err-found-clause-read : goal.returns-in_err-found-clause-read
returns-in_err-found-clause-read g c =
    let p = err_from_is_err_and c.from_residual.result c.from_residual.ensures.1 in
    rw (p.1, p.2) (none_bad (g.K.Keeper.holds c.args.keeper.now) (g.K.Keeper.holds c.args.keeper.now) 6 c.of-start.result
    c.in_err-found.field-0.0 (λ s f. IsBadKey f (applied_in s)) (λ s. tt) (λ s. tt) refl c.in_err-found.ensures.next)

pub returns-in_default-clause-read : goal.returns-in_default-clause-read
returns-in_default-clause-read g c =
    applied_none (g.K.Keeper.holds c.args.keeper.now) c.of-start.result (search rules) (g.met.K.Keeper.lawful c.args.keeper.now)
    (told_head (g.K.Keeper.holds c.args.keeper.now) (g.K.Keeper.holds c.args.keeper.now) 6 c.of-start.result
    c.in_ok-found.found None refl (search rules) c.in_default.is c.in_ok-found.ensures.next)

pub returns-in_err-holds_key-clause-read : goal.returns-in_err-holds_key-clause-read
returns-in_err-holds_key-clause-read g c =
    let p = err_from_is_err_and c.from_residual-in_err-holds_key.result c.from_residual-in_err-holds_key.ensures.1 in
    rw (p.1, p.2) (no_key (g.K.Keeper.holds c.args.keeper.now) (g.K.Keeper.holds c.next.new.keeper)
    c.in_err-holds_key.field-0.0 (λ s f. IsBadKey f (applied_in s)) (λ s. tt) (λ s. tt) c.in_ok-found.ensures.same
    c.in_err-holds_key.ensures.lawful)

pub returns-then-branch-clause-read : goal.returns-then-branch-clause-read
returns-then-branch-clause-read g c =
    applied_bad (g.K.Keeper.holds c.args.keeper.now) c.in-Some.pair (g.met.K.Keeper.lawful c.args.keeper.now)
    (told_head (g.K.Keeper.holds c.args.keeper.now) (g.K.Keeper.holds c.args.keeper.now) 6 c.of-start.result
    c.in_ok-found.found (Some c.in-Some.pair) refl (search rules) c.in-Some.is c.in_ok-found.ensures.next)
    (sym (rw (c.bytes.ensures.same, c.bytes-2.ensures.same, c.in_default-applied_in.is) at (c.applied_in.ensures.exact (0, 0))))
    (told_now (g.K.Keeper.holds c.args.keeper.now) (g.K.Keeper.holds c.next.new.keeper)
    (λ s. true ≡ has_key applied_key (of_area 6 s))
    c.in_ok-found.ensures.same
    (subst (λ (b : Bool). Told (g.K.Keeper.holds c.next.new.keeper) (λ s. b ≡ has_key applied_key (of_area 6 s)))
    c.if-branch.true c.in_ok-holds_key.ensures.told))

pub returns-in_default-applied_in-clause-read : goal.returns-in_default-applied_in-clause-read
returns-in_default-applied_in-clause-read g c =
    applied_missing (g.K.Keeper.holds c.args.keeper.now) c.of-start.result (search rules)
    (told_now (g.K.Keeper.holds c.args.keeper.now) (g.K.Keeper.holds c.next.new.keeper)
    (λ s. false ≡ has_key applied_key (of_area 6 s))
    c.in_ok-found.ensures.same
    (subst (λ (b : Bool). Told (g.K.Keeper.holds c.next.new.keeper) (λ s. b ≡ has_key applied_key (of_area 6 s)))
    c.if-branch.false c.in_ok-holds_key.ensures.told))

pub returns-in_err-behind-clause-read : goal.returns-in_err-behind-clause-read
returns-in_err-behind-clause-read g c =
    let p = err_from_is_err_and c.from_residual-in_err-behind.result c.from_residual-in_err-behind.ensures.1 in
    rw (p.1, p.2) (none_bad (g.K.Keeper.holds c.args.keeper.now) (g.K.Keeper.holds c.next.new.keeper) 6 c.in-Some.pair.key
    c.in_err-behind.field-0.0 (λ s f. IsBadKey f (applied_in s)) (λ s. tt) (λ s. tt) c.in_ok-found.ensures.same
    c.in_err-behind.ensures.next)

pub returns-in-None-clause-read : goal.returns-in-None-clause-read
returns-in-None-clause-read g c =
    applied_one (g.K.Keeper.holds c.args.keeper.now) c.in-Some.pair c.in-Some-applied_in.applied
    (g.met.K.Keeper.lawful c.args.keeper.now)
    (told_head (g.K.Keeper.holds c.args.keeper.now) (g.K.Keeper.holds c.args.keeper.now) 6 c.of-start.result
    c.in_ok-found.found (Some c.in-Some.pair) refl (search rules) c.in-Some.is c.in_ok-found.ensures.next)
    (sym (rw (c.bytes.ensures.same, c.bytes-2.ensures.same, c.in-Some-applied_in.is) at (c.applied_in.ensures.exact (0, 0))))
    (told_next (g.K.Keeper.holds c.args.keeper.now) (g.K.Keeper.holds c.next.new.keeper) 6 c.in-Some.pair.key
    c.in_ok-behind.behind None c.in_ok-found.ensures.same c.in-None.is c.in_ok-behind.ensures.next)

pub returns-in-None-clause-few : goal.returns-in-None-clause-few
returns-in-None-clause-few g c =
    applied_few (0, 0) c.in-Some-applied_in.applied c.in-Some.pair.key c.in-Some.pair.value
    (sym (rw (c.bytes.ensures.same, c.bytes-2.ensures.same, c.in-Some-applied_in.is) at (c.applied_in.ensures.exact (0, 0))))

pub returns-clause-read : goal.returns-clause-read
returns-clause-read g c =
    applied_two (g.K.Keeper.holds c.args.keeper.now) c.in-Some.pair c.in-Some-behind.other c.in-Some-applied_in.applied
    (g.met.K.Keeper.lawful c.args.keeper.now)
    (told_head (g.K.Keeper.holds c.args.keeper.now) (g.K.Keeper.holds c.args.keeper.now) 6 c.of-start.result
    c.in_ok-found.found (Some c.in-Some.pair) refl (search rules) c.in-Some.is c.in_ok-found.ensures.next)
    (sym (rw (c.bytes.ensures.same, c.bytes-2.ensures.same, c.in-Some-applied_in.is) at (c.applied_in.ensures.exact (0, 0))))
    (told_next (g.K.Keeper.holds c.args.keeper.now) (g.K.Keeper.holds c.next.new.keeper) 6 c.in-Some.pair.key
    c.in_ok-behind.behind (Some c.in-Some-behind.other) c.in_ok-found.ensures.same c.in-Some-behind.is
    c.in_ok-behind.ensures.next)
    (lies_next c.in-Some.pair.key c.in_ok-behind.behind c.in-Some-behind.other c.in-Some-behind.is c.in_ok-behind.ensures.above)

use Rattle.std.proofs.Common.{rules, refl, sym, Some, None, Err, true, false}
use Rattle.std.proofs.lemmas.Result.{err_from_is_err_and}
use Rattle.checkpoint.specs.Beginning.{FirstTold}
use Rattle.checkpoint.proofs.Beginnings.{first_asked, first_no_identity, first_no_log, first_other, first_alone}
use Rattle.checkpoint.proofs.Walking.{none_bad, no_key, told_next, lies_next}
use Rattle.checkpoint.proofs.beginning.identity_of_pair.Goals as goal

pub returns-in_default-clause-told : goal.returns-in_default-clause-told
returns-in_default-clause-told g c =
    first_no_identity (g.K.Keeper.holds c.args.keeper.now) c.args.pair (g.met.K.Keeper.lawful c.args.keeper.now)
    (sym (rw (c.bytes.ensures.same, c.bytes-2.ensures.same, c.in_default.is) at c.identity_in.ensures.exact))

pub returns-in_err-holds_key-clause-told : goal.returns-in_err-holds_key-clause-told
returns-in_err-holds_key-clause-told g c =
    let p = err_from_is_err_and c.from_residual.result c.from_residual.ensures.1 in
    rw (p.1, p.2) (no_key (g.K.Keeper.holds c.args.keeper.now) (g.K.Keeper.holds c.args.keeper.now)
    c.in_err-holds_key.field-0.0 (λ s f. FirstTold s c.args.pair (Err f)) (λ s e. tt) (λ s e. tt) refl
    c.in_err-holds_key.ensures.lawful)

pub returns-then-not-branch-clause-told : goal.returns-then-not-branch-clause-told
returns-then-not-branch-clause-told g c =
    first_no_log (g.K.Keeper.holds c.args.keeper.now) c.args.pair c.in-Some.identity (g.met.K.Keeper.lawful c.args.keeper.now)
    (rw (c.bytes.ensures.same, c.bytes-2.ensures.same, c.in-Some.is) at c.identity_in.ensures.exact)
    (first_asked (g.K.Keeper.holds c.args.keeper.now) _ false _ c.in-Some.identity.first
    c.in_ok-holds_key.ensures.told c.if-not-branch.true (search rules))

pub returns-in_err-behind-clause-told : goal.returns-in_err-behind-clause-told
returns-in_err-behind-clause-told g c =
    let p = err_from_is_err_and c.from_residual-in_err-behind.result c.from_residual-in_err-behind.ensures.1 in
    rw (p.1, p.2) (none_bad (g.K.Keeper.holds c.args.keeper.now) (g.K.Keeper.holds c.holds_key.new.keeper) 1 c.args.pair.key
    c.in_err-behind.field-0.0 (λ s f. FirstTold s c.args.pair (Err f)) (λ s e. tt) (λ s e. tt) c.in_ok-holds_key.ensures.same
    c.in_err-behind.ensures.next)

pub returns-in-None-clause-told : goal.returns-in-None-clause-told
returns-in-None-clause-told g c =
    first_alone (g.K.Keeper.holds c.args.keeper.now) c.args.pair c.in-Some.identity
    (rw (c.bytes.ensures.same, c.bytes-2.ensures.same, c.in-Some.is) at c.identity_in.ensures.exact)
    (first_asked (g.K.Keeper.holds c.args.keeper.now) _ true _ c.in-Some.identity.first
    c.in_ok-holds_key.ensures.told c.if-not-branch.false (search rules))
    (told_next (g.K.Keeper.holds c.args.keeper.now) (g.K.Keeper.holds c.holds_key.new.keeper) 1 c.args.pair.key
    c.in_ok-behind.behind None c.in_ok-holds_key.ensures.same c.in-None.is c.in_ok-behind.ensures.next)

pub returns-clause-told : goal.returns-clause-told
returns-clause-told g c =
    first_other (g.K.Keeper.holds c.args.keeper.now) c.args.pair c.in-Some-behind.other c.in-Some.identity
    (rw (c.bytes.ensures.same, c.bytes-2.ensures.same, c.in-Some.is) at c.identity_in.ensures.exact)
    (first_asked (g.K.Keeper.holds c.args.keeper.now) _ true _ c.in-Some.identity.first
    c.in_ok-holds_key.ensures.told c.if-not-branch.false (search rules))
    (told_next (g.K.Keeper.holds c.args.keeper.now) (g.K.Keeper.holds c.holds_key.new.keeper) 1 c.args.pair.key
    c.in_ok-behind.behind (Some c.in-Some-behind.other) c.in_ok-holds_key.ensures.same c.in-Some-behind.is
    c.in_ok-behind.ensures.next)
    (lies_next c.args.pair.key c.in_ok-behind.behind c.in-Some-behind.other c.in-Some-behind.is c.in_ok-behind.ensures.above)

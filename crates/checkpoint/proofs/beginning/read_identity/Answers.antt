use Rattle.std.proofs.Common.{rules, refl, Some, None, Err, Ok}
use Rattle.std.proofs.lemmas.Result.{err_from_is_err_and}
use Rattle.checkpoint.specs.Beginning.{IsFirstBad, FirstTold}
use Rattle.checkpoint.proofs.Beginnings.{none_of_standby, first_told}
use Rattle.checkpoint.proofs.Walking.{none_bad, told_head, told_now}
use Rattle.checkpoint.proofs.beginning.read_identity.Goals as goal

pub returns-in_err-found-clause-told : goal.returns-in_err-found-clause-told
returns-in_err-found-clause-told g c =
    let p = err_from_is_err_and c.from_residual.result c.from_residual.ensures.1 in
    rw (p.1, p.2) (none_bad (g.K.Keeper.holds c.args.keeper.now) (g.K.Keeper.holds c.args.keeper.now) 1 c.of-start.result
    c.in_err-found.field-0.0 (λ s f. IsFirstBad s f) (λ s. tt) (λ s. tt) refl c.in_err-found.ensures.next)

pub returns-in-None-clause-told : goal.returns-in-None-clause-told
returns-in-None-clause-told g c =
    none_of_standby (g.K.Keeper.holds c.args.keeper.now) (g.met.K.Keeper.lawful c.args.keeper.now)
    (told_head (g.K.Keeper.holds c.args.keeper.now) (g.K.Keeper.holds c.args.keeper.now) 1 c.of-start.result c.in_ok-found.found None
    refl (search rules) c.in-None.is c.in_ok-found.ensures.next)

pub returns-in_err-identity_of_pair-in-Some-clause-told : goal.returns-in_err-identity_of_pair-in-Some-clause-told
returns-in_err-identity_of_pair-in-Some-clause-told g c =
    let p = err_from_is_err_and c.from_residual-in_err-identity_of_pair-in-Some.result
    c.from_residual-in_err-identity_of_pair-in-Some.ensures.1 in
    rw (p.1, p.2) (first_told (g.K.Keeper.holds c.args.keeper.now) c.in-Some.pair
    (Err c.in_err-identity_of_pair-in-Some.field-0.0)
    (g.met.K.Keeper.lawful c.args.keeper.now)
    (told_head (g.K.Keeper.holds c.args.keeper.now) (g.K.Keeper.holds c.args.keeper.now) 1 c.of-start.result c.in_ok-found.found
    (Some c.in-Some.pair) refl (search rules) c.in-Some.is c.in_ok-found.ensures.next)
    (told_now (g.K.Keeper.holds c.args.keeper.now) (g.K.Keeper.holds c.next.new.keeper)
    (λ s. FirstTold s c.in-Some.pair (Err c.in_err-identity_of_pair-in-Some.field-0.0)) c.in_ok-found.ensures.same
    c.in_err-identity_of_pair-in-Some.ensures.told))

pub returns-clause-told : goal.returns-clause-told
returns-clause-told g c =
    first_told (g.K.Keeper.holds c.args.keeper.now) c.in-Some.pair (Ok c.in_ok-identity_of_pair-in-Some.field-0)
    (g.met.K.Keeper.lawful c.args.keeper.now)
    (told_head (g.K.Keeper.holds c.args.keeper.now) (g.K.Keeper.holds c.args.keeper.now) 1 c.of-start.result c.in_ok-found.found
    (Some c.in-Some.pair) refl (search rules) c.in-Some.is c.in_ok-found.ensures.next)
    (told_now (g.K.Keeper.holds c.args.keeper.now) (g.K.Keeper.holds c.next.new.keeper)
    (λ s. FirstTold s c.in-Some.pair (Ok c.in_ok-identity_of_pair-in-Some.field-0)) c.in_ok-found.ensures.same
    c.in_ok-identity_of_pair-in-Some.ensures.told)

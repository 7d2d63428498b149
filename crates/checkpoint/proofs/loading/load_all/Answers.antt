use Rattle.std.proofs.Common.{◌≡◌, subst, [], Option, Ok}
use Rattle.std.proofs.lemmas.Result.{err_from_is_err_and}
use Rattle.rl_ports.specs.Faults.{Told}
use Rattle.standby_spec.specs.Loading.{Fresh, of_area, state_in, loaded}
use Rattle.kept_layout.specs.declared.identity.Identity.{Identity}
use Rattle.checkpoint.specs.Areas.{IsBadKey}
use Rattle.checkpoint.specs.Beginning.{IsFirstBad, HasIdentity, IsOfStandby}
use Rattle.checkpoint.specs.Images.{image_state}
use Rattle.checkpoint.proofs.Walking.{told_now}
use Rattle.checkpoint.proofs.Whole.{first_bad_tells, nothing_bad, nothing_there, state_bad, state_there}
use Rattle.checkpoint.proofs.loading.load_all.Goals as goal

pub returns-in_err-found-clause-told : goal.returns-in_err-found-clause-told
returns-in_err-found-clause-told g c =
    let p = err_from_is_err_and c.from_residual.result c.from_residual.ensures.1 in
    rw (p.1, p.2) (first_bad_tells (g.K.Keeper.holds c.args.keeper.now) c.in_err-found.field-0.0 c.in_err-found.ensures.told)

pub returns-in_err-read_nothing-in-None-clause-told : goal.returns-in_err-read_nothing-in-None-clause-told
returns-in_err-read_nothing-in-None-clause-told g c =
    let p = err_from_is_err_and c.from_residual-in_err-read_nothing-in-None.result
    c.from_residual-in_err-read_nothing-in-None.ensures.1 in
    rw (p.1, p.2) (nothing_bad (g.K.Keeper.holds c.args.keeper.now) c.in_err-read_nothing-in-None.field-0.0
    (subst (λ (o : Option Identity). Told (g.K.Keeper.holds c.args.keeper.now) (λ s. IsOfStandby s o)) c.in-None.is
    c.in_ok-found.ensures.told)
    (told_now (g.K.Keeper.holds c.args.keeper.now) (g.K.Keeper.holds c.read_identity.new.keeper)
    (λ s. of_area 1 s ≡ [] → IsFirstBad s c.in_err-read_nothing-in-None.field-0.0) c.in_ok-found.ensures.same
    c.in_err-read_nothing-in-None.ensures.told))

pub returns-in_ok-read_nothing-in-None-clause-told : goal.returns-in_ok-read_nothing-in-None-clause-told
returns-in_ok-read_nothing-in-None-clause-told g c =
    nothing_there (g.K.Keeper.holds c.args.keeper.now)
    (subst (λ (o : Option Identity). Told (g.K.Keeper.holds c.args.keeper.now) (λ s. IsOfStandby s o)) c.in-None.is
    c.in_ok-found.ensures.told)
    (told_now (g.K.Keeper.holds c.args.keeper.now) (g.K.Keeper.holds c.read_identity.new.keeper)
    (λ s. of_area 1 s ≡ [] → loaded s ≡ Fresh)
    c.in_ok-found.ensures.same c.in_ok-read_nothing-in-None.ensures.told)

pub returns-in_err-image-in-Some-clause-told : goal.returns-in_err-image-in-Some-clause-told
returns-in_err-image-in-Some-clause-told g c =
    let p = err_from_is_err_and c.from_residual-in_err-image-in-Some.result c.from_residual-in_err-image-in-Some.ensures.1 in
    rw (p.1, p.2) (state_bad (g.K.Keeper.holds c.args.keeper.now) c.in-Some.identity c.in_err-image-in-Some.field-0.0
    (subst (λ (o : Option Identity). Told (g.K.Keeper.holds c.args.keeper.now) (λ s. IsOfStandby s o)) c.in-Some.is
    c.in_ok-found.ensures.told)
    (told_now (g.K.Keeper.holds c.args.keeper.now) (g.K.Keeper.holds c.read_identity.new.keeper)
    (λ s. HasIdentity s c.in-Some.identity → IsBadKey c.in_err-image-in-Some.field-0.0 (state_in s)) c.in_ok-found.ensures.same
    c.in_err-image-in-Some.ensures.read))

pub returns-in_ok-image-in-Some-clause-told : goal.returns-in_ok-image-in-Some-clause-told
returns-in_ok-image-in-Some-clause-told g c =
    state_there (g.K.Keeper.holds c.args.keeper.now) c.in-Some.identity c.in_ok-image-in-Some.image
    (subst (λ (o : Option Identity). Told (g.K.Keeper.holds c.args.keeper.now) (λ s. IsOfStandby s o)) c.in-Some.is
    c.in_ok-found.ensures.told)
    (told_now (g.K.Keeper.holds c.args.keeper.now) (g.K.Keeper.holds c.read_identity.new.keeper)
    (λ s. HasIdentity s c.in-Some.identity → state_in s ≡ Ok (image_state c.in_ok-image-in-Some.image)) c.in_ok-found.ensures.same
    c.in_ok-image-in-Some.ensures.read)

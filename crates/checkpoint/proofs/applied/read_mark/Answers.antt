use Rattle.std.proofs.Common.{rules, refl, sym, Some, None}
use Rattle.std.proofs.lemmas.Result.{err_from_is_err_and}
use Rattle.standby_spec.specs.Loading.{marks_in}
use Rattle.checkpoint.specs.Areas.{IsBadKey}
use Rattle.checkpoint.proofs.Alone.{mark_is, mark_none, mark_one, mark_two, mark_bad}
use Rattle.checkpoint.proofs.Walking.{none_bad, told_head, told_next, lies_next}
use Rattle.checkpoint.proofs.applied.read_mark.Goals as goal

pub returns-in_err-found-clause-read : goal.returns-in_err-found-clause-read
returns-in_err-found-clause-read g c =
    let p = err_from_is_err_and c.from_residual.result c.from_residual.ensures.1 in
    rw (p.1, p.2) (none_bad (g.K.Keeper.holds c.args.keeper.now) (g.K.Keeper.holds c.args.keeper.now) 7 c.of-start.result
    c.in_err-found.field-0.0 (λ s f. IsBadKey f (marks_in c.args.logs.now c.args.n s)) (λ s. tt) (λ s. tt) refl
    c.in_err-found.ensures.next)

pub returns-in_default-clause-read : goal.returns-in_default-clause-read
returns-in_default-clause-read g c =
    mark_none (g.K.Keeper.holds c.args.keeper.now) c.args.logs.now c.args.n (g.met.K.Keeper.lawful c.args.keeper.now)
    (told_head (g.K.Keeper.holds c.args.keeper.now) (g.K.Keeper.holds c.args.keeper.now) 7 c.of-start.result c.in_ok-found.found
    None refl (search rules) c.in_default.is c.in_ok-found.ensures.next)

pub returns-in_default-mark_in-clause-read : goal.returns-in_default-mark_in-clause-read
returns-in_default-mark_in-clause-read g c =
    mark_bad (g.K.Keeper.holds c.args.keeper.now) c.args.logs.now c.args.n c.in-Some.pair
    (g.met.K.Keeper.lawful c.args.keeper.now)
    (told_head (g.K.Keeper.holds c.args.keeper.now) (g.K.Keeper.holds c.args.keeper.now) 7 c.of-start.result c.in_ok-found.found
    (Some c.in-Some.pair) refl (search rules) c.in-Some.is c.in_ok-found.ensures.next)
    (sym (rw (c.bytes.ensures.same, c.bytes-2.ensures.same, c.in_default-mark_in.is) at (c.mark_in.ensures.exact None)))

pub returns-in_err-behind-clause-read : goal.returns-in_err-behind-clause-read
returns-in_err-behind-clause-read g c =
    let p = err_from_is_err_and c.from_residual-in_err-behind.result c.from_residual-in_err-behind.ensures.1 in
    rw (p.1, p.2) (none_bad (g.K.Keeper.holds c.args.keeper.now) (g.K.Keeper.holds c.next.new.keeper) 7 c.in-Some.pair.key
    c.in_err-behind.field-0.0 (λ s f. IsBadKey f (marks_in c.args.logs.now c.args.n s)) (λ s. tt) (λ s. tt)
    c.in_ok-found.ensures.same c.in_err-behind.ensures.next)

pub returns-in-None-clause-read : goal.returns-in-None-clause-read
returns-in-None-clause-read g c =
    mark_one (g.K.Keeper.holds c.args.keeper.now) c.args.logs.now c.args.n c.in-Some.pair (Some c.in-Some-mark_in.mark)
    (g.met.K.Keeper.lawful c.args.keeper.now)
    (told_head (g.K.Keeper.holds c.args.keeper.now) (g.K.Keeper.holds c.args.keeper.now) 7 c.of-start.result c.in_ok-found.found
    (Some c.in-Some.pair) refl (search rules) c.in-Some.is c.in_ok-found.ensures.next)
    (sym (rw (c.bytes.ensures.same, c.bytes-2.ensures.same, c.in-Some-mark_in.is) at (c.mark_in.ensures.exact None)))
    (told_next (g.K.Keeper.holds c.args.keeper.now) (g.K.Keeper.holds c.next.new.keeper) 7 c.in-Some.pair.key
    c.in_ok-behind.behind None c.in_ok-found.ensures.same c.in-None.is c.in_ok-behind.ensures.next)

pub returns-in-None-clause-mark : goal.returns-in-None-clause-mark
returns-in-None-clause-mark g c =
    (mark_is c.args.logs.now c.args.n c.in-Some-mark_in.mark c.in-Some.pair.key c.in-Some.pair.value
    c.hold_bytes.ensures
    (sym (rw (c.bytes.ensures.same, c.bytes-2.ensures.same, c.in-Some-mark_in.is) at (c.mark_in.ensures.exact None)))).0

pub returns-in-None-clause-placed : goal.returns-in-None-clause-placed
returns-in-None-clause-placed g c =
    (mark_is c.args.logs.now c.args.n c.in-Some-mark_in.mark c.in-Some.pair.key c.in-Some.pair.value
    c.hold_bytes.ensures
    (sym (rw (c.bytes.ensures.same, c.bytes-2.ensures.same, c.in-Some-mark_in.is) at (c.mark_in.ensures.exact None)))).1

pub returns-clause-read : goal.returns-clause-read
returns-clause-read g c =
    mark_two (g.K.Keeper.holds c.args.keeper.now) c.args.logs.now c.args.n c.in-Some.pair c.in-Some-behind.other
    (Some c.in-Some-mark_in.mark) (g.met.K.Keeper.lawful c.args.keeper.now)
    (told_head (g.K.Keeper.holds c.args.keeper.now) (g.K.Keeper.holds c.args.keeper.now) 7 c.of-start.result c.in_ok-found.found
    (Some c.in-Some.pair) refl (search rules) c.in-Some.is c.in_ok-found.ensures.next)
    (sym (rw (c.bytes.ensures.same, c.bytes-2.ensures.same, c.in-Some-mark_in.is) at (c.mark_in.ensures.exact None)))
    (told_next (g.K.Keeper.holds c.args.keeper.now) (g.K.Keeper.holds c.next.new.keeper) 7 c.in-Some.pair.key
    c.in_ok-behind.behind (Some c.in-Some-behind.other) c.in_ok-found.ensures.same c.in-Some-behind.is
    c.in_ok-behind.ensures.next)
    (lies_next c.in-Some.pair.key c.in_ok-behind.behind c.in-Some-behind.other c.in-Some-behind.is c.in_ok-behind.ensures.above)

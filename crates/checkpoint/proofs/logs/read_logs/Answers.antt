use Rattle.std.proofs.Common.{rules, refl, ap, ◌∙◌, [], Some, None, Ok}
use Rattle.std.proofs.lemmas.Result.{err_from_is_err_and}
use Rattle.standby_spec.specs.Loading.{logs_in, log_step}
use Rattle.kept_layout.specs.Pairs.{identity_of}
use Rattle.checkpoint.specs.Areas.{IsBadKey}
use Rattle.checkpoint.proofs.LogLaws.{no_logs_yet}
use Rattle.checkpoint.proofs.Walking.{none_bad, told_start, told_on, told_bad, told_through, told_next, lies_next}
use Rattle.checkpoint.proofs.logs.read_logs.Goals as goal

pub loop-init : goal.loop-init
loop-init g c = record {
  told = told_start (g.K.Keeper.holds c.args.keeper.now) 2 (log_step (identity_of c.args.identity)) [] _ _ (search rules)
      (search rules) (g.met.K.Keeper.lawful c.args.keeper.now);
  read = no_logs_yet c.args.identity _ _ _ (search rules) refl;
  same = search rules;
  none = search rules;
  later = search rules;
}

pub returns-in_err-found-clause-read : goal.returns-in_err-found-clause-read
returns-in_err-found-clause-read g c =
    let p = err_from_is_err_and c.from_residual.result c.from_residual.ensures.1 in
    rw (p.1, p.2) (none_bad (g.K.Keeper.holds c.args.keeper.now) (g.K.Keeper.holds c.loop.keeper) 2 c.loop.last
    c.in_err-found.field-0.0 (λ s f. IsBadKey f (logs_in (identity_of c.args.identity) s)) (λ s. tt) (λ s. tt)
    c.loop.invariant.same c.in_err-found.ensures.next)

pub returns-in_default-clause-read : goal.returns-in_default-clause-read
returns-in_default-clause-read g c =
    told_through (g.K.Keeper.holds c.args.keeper.now) 2 (log_step (identity_of c.args.identity)) [] c.loop.read.logs c.loop.last
    c.loop.invariant.told
    (told_next (g.K.Keeper.holds c.args.keeper.now) (g.K.Keeper.holds c.loop.keeper) 2 c.loop.last c.in_ok-found.found None
    c.loop.invariant.same c.in_default.is c.in_ok-found.ensures.next)

pub take_log-requires-clause-above : goal.take_log-requires-clause-above
take_log-requires-clause-above g c = lies_next c.loop.last c.in_ok-found.found c.in-Some.pair c.in-Some.is
    c.in_ok-found.ensures.above

pub returns-then-not-branch-clause-read : goal.returns-then-not-branch-clause-read
returns-then-not-branch-clause-read g c =
    told_bad (g.K.Keeper.holds c.args.keeper.now) 2 (log_step (identity_of c.args.identity)) [] c.loop.read.logs c.loop.last
    c.in-Some.pair c.loop.invariant.told
    (told_next (g.K.Keeper.holds c.args.keeper.now) (g.K.Keeper.holds c.loop.keeper) 2 c.loop.last c.in_ok-found.found
    (Some c.in-Some.pair) c.loop.invariant.same c.in-Some.is c.in_ok-found.ensures.next)
    (c.in_ok-take_log.ensures.refused (ap Ok c.if-not-branch.true))

pub loop-preserved : goal.loop-preserved
loop-preserved g c = record {
  told = told_on (g.K.Keeper.holds c.args.keeper.now) 2 (log_step (identity_of c.args.identity)) [] c.loop.read.logs
      c.take_log.new.read.logs c.loop.last c.in-Some.pair c.loop.invariant.told
      (told_next (g.K.Keeper.holds c.args.keeper.now) (g.K.Keeper.holds c.loop.keeper) 2 c.loop.last c.in_ok-found.found
      (Some c.in-Some.pair) c.loop.invariant.same c.in-Some.is c.in_ok-found.ensures.next)
      (c.in_ok-take_log.ensures.taken (ap Ok c.if-not-branch.false));
  read = c.in_ok-take_log.ensures.read (ap Ok c.if-not-branch.false);
  same = c.in_ok-found.ensures.same ∙ c.loop.invariant.same;
  none = search rules;
  later = search rules;
}

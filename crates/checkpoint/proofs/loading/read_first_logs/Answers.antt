use Rattle.std.proofs.Common.{◌≡◌, sym, ◌∙◌, Ok, arith}
use Rattle.std.proofs.lemmas.Result.{err_from_is_err_and}
use Rattle.standby_spec.specs.Loading.{logs_in}
use Rattle.kept_layout.specs.Pairs.{identity_of}
use Rattle.checkpoint.specs.Areas.{IsBadKey}
use Rattle.checkpoint.specs.Beginning.{HasIdentity}
use Rattle.checkpoint.proofs.Whole.{told_given, first_lost}
use Rattle.checkpoint.proofs.loading.read_first_logs.Goals as goal

pub returns-in_err-logs-clause-read : goal.returns-in_err-logs-clause-read
returns-in_err-logs-clause-read g c =
    let p = err_from_is_err_and c.from_residual.result c.from_residual.ensures.1 in
    rw (p.1, p.2) (told_given (g.K.Keeper.holds c.args.keeper.now) (λ s. IsBadKey c.in_err-logs.field-0.0
    (logs_in (identity_of c.args.identity) s))
    (λ s. HasIdentity s c.args.identity) c.in_err-logs.ensures.read)

pub returns-then-has-clause-read : goal.returns-then-has-clause-read
returns-then-has-clause-read g c =
    told_given (g.K.Keeper.holds c.args.keeper.now) (λ s. logs_in (identity_of c.args.identity) s ≡ Ok c.in_ok-logs.logs)
    (λ s. HasIdentity s c.args.identity) c.in_ok-logs.ensures.read

pub returns-then-has-clause-beginning : goal.returns-then-has-clause-beginning
returns-then-has-clause-beginning g c = sym c.has.ensures.there ∙ c.if-has.true

pub returns-clause-read : goal.returns-clause-read
returns-clause-read g c =
    let inv = c.drop-logs-inside-2.type_inv in
    first_lost (g.K.Keeper.holds c.args.keeper.now) c.args.identity c.in_ok-logs.logs _ (omega arith)
    (sym c.has.ensures.there ∙ c.if-has.false) c.in_ok-logs.ensures.read

use Rattle.std.proofs.Common.{◌≡◌, ◌∙◌, Ok, arith}
use Rattle.std.proofs.lemmas.Result.{err_from_is_err_and}
use Rattle.standby_spec.specs.Loading.{applied_in, marks_in}
use Rattle.checkpoint.specs.Areas.{IsBadKey}
use Rattle.checkpoint.specs.Read.{contents_in}
use Rattle.checkpoint.proofs.Walking.{told_now}
use Rattle.checkpoint.proofs.Whole.{state_no_logs, state_no_contents, state_no_applied, state_no_mark, whole_state}
use Rattle.checkpoint.proofs.loading.read_state.Goals as goal

pub returns-in_err-logs-clause-read : goal.returns-in_err-logs-clause-read
returns-in_err-logs-clause-read g c =
    let p = err_from_is_err_and c.from_residual.result c.from_residual.ensures.1 in
    rw (p.1, p.2) (state_no_logs (g.K.Keeper.holds c.args.keeper.now) c.args.identity c.in_err-logs.field-0.0
    c.in_err-logs.ensures.read)

pub returns-in_err-skips-clause-read : goal.returns-in_err-skips-clause-read
returns-in_err-skips-clause-read g c =
    let p = err_from_is_err_and c.from_residual-in_err-skips.result c.from_residual-in_err-skips.ensures.1 in
    rw (p.1, p.2) (state_no_contents (g.K.Keeper.holds c.args.keeper.now) c.args.identity c.in_ok-logs.logs
    c.in_err-skips.field-0.0 c.in_ok-logs.ensures.read
    (told_now (g.K.Keeper.holds c.args.keeper.now) (g.K.Keeper.holds c.read_first_logs.new.keeper)
    (λ s. IsBadKey c.in_err-skips.field-0.0 (contents_in s))
    (c.in_ok-logs.ensures.same) c.in_err-skips.ensures.read))

pub returns-in_err-n-clause-read : goal.returns-in_err-n-clause-read
returns-in_err-n-clause-read g c =
    let p = err_from_is_err_and c.from_residual-in_err-n.result c.from_residual-in_err-n.ensures.1 in
    rw (p.1, p.2) (state_no_applied (g.K.Keeper.holds c.args.keeper.now) c.args.identity c.in_ok-logs.logs
    (c.in_ok-skips.skips, c.in_ok-skips.tables.tables)
    c.in_err-n.field-0.0 c.in_ok-logs.ensures.read
    (told_now (g.K.Keeper.holds c.args.keeper.now) (g.K.Keeper.holds c.read_first_logs.new.keeper)
    (λ s. contents_in s ≡ Ok (c.in_ok-skips.skips, c.in_ok-skips.tables.tables))
    (c.in_ok-logs.ensures.same) c.in_ok-skips.ensures.read)
    (told_now (g.K.Keeper.holds c.args.keeper.now) (g.K.Keeper.holds c.read_contents.new.keeper)
    (λ s. IsBadKey c.in_err-n.field-0.0 (applied_in s))
    (c.in_ok-skips.ensures.same ∙ c.in_ok-logs.ensures.same) c.in_err-n.ensures.read))

pub returns-in_err-mark-clause-read : goal.returns-in_err-mark-clause-read
returns-in_err-mark-clause-read g c =
    let p = err_from_is_err_and c.from_residual-in_err-mark.result c.from_residual-in_err-mark.ensures.1 in
    rw (p.1, p.2) (state_no_mark (g.K.Keeper.holds c.args.keeper.now) c.args.identity c.in_ok-logs.logs
    (c.in_ok-skips.skips, c.in_ok-skips.tables.tables)
    (c.in_ok-n.n, c.in_ok-n.scn) c.in_err-mark.field-0.0 c.in_ok-logs.ensures.read
    (told_now (g.K.Keeper.holds c.args.keeper.now) (g.K.Keeper.holds c.read_first_logs.new.keeper)
    (λ s. contents_in s ≡ Ok (c.in_ok-skips.skips, c.in_ok-skips.tables.tables))
    (c.in_ok-logs.ensures.same) c.in_ok-skips.ensures.read)
    (told_now (g.K.Keeper.holds c.args.keeper.now) (g.K.Keeper.holds c.read_contents.new.keeper)
    (λ s. applied_in s ≡ Ok (c.in_ok-n.n, c.in_ok-n.scn))
    (c.in_ok-skips.ensures.same ∙ c.in_ok-logs.ensures.same) c.in_ok-n.ensures.read)
    (told_now (g.K.Keeper.holds c.args.keeper.now) (g.K.Keeper.holds c.read_applied.new.keeper)
    (λ s. IsBadKey c.in_err-mark.field-0.0 (marks_in c.in_ok-logs.logs c.in_ok-n.n s))
    (c.in_ok-n.ensures.same ∙ c.in_ok-skips.ensures.same ∙ c.in_ok-logs.ensures.same) c.in_err-mark.ensures.read))

pub returns-clause-read : goal.returns-clause-read
returns-clause-read g c =
    whole_state (g.K.Keeper.holds c.args.keeper.now) c.args.identity c.in_ok-logs.logs
    (c.in_ok-skips.skips, c.in_ok-skips.tables.tables)
    (c.in_ok-n.n, c.in_ok-n.scn) c.in_ok-mark.mark c.in_ok-logs.ensures.read
    (told_now (g.K.Keeper.holds c.args.keeper.now) (g.K.Keeper.holds c.read_first_logs.new.keeper)
    (λ s. contents_in s ≡ Ok (c.in_ok-skips.skips, c.in_ok-skips.tables.tables))
    (c.in_ok-logs.ensures.same) c.in_ok-skips.ensures.read)
    (told_now (g.K.Keeper.holds c.args.keeper.now) (g.K.Keeper.holds c.read_contents.new.keeper)
    (λ s. applied_in s ≡ Ok (c.in_ok-n.n, c.in_ok-n.scn))
    (c.in_ok-skips.ensures.same ∙ c.in_ok-logs.ensures.same) c.in_ok-n.ensures.read)
    (told_now (g.K.Keeper.holds c.args.keeper.now) (g.K.Keeper.holds c.read_applied.new.keeper)
    (λ s. marks_in c.in_ok-logs.logs c.in_ok-n.n s ≡ Ok c.in_ok-mark.mark)
    (c.in_ok-n.ensures.same ∙ c.in_ok-skips.ensures.same ∙ c.in_ok-logs.ensures.same) c.in_ok-mark.ensures.read)

pub returns-clause-layout : goal.returns-clause-layout
returns-clause-layout g c =
    let contents = c.in_ok-skips.ensures.contents in
    let inv = c.branch-mark.type_inv in
    record {
      dbid = omega arith;
      first = omega arith;
      base = omega arith;
      logs = c.in_ok-logs.ensures.logs;
      rising = c.in_ok-logs.ensures.rising;
      beginning = c.in_ok-logs.ensures.beginning;
      few_logs = c.in_ok-logs.ensures.few;
      tables = contents.tables;
      accepted = contents.accepted;
      ids = contents.ids;
      rules = contents.skips;
      differ = contents.differ;
      values = contents.rows.values;
      sound = contents.rows.sound;
      few_rows = contents.few;
      n = c.in_ok-n.ensures.few;
      scn = omega arith;
      mark = c.in_ok-mark.ensures.mark;
      placed = c.in_ok-mark.ensures.placed;
    }

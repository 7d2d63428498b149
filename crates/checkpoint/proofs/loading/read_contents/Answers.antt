use Rattle.std.proofs.Common.{◌≡◌, sym, subst, ap, ◌∙◌, List, [], Ok}
use Rattle.std.proofs.lemmas.Result.{err_from_is_err_and}
use Rattle.std.specs.List.{AllByRecursion}
use Rattle.redo_vec.specs.declared.table.TableRow.{TableRow}
use Rattle.redo_vec.specs.Ranges.{IsTable}
use Rattle.redo_spec.specs.Dictionary.{ids_rise}
use Rattle.standby_spec.specs.HasLayout.{AreAcceptedBehind}
use Rattle.standby_spec.specs.Loading.{skips_in, rows_in}
use Rattle.checkpoint.specs.Areas.{IsBadKey}
use Rattle.checkpoint.proofs.Walking.{told_now}
use Rattle.checkpoint.proofs.Whole.{no_tables, no_rules, no_rows, all_contents}
use Rattle.checkpoint.proofs.loading.read_contents.Goals as goal

pub returns-in_err-dict-clause-read : goal.returns-in_err-dict-clause-read
returns-in_err-dict-clause-read g c =
    let p = err_from_is_err_and c.from_residual.result c.from_residual.ensures.1 in
    rw (p.1, p.2) (no_tables (g.K.Keeper.holds c.args.keeper.now) c.in_err-dict.field-0.0 c.in_err-dict.ensures.read)

pub returns-in_err-skips-clause-read : goal.returns-in_err-skips-clause-read
returns-in_err-skips-clause-read g c =
    let p = err_from_is_err_and c.from_residual-in_err-skips.result c.from_residual-in_err-skips.ensures.1 in
    rw (p.1, p.2) (no_rules (g.K.Keeper.holds c.args.keeper.now) c.in_ok-dict.dict.tables c.in_err-skips.field-0.0
    c.in_ok-dict.ensures.read
    (told_now (g.K.Keeper.holds c.args.keeper.now) (g.K.Keeper.holds c.read_tables.new.keeper)
    (λ s. IsBadKey c.in_err-skips.field-0.0 (skips_in s)) c.in_ok-dict.ensures.same c.in_err-skips.ensures.read))

pub returns-in_err-tables-clause-read : goal.returns-in_err-tables-clause-read
returns-in_err-tables-clause-read g c =
    let p = err_from_is_err_and c.from_residual-in_err-tables.result c.from_residual-in_err-tables.ensures.1 in
    rw (p.1, p.2) (no_rows (g.K.Keeper.holds c.args.keeper.now) c.in_ok-dict.dict.tables c.in_ok-skips.skips
    c.in_err-tables.field-0.0
    c.in_ok-dict.ensures.read
    (told_now (g.K.Keeper.holds c.args.keeper.now) (g.K.Keeper.holds c.read_tables.new.keeper)
    (λ s. skips_in s ≡ Ok c.in_ok-skips.skips)
    c.in_ok-dict.ensures.same c.in_ok-skips.ensures.read)
    (told_now (g.K.Keeper.holds c.args.keeper.now) (g.K.Keeper.holds c.read_rules.new.keeper)
    (λ s. IsBadKey c.in_err-tables.field-0.0 (rows_in c.in_ok-dict.dict.tables s))
    (c.in_ok-skips.ensures.same ∙ c.in_ok-dict.ensures.same) c.in_err-tables.ensures.read))

pub returns-clause-read : goal.returns-clause-read
returns-clause-read g c =
    all_contents (g.K.Keeper.holds c.args.keeper.now) c.in_ok-dict.dict.tables c.in_ok-skips.skips c.in_ok-tables.tables.tables
    c.in_ok-dict.ensures.read
    (told_now (g.K.Keeper.holds c.args.keeper.now) (g.K.Keeper.holds c.read_tables.new.keeper)
    (λ s. skips_in s ≡ Ok c.in_ok-skips.skips)
    c.in_ok-dict.ensures.same c.in_ok-skips.ensures.read)
    (told_now (g.K.Keeper.holds c.args.keeper.now) (g.K.Keeper.holds c.read_rules.new.keeper)
    (λ s. rows_in c.in_ok-dict.dict.tables s ≡ Ok c.in_ok-tables.tables.tables)
    (c.in_ok-skips.ensures.same ∙ c.in_ok-dict.ensures.same) c.in_ok-tables.ensures.read)

pub returns-clause-contents : goal.returns-clause-contents
returns-clause-contents g c =
    let back = sym c.in_ok-tables.ensures.defined in
    record {
      whole = ap (λ d. d.finished) c.in_ok-tables.ensures.dictionary ∙ c.in_ok-dict.ensures.whole;
      tables = subst (λ (ts : List TableRow). AllByRecursion IsTable ts) back c.in_ok-dict.ensures.tables;
      accepted = subst (λ (ts : List TableRow). AreAcceptedBehind [] ts) back c.in_ok-dict.ensures.accepted;
      ids = ap (ids_rise 0) (sym back) ∙ c.tables-tables.ensures.rise;
      skips = c.in_ok-skips.ensures.rules;
      differ = c.entries-rules.ensures.form;
      rows = c.in_ok-tables.ensures.rows;
      few = c.in_ok-tables.ensures.few;
    }

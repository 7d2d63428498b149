use Rattle.std.proofs.Common.{◌≡◌, sym, ◌∙◌, ap, None, Some, Err}
use Rattle.redo_spec.specs.ChangeForm.{is_row_of}
use Rattle.redo_spec.specs.Effect.{add_row, difference, effect_on}
use Rattle.redo_vec.specs.declared.change.Op.TheVariants.{Update}
use Rattle.row_apply.specs.Adding.{table_without}
use Rattle.row_apply.specs.Kept.{rows_seen, table_seen}
use Rattle.row_apply.proofs.Accepted.{update_fits}
use Rattle.row_apply.proofs.Changing.{update_joins}
use Rattle.row_apply.proofs.Keeping.{on_ok, on_miss}
use Rattle.row_apply.proofs.Touched.{update_written}
use Rattle.row_apply.proofs.Untouched.{update_only}
use Rattle.row_apply.proofs.change_effect.update.Goals as goal

pub returns : goal.returns
returns g c =
    let tables = g.R.Rows.tables c.args.base.now in
    let t = c.args.table.now in
    let change = c.args.change.now in
    let old = c.args.over.now.rows.entries in
    let new = c.add.new.over.rows.entries in
    let key = c.in-Ok.key in
    let row = c.in-Some.row.now in
    let after = c.in-Ok-row_with_cells.after in
    let can = c.requires.can in
    let made = c.in-Ok-row_with_cells.ensures in
    let logged : difference row change.old ≡ None = (λ i. difference (sym c.values.ensures.same i) (sym c.cells.ensures.same i)) ∙
    c.in_ok-check_logged.ensures.same in
    let joins = update_joins t (rows_seen tables old t) key row after change.old change.new c.in-Ok.ensures
    (sym c.in-Some.ensures) logged made in
    record {
      changes = record {
        done = λ s. on_ok c.add.result (λ h. joins ∙ h) (c.add.ensures.done s);
        miss = λ s. on_miss c.add.result (λ miss. add_row (table_without (Some key.values) tables old t) after ≡ Err miss)
            (λ miss. effect_on (table_seen tables old t) Update change.old change.new ≡ Err miss) (λ miss h. joins ∙ h)
            (c.add.ensures.miss s);
        sound = λ s. c.add.ensures.sound s (ap (is_row_of t.columns) made ∙
            update_fits tables old t change key.values row s.sound can.accepted (sym c.in-Some.ensures));
        unchanged = c.add.ensures.unchanged;
        kept = c.add.ensures.kept;
        others = c.add.ensures.others;
        only = on_ok c.add.result
            (update_only t change can.keys can.form can.accepted old new key row after c.requires.op c.requires.update
            c.cells.ensures.rising c.in-Ok.ensures made logged)
            c.add.ensures.only;
        written = on_ok c.add.result
            (update_written t change can.keys can.form can.accepted new key row after c.requires.op c.requires.update
            c.cells.ensures.rising c.in-Ok.ensures made logged)
            c.add.ensures.written;
      };
    }

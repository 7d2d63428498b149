use Rattle.std.proofs.Common.{◌≡◌, ◌∙◌, ap, subst, List, None, Ok, Err}
use Rattle.std.specs.Prelude.{OnOk}
use Rattle.rl_value.specs.declared.value.Value.{Value}
use Rattle.redo_spec.specs.ChangeForm.{is_row_of}
use Rattle.redo_spec.specs.Effect.{add_row}
use Rattle.redo_spec.specs.Tables.{primary_key}
use Rattle.row_apply.specs.Kept.{SlotsOnly, AreWritten, keys_put, row_key, table_seen}
use Rattle.row_apply.specs.Outcomes.{OnMiss}
use Rattle.row_apply.proofs.Accepted.{insert_fits}
use Rattle.row_apply.proofs.Keeping.{on_ok}
use Rattle.row_apply.proofs.Touched.{insert_written}
use Rattle.row_apply.proofs.Untouched.{insert_only}
use Rattle.row_apply.proofs.change_effect.insert.Goals as goal

pub returns : goal.returns
returns g c =
    let tables = g.R.Rows.tables c.args.base.now in
    let t = c.args.table.now in
    let old = c.args.over.now.rows.entries in
    let new = c.add.new.over.rows.entries in
    let can = c.requires.can in
    record {
      changes = record {
        done = λ s. subst (λ (row : List Value). OnOk c.add.result
            (add_row (table_seen tables old t) row ≡ Ok (table_seen tables new t))) c.in-Ok.ensures (c.add.ensures.done s);
        miss = λ s. subst (λ (row : List Value). OnMiss c.add.result (λ miss. add_row (table_seen tables old t) row ≡ Err miss))
            c.in-Ok.ensures (c.add.ensures.miss s);
        sound = λ s. c.add.ensures.sound s (ap (is_row_of t.columns) c.in-Ok.ensures ∙
            insert_fits t c.args.change.now c.requires.op c.cells-cells.ensures.rising can.accepted);
        unchanged = c.add.ensures.unchanged;
        kept = c.add.ensures.kept;
        others = c.add.ensures.others;
        only = on_ok c.add.result
            (λ only. insert_only t c.args.change.now can.keys can.form can.accepted old new c.requires.op
            c.cells-cells.ensures.rising
            (subst (λ (row : List Value). SlotsOnly (keys_put None (row_key t.id (primary_key t row))) old new)
            c.in-Ok.ensures only))
            c.add.ensures.only;
        written = on_ok c.add.result
            (λ written. insert_written t c.args.change.now can.keys can.form can.accepted new c.requires.op
            c.cells-cells.ensures.rising
            (subst (λ (row : List Value). AreWritten (keys_put None (row_key t.id (primary_key t row))) new)
            c.in-Ok.ensures written))
            c.add.ensures.written;
      };
    }

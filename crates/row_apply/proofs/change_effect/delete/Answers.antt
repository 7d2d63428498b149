use Rattle.std.proofs.Common.{◌≡◌, ℕ, sym, subst, ◌∙◌, ap, None}
use Rattle.std.specs.FinMap.Entries as entries
use Rattle.rl_value.specs.declared.key.Key.{Key}
use Rattle.rl_value.specs.Order.{row_cmp}
use Rattle.redo_spec.specs.Effect.{logged_key, difference}
use Rattle.row_apply.specs.Kept.{ChangesOnly, rows_seen}
use Rattle.row_apply.proofs.Joining.{take_done, take_sound}
use Rattle.row_apply.proofs.Slots.{sets-only}
use Rattle.row_apply.proofs.Touched.{delete_written}
use Rattle.row_apply.proofs.Untouched.{delete_only}
use Rattle.row_apply.proofs.change_effect.delete.Goals as goal

pub returns-in-Ok-take_row : goal.returns-in-Ok-take_row
returns-in-Ok-take_row g c =
    let tables = g.R.Rows.tables c.args.base.now in
    let t = c.args.table.now in
    let change = c.args.change.now in
    let old = c.args.over.now.rows.entries in
    let new = c.take_row.new.self.rows.entries in
    let key = c.in-Ok.key in
    let row = c.in-Some.row.now in
    let can = c.requires.can in
    let sets = c.in-Ok-take_row.ensures.set in
    let logged : difference row change.old ≡ None = (λ i. difference (sym c.values.ensures.same i) (sym c.cells.ensures.same i)) ∙
    c.in_ok-check_logged.ensures.same in
    record {
      changes = record {
        done = λ s. take_done tables old new t key (logged_key t change.old) row change.old can.there s.base_sound can.kept.slots
            c.take_row.ensures.kept.slots c.in-Ok.ensures sets
            (ap (λ (k : Key). entries.find row_cmp k.values (rows_seen tables old t)) (sym c.in-Ok.ensures) ∙
            sym c.in-Some.ensures) logged;
        miss = λ s. tt;
        sound = λ s. take_sound tables old new t key (logged_key t change.old) row change.old can.there s.base_sound
            can.kept.slots c.take_row.ensures.kept.slots c.in-Ok.ensures sets s.sound;
        unchanged = tt;
        kept = c.take_row.ensures.kept;
        others = subst (λ (id : ℕ). ChangesOnly id old new) (ap (λ (k : Key). k.table) c.in-Ok.ensures)
            (sets-only old new key None sets);
        only = delete_only t change can.keys can.form can.accepted old new key c.requires.op c.cells.ensures.rising
            c.in-Ok.ensures sets;
        written = delete_written t change can.keys can.form can.accepted new old key c.requires.op c.requires.delete
            c.cells.ensures.rising c.in-Ok.ensures sets;
      };
    }

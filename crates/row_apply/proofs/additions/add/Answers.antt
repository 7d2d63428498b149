use Rattle.std.proofs.Common.{◌≡◌, Err, rules, subst}
use Rattle.rl_value.specs.declared.key.Key.{Key}
use Rattle.redo_spec.specs.Effect.{add_row}
use Rattle.redo_spec.specs.Tables.{primary_key}
use Rattle.row_apply.specs.Adding.{table_without, values_of}
use Rattle.row_apply.specs.Kept.{Slots, Puts, row_key}
use Rattle.row_apply.specs.Outcomes.{OnMiss}
use Rattle.row_apply.proofs.Joining.{free_among, now_ready, add_done, add_sound}
use Rattle.row_apply.proofs.Touched.{puts_written}
use Rattle.row_apply.proofs.Untouched.{puts_only}
use Rattle.row_apply.proofs.additions.add.Goals as goal

pub put_row-requires-clause-free : goal.put_row-requires-clause-free
put_row-requires-clause-free g c at = free_among c.index_table.new.self.rows.entries c.args.table.now c.args.gone c.args.row
    c.requires.gone (c.in_ok-key.ensures.alone at)

pub returns-in-Ok-put_row-clause-done : goal.returns-in-Ok-put_row-clause-done
returns-in-Ok-put_row-clause-done g c s =
    let ready = now_ready (g.R.Rows.tables c.args.base.now) c.index_table.new.self c.args.table.now c.args.over.now.rows.entries
    c.requires.there c.index_table.ensures.kept c.index_table.ensures.slots c.in-Ok.ensures.indexed c.requires.kept.slots s in
    add_done (g.R.Rows.tables c.args.base.now) c.args.over.now.rows.entries c.index_table.new.self.rows.entries
    c.put_row.new.self.rows.entries c.args.table.now c.args.gone c.in_ok-key.key c.args.row c.requires.there
    s.base_sound c.requires.kept.slots c.put_row.ensures.kept.slots c.index_table.ensures.slots c.in_ok-key.ensures.key
    c.requires.gone c.in-Ok-put_row.ensures.put (c.in_ok-key.ensures.added ready)

pub returns-in-Ok-put_row-clause-sound : goal.returns-in-Ok-put_row-clause-sound
returns-in-Ok-put_row-clause-sound g c s fits =
    let ready = now_ready (g.R.Rows.tables c.args.base.now) c.index_table.new.self c.args.table.now c.args.over.now.rows.entries
    c.requires.there c.index_table.ensures.kept c.index_table.ensures.slots c.in-Ok.ensures.indexed c.requires.kept.slots s in
    add_sound (g.R.Rows.tables c.args.base.now) c.args.over.now.rows.entries c.index_table.new.self.rows.entries
    c.put_row.new.self.rows.entries c.args.table.now c.args.gone c.in_ok-key.key c.args.row c.requires.there
    s.base_sound c.requires.kept.slots c.put_row.ensures.kept.slots c.index_table.ensures.slots c.in_ok-key.ensures.key
    c.requires.gone c.in-Ok-put_row.ensures.put (c.in_ok-key.ensures.added ready) s.sound fits

pub returns-in-Ok-put_row-clause-only : goal.returns-in-Ok-put_row-clause-only
returns-in-Ok-put_row-clause-only g c =
    let key = row_key c.args.table.now.id (primary_key c.args.table.now c.args.row) in
    puts_only c.args.over.now.rows.entries c.put_row.new.self.rows.entries c.args.gone key c.args.row
    (subst (λ (es : Slots). Puts es c.put_row.new.self.rows.entries c.args.gone key c.args.row) c.index_table.ensures.slots
    (subst (λ (k : Key). Puts c.index_table.new.self.rows.entries c.put_row.new.self.rows.entries c.args.gone k c.args.row)
    c.in_ok-key.ensures.key c.in-Ok-put_row.ensures.put))

pub returns-in-Ok-put_row-clause-written : goal.returns-in-Ok-put_row-clause-written
returns-in-Ok-put_row-clause-written g c =
    puts_written c.index_table.new.self.rows.entries c.put_row.new.self.rows.entries c.args.gone
    (row_key c.args.table.now.id (primary_key c.args.table.now c.args.row)) c.args.row
    (subst (λ (k : Key). Puts c.index_table.new.self.rows.entries c.put_row.new.self.rows.entries c.args.gone k c.args.row)
    c.in_ok-key.ensures.key c.in-Ok-put_row.ensures.put)

pub returns-in_err-key-clause-miss : goal.returns-in_err-key-clause-miss
returns-in_err-key-clause-miss g c s =
    let tables = g.R.Rows.tables c.args.base.now in
    let ready = now_ready tables c.index_table.new.self c.args.table.now c.args.over.now.rows.entries c.requires.there
    c.index_table.ensures.kept c.index_table.ensures.slots c.in-Ok.ensures.indexed c.requires.kept.slots s in
    let missed = subst (λ (es : Slots). OnMiss c.free_key.result
    (λ miss. add_row (table_without (values_of c.args.gone) tables es c.args.table.now) c.args.row ≡ Err miss))
    c.index_table.ensures.slots (c.free_key.ensures.miss ready) in
    search (rules, missed)

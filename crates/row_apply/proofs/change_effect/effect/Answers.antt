use Rattle.std.proofs.Common.{◌≡◌, sym, subst, List, Ok, Err, true}
use Rattle.redo_spec.specs.Effect.{effect as effect_of, effect_on}
use Rattle.row_apply.specs.declared.writes.Write.{Write}
use Rattle.row_apply.specs.Kept.{table_seen}
use Rattle.redo_spec.specs.ConflictKeys.{conflict_keys, conflict_keys_in}
use Rattle.row_apply.specs.Overlaid.{overlaid, are_of, WritesOnly, WritesStay}
use Rattle.row_apply.specs.Soundness.{AreSound}
use Rattle.row_apply.specs.Written.{writes_in}
use Rattle.row_apply.proofs.Keeping.{on_ok, on_miss}
use Rattle.row_apply.proofs.Whole.{can_change, finds_sound, all_done, all_missed, all_sound, all_of}
use Rattle.row_apply.proofs.Touched.{writes_all, writes_stay}
use Rattle.row_apply.proofs.Untouched.{writes_only}
use Rattle.row_apply.proofs.Writing.{writes_rising}
use Rattle.row_apply.proofs.change_effect.effect.Goals as goal

pub change_rows-requires : goal.change_rows-requires
change_rows-requires g c = record {
  can = can_change (g.R.Rows.tables c.args.base.now) c.args.dict.now.tables c.in-Some.table.now c.args.change.now
      c.requires.definitions c.in-Some.ensures.found c.over.inside.written c.requires.accepted c.over.invariant
      c.in-Some.ensures.keys c.primary_columns-primary.ensures.form;
}

pub returns-clause-done : goal.returns-clause-done
returns-clause-done g c base sound =
    let tables = g.R.Rows.tables c.args.base.now in
    let changes = c.change_rows.ensures.changes in
    on_ok c.change_rows.result
    (λ h. subst (λ (ws : List Write). effect_of (overlaid tables ws) c.args.change.now ≡
    Ok (overlaid tables (writes_in c.change_rows.new.over.rows.entries))) c.over.view_is
    (all_done tables c.args.dict.now.tables c.in-Some.table.now c.args.change.now c.requires.definitions c.in-Some.ensures.found
    c.over.inside.written.rows.entries c.change_rows.new.over.rows.entries
    c.def.ensures.rising base c.over.invariant.slots changes.kept.slots changes.others h))
    (changes.done (finds_sound tables c.args.dict.now.tables c.in-Some.table.now c.args.change.now c.requires.definitions
    c.in-Some.ensures.found c.args.over.now c.over.inside.written.rows.entries c.over.view_is base sound))

pub returns-clause-miss : goal.returns-clause-miss
returns-clause-miss g c base sound =
    let tables = g.R.Rows.tables c.args.base.now in
    let changes = c.change_rows.ensures.changes in
    on_miss c.change_rows.result
    (λ miss. effect_on (table_seen tables c.over.inside.written.rows.entries c.in-Some.table.now) c.args.change.now.op
    c.args.change.now.old c.args.change.now.new ≡ Err miss)
    (λ miss. effect_of (overlaid tables c.args.over.now) c.args.change.now ≡ Err miss)
    (λ m h. subst (λ (ws : List Write). effect_of (overlaid tables ws) c.args.change.now ≡ Err m) c.over.view_is
    (all_missed tables c.args.dict.now.tables c.in-Some.table.now c.args.change.now c.requires.definitions c.in-Some.ensures.found
    c.over.inside.written.rows.entries c.change_rows.new.over.rows.entries
    c.def.ensures.rising base c.over.invariant.slots changes.kept.slots changes.others m h))
    (changes.miss (finds_sound tables c.args.dict.now.tables c.in-Some.table.now c.args.change.now c.requires.definitions
    c.in-Some.ensures.found c.args.over.now c.over.inside.written.rows.entries c.over.view_is base sound))

pub returns-clause-sound : goal.returns-clause-sound
returns-clause-sound g c base sound =
    let tables = g.R.Rows.tables c.args.base.now in
    let changes = c.change_rows.ensures.changes in
    all_sound tables c.args.dict.now.tables c.in-Some.table.now c.args.change.now c.requires.definitions c.in-Some.ensures.found
    c.over.inside.written.rows.entries c.change_rows.new.over.rows.entries
    c.def.ensures.rising base c.over.invariant.slots changes.kept.slots changes.others
    (subst (λ (ws : List Write). AreSound (overlaid tables ws)) (sym c.over.view_is) sound)
    (changes.sound (finds_sound tables c.args.dict.now.tables c.in-Some.table.now c.args.change.now c.requires.definitions
    c.in-Some.ensures.found c.args.over.now c.over.inside.written.rows.entries c.over.view_is base sound))

pub returns-clause-rising : goal.returns-clause-rising
returns-clause-rising g c = writes_rising c.change_rows.new.over.rows.entries c.change_rows.ensures.changes.kept.slots

pub returns-clause-grows : goal.returns-clause-grows
returns-clause-grows g c =
    let changes = c.change_rows.ensures.changes in
    subst (λ (ws : List Write). WritesStay ws (writes_in c.change_rows.new.over.rows.entries)) c.over.view_is
    (writes_stay c.change_rows.result (conflict_keys_in c.in-Some.table.now c.args.change.now) c.over.inside.written.rows.entries
    c.change_rows.new.over.rows.entries c.over.invariant.slots changes.kept.slots changes.unchanged
    changes.only changes.written)

pub returns-clause-of_tables : goal.returns-clause-of_tables
returns-clause-of_tables g c of =
    let changes = c.change_rows.ensures.changes in
    all_of (g.R.Rows.tables c.args.base.now) c.args.dict.now.tables c.in-Some.table.now c.args.change.now c.requires.definitions
    c.in-Some.ensures.found c.over.inside.written.rows.entries c.change_rows.new.over.rows.entries
    changes.kept.slots changes.others (subst (λ (ws : List Write). are_of c.args.dict.now.tables ws ≡ true)
    (sym c.over.view_is) of)

pub returns-clause-only : goal.returns-clause-only
returns-clause-only g c =
    let changes = c.change_rows.ensures.changes in
    on_ok c.change_rows.result
    (λ only. subst (λ (ws : List Write). WritesOnly (conflict_keys c.args.dict.now.tables c.args.change.now) ws
    (writes_in c.change_rows.new.over.rows.entries)) c.over.view_is
    (writes_only c.args.dict.now.tables c.in-Some.table.now c.args.change.now c.over.inside.written.rows.entries
    c.change_rows.new.over.rows.entries c.in-Some.ensures.found c.over.invariant.slots.primary
    changes.kept.slots.primary only))
    changes.only

pub returns-clause-written : goal.returns-clause-written
returns-clause-written g c =
    let changes = c.change_rows.ensures.changes in
    on_ok c.change_rows.result
    (writes_all (g.R.Rows.tables c.args.base.now) c.args.dict.now.tables c.in-Some.table.now c.args.change.now
    c.change_rows.new.over.rows.entries c.requires.definitions c.in-Some.ensures.found changes.kept.slots)
    changes.written

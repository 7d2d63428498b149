use Rattle.std.proofs.Common.{◌∙◌, refl, sym, ap}
use Rattle.std.specs.List.{list_any}
use Rattle.rl_value.specs.declared.key.Key.{Key}
use Rattle.redo_spec.specs.ConflictKeys.{is_null}
use Rattle.redo_spec.specs.Tables.{definitions_of, values_at}
use Rattle.redo_spec.specs.Work.{rows_of}
use Rattle.row_apply.proofs.Seeing.{key_there}
use Rattle.checkpoint.proofs.TakenLaws.{null_not_taken, owner_tells}
use Rattle.checkpoint.proofs.rows.is_taken_at.Goals as goal

pub returns-then-has_null : goal.returns-then-has_null
returns-then-has_null c =
    null_not_taken c.args.table.now (rows_of c.args.tables.now.tables c.args.table.now.id) c.args.index c.args.columns.now
    (values_at c.args.row.now c.args.columns.now)
    (ap (list_any is_null) (sym (c.values-2.ensures.same ∙ c.in_ok-values.ensures.value)) ∙ sym c.has_null.ensures.value ∙
    c.if-has_null.true)

pub owner-requires-clause-there : goal.owner-requires-clause-there
owner-requires-clause-there c =
    key_there (definitions_of c.args.tables.now.tables) c.args.table.now c.args.table.now.id c.args.index c.args.columns.now
    c.requires.there refl c.requires.columns

pub returns-in-None : goal.returns-in-None
returns-in-None c =
    let key : Key = record { table = c.args.table.now.id; index = c.args.index; values = c.in_ok-values.values } in
    rw (sym c.in_ok-values.ensures.value) (owner_tells c.args.tables.now.tables c.args.table.now key c.args.columns.now _
    c.requires.there c.requires.columns
    (ap (list_any is_null) (sym c.values-2.ensures.same) ∙ sym c.has_null.ensures.value ∙ c.if-has_null.false)
    (c.in-None.ensures.owner c.requires.sound))

pub returns : goal.returns
returns c =
    let key : Key = record { table = c.args.table.now.id; index = c.args.index; values = c.in_ok-values.values } in
    rw (sym c.in_ok-values.ensures.value) (owner_tells c.args.tables.now.tables c.args.table.now key c.args.columns.now _
    c.requires.there c.requires.columns
    (ap (list_any is_null) (sym c.values-2.ensures.same) ∙ sym c.has_null.ensures.value ∙ c.if-has_null.false)
    (c.in-Some.ensures.owner c.requires.sound))

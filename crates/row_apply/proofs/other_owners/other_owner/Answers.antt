use Rattle.std.proofs.Common.{◌≡◌, sym, subst, ◌∙◌, Option, None, List}
use Rattle.std.specs.Prelude.{IfOk}
use Rattle.std.specs.Option.{option_copied}
use Rattle.rl_value.specs.declared.value.Value.{Value}
use Rattle.redo_spec.specs.Tables.{definitions_of}
use Rattle.row_apply.specs.Adding.{values_of, HasIndex, IsUnownedBut}
use Rattle.row_apply.specs.KeptIn.{slots_of}
use Rattle.row_apply.proofs.Keeping.{each_ok}
use Rattle.row_apply.proofs.Seeing.{unowned_none, unowned_other, other_owner_written, other_owner_nowhere, other_owner_beneath, key_there}
use Rattle.row_apply.proofs.other_owners.other_owner.Goals as goal

pub returns-in-Some-clause-free : goal.returns-in-Some-clause-free
returns-in-Some-clause-free g c none at =
    unowned_other c.args.over.now c.args.table.now c.args.key.now c.args.columns.now (values_of c.args.gone.now) c.requires.kept
    at c.requires.table c.requires.unique c.requires.columns c.requires.filled
    c.in-Some.owner.now (sym c.in-Some.ensures) (sym c.other_than.ensures ∙ none)

pub returns-in-Some-clause-owner : goal.returns-in-Some-clause-owner
returns-in-Some-clause-owner g c ready =
    c.other_than.ensures
    ∙ other_owner_written (g.R.Rows.tables c.args.base.now) c.args.over.now c.args.table.now c.args.key.now c.args.columns.now
    (values_of c.args.gone.now) ready c.requires.table c.requires.unique
    c.requires.columns c.requires.filled c.in-Some.owner.now (sym c.in-Some.ensures)

pub owner-requires-clause-there : goal.owner-requires-clause-there
owner-requires-clause-there g c =
    key_there (definitions_of (g.R.Rows.tables c.args.base.now)) c.args.table.now c.args.key.now.table c.args.key.now.index
    c.args.columns.now c.requires.there c.requires.table c.requires.columns

pub returns-in-None-owner-clause-free : goal.returns-in-None-owner-clause-free
returns-in-None-owner-clause-free g c none at =
    unowned_none c.args.over.now c.args.table.now c.args.key.now c.args.columns.now (values_of c.args.gone.now) c.requires.kept at
    c.requires.table c.requires.unique c.requires.columns c.requires.filled (sym c.in-None.ensures)

pub returns-in-None-owner-clause-owner : goal.returns-in-None-owner-clause-owner
returns-in-None-owner-clause-owner g c ready =
    other_owner_nowhere (g.R.Rows.tables c.args.base.now) c.args.over.now c.args.table.now c.args.key.now c.args.columns.now
    (values_of c.args.gone.now) ready c.requires.table c.requires.unique
    c.requires.columns c.requires.filled (sym c.in-None.ensures) (sym (c.in-None-owner.ensures.owner ready.base_sound))

pub returns-in-Some-owner-clause-free : goal.returns-in-Some-owner-clause-free
returns-in-Some-owner-clause-free g c =
    each_ok c.owner_left.result
    (λ owner. option_copied owner ≡ None → HasIndex c.args.over.now c.args.table.now →
    IsUnownedBut (slots_of c.args.over.now) c.args.table.now.id (values_of c.args.gone.now) c.args.columns.now
    c.args.key.now.values)
    (λ owner none at.
    unowned_none c.args.over.now c.args.table.now c.args.key.now c.args.columns.now (values_of c.args.gone.now) c.requires.kept at
    c.requires.table c.requires.unique c.requires.columns c.requires.filled (sym c.in-None.ensures))

pub returns-in-Some-owner-clause-owner : goal.returns-in-Some-owner-clause-owner
returns-in-Some-owner-clause-owner g c ready =
    let is = other_owner_beneath (g.R.Rows.tables c.args.base.now) c.args.over.now c.args.table.now c.args.key.now
    c.args.columns.now (values_of c.args.gone.now) ready c.requires.table c.requires.unique
    c.requires.columns c.requires.filled c.in-Some-owner.beneath.now (sym c.in-None.ensures)
    (sym (c.in-Some-owner.ensures.owner ready.base_sound)) in
    subst (λ (o : Option (List Value)). IfOk c.owner_left.result (λ left. option_copied left ≡ o)) is c.owner_left.ensures

use Rattle.std.proofs.Common.{◌≡◌, ◌∙◌, List, true, false, sym, subst}
use Rattle.redo_vec.specs.declared.table.TableRow.{TableRow}
use Rattle.redo_spec.specs.Tables.{assembled}
use Rattle.row_apply.specs.Soundness.{AreSound}
use Rattle.plain_store.specs.Checked.{tables_hold}
use Rattle.plain_store.specs.Unique.{IsIndexed}
use Rattle.plain_store.proofs.CheckLaws.{tables_sound, tables_indexed, sound_tables_hold}
use Rattle.plain_store.proofs.indexing.keep.Goals as goal

pub returns-then-not-branch-clause-unsound : goal.returns-then-not-branch-clause-unsound
returns-then-not-branch-clause-unsound c = λ same sound.
    let ts = c.args.dict.now.tables in
    let by = c.args.tables.now in
    let index = c.index_tables.new.index in
    let P : List TableRow → Type 0 = λ us. AreSound (assembled us by) → IsIndexed us by index in
    let holds : tables_hold ts by index ≡ true = sound_tables_hold ts by index c.tables.ensures.rise sound
    (subst P c.tables.ensures.same c.in_ok-index_tables.ensures.indexed) in
    let fails : tables_hold ts by index ≡ false = sym c.in_ok-tables_hold.ensures.exact ∙ c.if-not-branch.true in
    cc

pub returns-clause-kept : goal.returns-clause-kept
returns-clause-kept c =
    let holds : tables_hold c.args.dict.now.tables c.args.tables.now c.index_tables.new.index ≡ true =
    sym c.in_ok-tables_hold.ensures.exact ∙ c.if-not-branch.false in
    record {
      indexed = tables_indexed c.args.dict.now.tables c.args.tables.now c.index_tables.new.index holds;
      counted = c.in_ok-count.ensures.exact;
    }

pub returns-clause-sound : goal.returns-clause-sound
returns-clause-sound c =
    let holds : tables_hold c.args.dict.now.tables c.args.tables.now c.index_tables.new.index ≡ true =
    sym c.in_ok-tables_hold.ensures.exact ∙ c.if-not-branch.false in
    tables_sound c.args.dict.now.tables c.args.tables.now c.index_tables.new.index holds

use Rattle.std.proofs.Common.{◌≡◌, ◌∙◌, ◌<◌, sym, subst, ap, List, length, Some, None}
use Rattle.std.specs.Option.{IfSome}
use Rattle.redo_vec.specs.declared.table.TableRow.{TableRow}
use Rattle.redo_spec.specs.Dictionary.{table_of}
use Rattle.plain_store.specs.Beneath.{Beneath}
use Rattle.plain_store.proofs.TableLaws.{owner_of_none, owner_of_assembled, definitions_assembled}
use Rattle.plain_store.proofs.UniqueLaws.{inside_key, sound_rows}
use Rattle.plain_store.proofs.based.BasedRows.owner.Goals as goal

pub returns-in-None : goal.returns-in-None
returns-in-None c =
    let b = c.args.self.now in
    let none : table_of b.dictionary.tables c.args.key.now.table ≡ None =
    ap (λ (v : Beneath). table_of v.dictionary.tables c.args.key.now.table) (sym c.self.view_is) ∙
    sym c.in-None.ensures.found in
    record { owner = λ sound. sym (owner_of_none b.dictionary.tables b.rows c.args.key.now none) }

pub owner_in-requires-clause-inside : goal.owner_in-requires-clause-inside
owner_in-requires-clause-inside c =
    let b = c.args.self.now in
    let key = c.args.key.now in
    let at : table_of b.dictionary.tables key.table ≡ Some c.in-Some.table.now =
    ap (λ (v : Beneath). table_of v.dictionary.tables key.table) (sym c.self.view_is) ∙ sym c.in-Some.ensures.found in
    let there : IfSome (table_of b.dictionary.tables key.table) (λ t. key.index < length t.keys) =
    subst (λ (us : List TableRow). IfSome (table_of us key.table) (λ t. key.index < length t.keys))
    (definitions_assembled b.dictionary.tables b.rows) c.requires.there in
    inside_key (table_of b.dictionary.tables key.table) c.in-Some.table.now key.index at there

pub returns-in-Some : goal.returns-in-Some
returns-in-Some c =
    let b = c.args.self.now in
    let key = c.args.key.now in
    let at : table_of b.dictionary.tables key.table ≡ Some c.in-Some.table.now =
    ap (λ (v : Beneath). table_of v.dictionary.tables key.table) (sym c.self.view_is) ∙ sym c.in-Some.ensures.found in
    record {
      owner = λ sound. c.owner_in.ensures.owner (sound_rows b.dictionary.tables b.rows key.table c.in-Some.table.now sound
          at) ∙ sym (owner_of_assembled b.dictionary.tables b.rows key c.in-Some.table.now at);
    }

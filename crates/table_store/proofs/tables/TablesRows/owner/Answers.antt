use Rattle.std.proofs.Common.{sym, ◌∙◌}
use Rattle.table_store.proofs.Finding.{owner_at, owner_nowhere, sound_at, inside_at}
use Rattle.table_store.proofs.tables.TablesRows.owner.Goals as goal

pub owner-requires-clause-inside : goal.owner-requires-clause-inside
owner-requires-clause-inside c =
    inside_at c.args.self.now.tables c.args.key.now.table c.args.key.now.index c.in-Some.table.now (sym c.in-Some.ensures.found)
    c.requires.there

pub returns-in-None : goal.returns-in-None
returns-in-None c = record {
  owner = λ sound. sym (owner_nowhere c.args.self.now.tables c.args.key.now (sym c.in-None.ensures.found));
}

pub returns-in-Some : goal.returns-in-Some
returns-in-Some c =
    let found = sym c.in-Some.ensures.found in
    record {
      owner = λ sound.
          c.owner.ensures.owner (sound_at c.args.self.now.tables c.args.key.now.table c.in-Some.table.now sound found) ∙
          sym (owner_at c.args.self.now.tables c.args.key.now c.in-Some.table.now found);
    }

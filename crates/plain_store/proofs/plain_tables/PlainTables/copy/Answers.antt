use Rattle.std.proofs.Common.{◌≡◌, ◌∙◌, ◌∷◌}
use Rattle.std.specs.BTreeMap.{insert_entry}
use Rattle.std.specs.Ordering.{nat_cmp}
use Rattle.std.specs.Cmp.{nat_cmp_total}
use Rattle.std.specs.FinMap.Entries as entries
use Rattle.plain_store.proofs.MapLemmas.{copied_more, put_is_insert}
use Rattle.plain_store.proofs.plain_tables.PlainTables.copy.Goals as goal

pub loop-table-preserved-in-Ok : goal.loop-table-preserved-in-Ok
loop-table-preserved-in-Ok c =
    let rows : c.in_ok-rows.rows ≡ c.in-Some.rows.now = c.in_ok-rows.ensures.equal in
    let put : c.insert.new.self.entries ≡ insert_entry nat_cmp c.loop-table.tables.entries c.in-Some.table.now c.in_ok-rows.rows =
    c.in-Ok.ensures.entries in
    let more : c.insert.new.self.entries ≡ entries.put nat_cmp c.in-Some.table.now c.in-Some.rows.now
    c.loop-table.tables.entries =
    put ∙ put_is_insert nat_cmp c.in-Some.table.now c.in_ok-rows.rows c.loop-table.tables.entries ∙
    (λ i. entries.put nat_cmp c.in-Some.table.now (rows i) c.loop-table.tables.entries) in
    let steps : c.loop-table.table-iterator ≡ (c.in-Some.table.now, c.in-Some.rows.now) ∷ c.next.new.self =
    c.in-Some.ensures.steps in
    copied_more nat_cmp nat_cmp_total c.self.inside.tables.entries c.loop-table.tables.entries c.loop-table.table-iterator
    c.next.new.self c.insert.new.self.entries c.in-Some.table.now c.in-Some.rows.now
    c.loop-table.invariant steps c.iter-table-items.ensures.ordered more

pub loop-table-preserved-in-Ok-2 : goal.loop-table-preserved-in-Ok-2
loop-table-preserved-in-Ok-2 c =
    let rows : c.in_ok-rows.rows ≡ c.in-Some.rows.now = c.in_ok-rows.ensures.equal in
    let put : c.insert.new.self.entries ≡ insert_entry nat_cmp c.loop-table.tables.entries c.in-Some.table.now c.in_ok-rows.rows =
    c.in-Ok.ensures.entries in
    let more : c.insert.new.self.entries ≡ entries.put nat_cmp c.in-Some.table.now c.in-Some.rows.now
    c.loop-table.tables.entries =
    put ∙ put_is_insert nat_cmp c.in-Some.table.now c.in_ok-rows.rows c.loop-table.tables.entries ∙
    (λ i. entries.put nat_cmp c.in-Some.table.now (rows i) c.loop-table.tables.entries) in
    let steps : c.loop-table.table-iterator ≡ (c.in-Some.table.now, c.in-Some.rows.now) ∷ c.next.new.self =
    c.in-Some.ensures.steps in
    copied_more nat_cmp nat_cmp_total c.self.inside.tables.entries c.loop-table.tables.entries c.loop-table.table-iterator
    c.next.new.self c.insert.new.self.entries c.in-Some.table.now c.in-Some.rows.now
    c.loop-table.invariant steps c.iter-table-items.ensures.ordered more

use Rattle.std.proofs.Common.{◌≡◌, ◌∙◌, Some, ap, sym}
use Rattle.std.specs.BTreeMap.{is_at}
use Rattle.std.specs.Map.{lookup, set_value}
use Rattle.std.specs.Ordering.{nat_cmp}
use Rattle.std.proofs.lemmas.Map.Steps.{set_value_same}
use Rattle.plain_store.proofs.MapLemmas.{on_err}
use Rattle.plain_store.proofs.plain_tables.PlainTables.put.Goals as goal

pub returns-in_err-put-clause-unchanged : goal.returns-in_err-put-clause-unchanged
returns-in_err-put-clause-unchanged c =
    let es = c.self.inside.tables.entries in
    let same : c.put.new.self ≡ c.in-Some.rows.now = c.in_err-put.ensures.unchanged in
    let found : lookup (is_at (nat_cmp c.args.table)) es ≡ Some c.in-Some.rows.now = sym c.in-Some.ensures.value in
    let wrote : (c.get_mut.follows.lender c.put.new.self).entries ≡ set_value (is_at (nat_cmp c.args.table)) es c.put.new.self =
    (c.get_mut.follows.holds c.put.new.self).0 in
    on_err c.from_residual.result (wrote ∙ ap (λ v. set_value (is_at (nat_cmp c.args.table)) es v) same ∙
    set_value_same (is_at (nat_cmp c.args.table)) es c.in-Some.rows.now found ∙ c.self.view_is)

use Rattle.std.proofs.Common.{◌∙◌, ap, not}
use Rattle.std.specs.Ordering.{eq_by_cmp}
use Rattle.std.specs.FinMap.Entries.{find, where_key}
use Rattle.rl_value.specs.Order.{row_cmp, row_total}
use Rattle.plain_store.proofs.MapLemmas.{where_is_remove, find_is_lookup, is_sorted_by}
use Rattle.plain_store.proofs.plain_rows.PlainRows.take.Goals as goal

pub returns-clause-taken : goal.returns-clause-taken
returns-clause-taken c =
    c.remove.ensures.entries
    ∙ where_is_remove row_cmp row_total c.args.key.now c.self.inside.rows.entries
    (is_sorted_by row_cmp c.self.inside.rows.entries c.self.invariant)
    ∙ ap (λ es. where_key row_cmp (λ k. not (eq_by_cmp row_cmp c.args.key.now k)) es) c.self.view_is

pub returns-clause-was : goal.returns-clause-was
returns-clause-was c = c.remove.ensures.value ∙ find_is_lookup row_cmp c.args.key.now c.self.inside.rows.entries ∙
    ap (λ es. find row_cmp c.args.key.now es) c.self.view_is

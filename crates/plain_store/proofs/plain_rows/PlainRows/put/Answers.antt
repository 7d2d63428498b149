use Rattle.std.proofs.Common.{◌∙◌, ap}
use Rattle.std.specs.FinMap.Entries.{find}
use Rattle.rl_value.specs.Order.{row_cmp}
use Rattle.plain_store.proofs.MapLemmas.{find_is_lookup}
use Rattle.plain_store.proofs.plain_rows.PlainRows.put.Goals as goal

pub returns-in-Ok-clause-was : goal.returns-in-Ok-clause-was
returns-in-Ok-clause-was c = (c.in-Ok.ensures).old ∙ find_is_lookup row_cmp c.args.key c.self.inside.rows.entries ∙
    ap (λ es. find row_cmp c.args.key es) c.self.view_is

use Rattle.std.proofs.Common.{◌∙◌, ap}
use Rattle.std.specs.FinMap.Entries.{find}
use Rattle.rl_value.specs.Order.{row_cmp}
use Rattle.plain_store.proofs.MapLemmas.{find_is_lookup}
use Rattle.plain_store.proofs.plain_rows.PlainRows.get.Goals as goal

pub returns : goal.returns
returns c = record {
  found = c.get.ensures.value ∙ find_is_lookup row_cmp c.args.key.now c.self.inside.rows.entries ∙
      ap (λ es. find row_cmp c.args.key.now es) c.self.view_is;
}

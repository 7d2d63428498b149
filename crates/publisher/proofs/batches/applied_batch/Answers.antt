use Rattle.std.proofs.Common.{◌++◌, ◌∷◌, [], ap, ◌∙◌}
use Rattle.rl_ports.specs.declared.batch.Item.{Item}
use Rattle.publisher.proofs.batches.applied_batch.Goals as goal

pub returns : goal.returns
returns c = record {
  items = c.of.ensures.same ∙ c.in_ok-push.ensures.pushed
      ∙ ap (λ (i : Item). c.args.rows.items ++ i ∷ []) c.in_ok-applied.ensures.item;
}

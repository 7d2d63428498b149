use Rattle.std.proofs.Common.{sym, ◌∙◌}
use Rattle.std.specs.Option.{option_copied}
use Rattle.std.specs.Vec.Iter.{into_iter_items}
use Rattle.table_store.proofs.Leading.{follow_done}
use Rattle.table_store.proofs.unique_lead.follow_all.Goals as goal

pub returns : goal.returns
returns c = record {
  followed = follow_done c.loop-index.done.items (into_iter_items c.loop-index.index-iterator) _ c.loop-index.rest.now
      c.args.key.now (option_copied c.args.was) (option_copied c.args.now)
      (sym c.loop-index.index-iterator.rest.ok.0 ∙ c.in-None.ensures.steps.0) c.loop-index.invariant;
}

use Rattle.std.proofs.Common.{◌≡◌, ◌++◌}
use Rattle.std.specs.Option.{option_copied}
use Rattle.std.specs.Vec.Iter.{into_iter_items}
use Rattle.table_store.specs.Leads.{leads_after}
use Rattle.table_store.proofs.unique_lead.follow_all.Given as goal

-- those that follow so far, and what will be made of the rest
abbrev pub invariant-loop-index : goal.invariant-loop-index
invariant-loop-index l = l.done.items ++ leads_after l.rest l.key (option_copied l.was) (option_copied l.now)
    (into_iter_items l.index-iterator) ≡ leads_after l.keys l.key (option_copied l.was) (option_copied l.now) l.fn.indexes.items

use Rattle.std.proofs.Common.{◌≡◌, ◌+◌, ◌≤◌, length}
use Rattle.rl_value.specs.declared.key.Key.{Key}
use Rattle.plain_store.specs.Unique.{lead_of, has_from, has_unique, lead_with}
use Rattle.plain_store.proofs.unique_index.UniqueIndex.enter.Given as goal

-- with the keys that are left, the index is what it is with all
abbrev pub invariant-loop-rest : goal.invariant-loop-rest
invariant-loop-rest l = record {
  same : (q : Key) → lead_with (has_from l.table.id l.number l.rest l.row q) l.key (lead_of l.self q) ≡
      lead_with (has_unique l.table l.row q) l.key (lead_of l.initial.self q);
  few : l.number + length l.rest ≤ 5;
}

abbrev pub decreases-loop-rest : goal.decreases-loop-rest
decreases-loop-rest l = length l.rest

use Rattle.std.proofs.Common.{◌≡◌, ◌++◌, ◌+◌, ◌≤◌, length}
use Rattle.std.specs.List.{flat_map, enumerate_from}
use Rattle.redo_spec.specs.ConflictKeys.{cell_of, key_by_columns, keys_given}
use Rattle.redo_law.proofs.conflicts.add_keys.Given as goal

-- the keys so far, with those that are left
abbrev pub invariant-loop-rest : goal.invariant-loop-rest
invariant-loop-rest l = record {
  few : l.index + length l.rest ≤ 5;
  so_far : l.keys.items ++ flat_map (key_by_columns l.table.id (cell_of (l.first ++ l.second))) (enumerate_from l.index l.rest)
      ≡ l.initial.keys.items ++ keys_given l.table (cell_of (l.first ++ l.second));
}

abbrev pub decreases-loop-rest : goal.decreases-loop-rest
decreases-loop-rest l = length l.rest

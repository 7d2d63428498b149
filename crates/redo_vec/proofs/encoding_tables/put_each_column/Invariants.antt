use Rattle.std.proofs.Common.{◌≡◌, ◌++◌, take}
use Rattle.std.specs.List.{flat_map}
use Rattle.redo_vec.specs.Spelling.{column}
use Rattle.redo_vec.proofs.encoding_tables.put_each_column.Given as goal

-- as many are spelled as were passed
abbrev pub invariant-loop-item : goal.invariant-loop-item
invariant-loop-item l = l.out.items ≡ l.initial.out.items ++ flat_map column (take l.item-index l.items)

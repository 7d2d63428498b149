use Rattle.std.proofs.Common.{◌≡◌, ◌≤◌, ◌*◌, length, take}
use Rattle.std.specs.List.{flat_map}
use Rattle.redo_vec.specs.Spelling.{column}
use Rattle.redo_text.proofs.sizes.each_column_size.Given as goal

-- as many are counted as were passed
abbrev pub invariant-loop-item : goal.invariant-loop-item
invariant-loop-item l = record {
  counted : l.size ≡ length (flat_map column (take l.item-index l.items));
  small : l.size ≤ 35 * l.item-index;
}

use Rattle.std.proofs.Common.{◌≡◌, ◌++◌, take}
use Rattle.std.specs.List.{flat_map}
use Rattle.redo_vec.specs.Spelling.{value}
use Rattle.kept_layout.proofs.spelling.put_values.Given as goal

-- as many are spelled as were passed
abbrev pub invariant-loop-item : goal.invariant-loop-item
invariant-loop-item l = l.out.items ≡ l.initial.out.items ++ flat_map value (take l.item-index l.items)

use Rattle.std.proofs.Common.{◌≡◌, length, take}
use Rattle.std.specs.List.{flat_map, AllByRecursion}
use Rattle.row_tree.proofs.level.shared.Given as goal

-- the parts so far
abbrev pub invariant-loop-child : goal.invariant-loop-child
invariant-loop-child g l = record {
  same : flat_map g.K.Part.entries l.copies.items ≡ flat_map g.K.Part.entries (take l.child-index l.children);
  each : AllByRecursion g.K.Part.sound l.copies.items;
  len : length l.copies.items ≡ l.child-index;
}

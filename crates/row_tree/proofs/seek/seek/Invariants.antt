use Rattle.std.proofs.Common.{◌<◌, length, ◌-◌, ◌≤◌, take, drop}
use Rattle.std.specs.Bool.{IsTrue}
use Rattle.std.specs.List.{flat_map}
use Rattle.std.specs.FinMap.Entries as entries
use Rattle.rl_value.specs.Order.{row_cmp}
use Rattle.row_tree.specs.Entries.{all_below}
use Rattle.row_tree.proofs.seek.seek.Given as goal

-- what stands before the range is below the key, what stands behind it is above
abbrev pub invariant-loop-high : goal.invariant-loop-high
invariant-loop-high g l = record {
  order : l.low < l.high;
  inside : l.high ≤ length l.children;
  before : IsTrue (all_below (flat_map g.K.Part.entries (take l.low l.children)) l.key);
  behind : IsTrue (entries.below_all row_cmp l.key (flat_map g.K.Part.entries (drop l.high l.children)));
}

abbrev pub decreases-loop-high : goal.decreases-loop-high
decreases-loop-high g l = l.high - l.low

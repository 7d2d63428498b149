use Rattle.std.proofs.Common.{◌≡◌, ◌≤◌, ◌-◌, length, nat_lt, true, false}
use Rattle.std.specs.List.{AllWithin}
use Rattle.table_store.specs.Shared.{id_in}
use Rattle.table_store.proofs.table_list.place_of.Given as goal

-- what stands before the range is below the id, what stands behind it is not
abbrev pub invariant-loop-low : goal.invariant-loop-low
invariant-loop-low l = record {
  order : l.low ≤ l.high;
  inside : l.high ≤ length l.tables;
  before : AllWithin (λ s. nat_lt (id_in s) l.id ≡ true) l.tables 0 l.low;
  behind : AllWithin (λ s. nat_lt (id_in s) l.id ≡ false) l.tables l.high (length l.tables);
}

abbrev pub decreases-loop-low : goal.decreases-loop-low
decreases-loop-low l = l.high - l.low

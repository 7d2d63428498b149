use Rattle.std.proofs.Common.{◌≡◌, ◌+◌, ◌-◌, ◌≤◌, length}
use Rattle.redo_vec.proofs.Takes.{IsBytes}
use Rattle.standby_spec.specs.Loading.{values_in}
use Rattle.kept_layout.proofs.RowLaws.{read_on}
use Rattle.kept_layout.proofs.rows.value_list.Given as goal

-- what was read and what is left give the values of all bytes, and each value took a byte at least
abbrev pub invariant-loop : goal.invariant-loop
invariant-loop l = record {
  count : length l.values.items ≡ l.counter;
  room : length l.rest + l.counter ≤ length l.bytes;
  read : read_on l.values.items (length l.bytes - l.counter) l.rest ≡ values_in l.bytes;
  bytes : IsBytes l.rest;
}

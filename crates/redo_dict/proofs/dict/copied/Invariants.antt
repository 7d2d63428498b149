use Rattle.std.proofs.Common.{◌≡◌, take}
use Rattle.redo_dict.proofs.dict.copied.Given as goal

-- the copies equal what was passed
abbrev pub invariant-loop-table : goal.invariant-loop-table
invariant-loop-table l = l.copies.items ≡ take l.table-index l.tables.items

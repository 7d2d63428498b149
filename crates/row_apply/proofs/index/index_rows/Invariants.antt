use Rattle.std.proofs.Common.{◌≡◌}
use Rattle.row_apply.specs.Kept.{index_all, OwnersOnly}
use Rattle.row_apply.proofs.index.index_rows.Given as goal

-- the rows that are left make the whole of it
abbrev pub invariant-loop-key : goal.invariant-loop-key
invariant-loop-key l = record {
  rest : index_all l.table l.key-iterator l.owners.entries ≡ index_all l.table l.rows.entries l.initial.owners.entries;
  others : OwnersOnly l.table.id l.initial.owners.entries l.owners.entries;
}

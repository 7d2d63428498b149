use Rattle.std.proofs.Common.{◌≡◌}
use Rattle.row_apply.specs.Kept.{leads_all}
use Rattle.row_apply.proofs.index.rows_lead.Given as goal

-- the rows that are left decide
abbrev pub invariant-loop-key : goal.invariant-loop-key
invariant-loop-key l = leads_all l.table l.owners.entries l.key-iterator ≡ leads_all l.table l.owners.entries l.rows.entries

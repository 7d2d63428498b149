use Rattle.std.proofs.Common.{◌≡◌, ◌≤◌, ◌+◌, ◌^◌, length}
use Rattle.script.specs.Lines.{lines_of, script_from, script_of, behind_items}
use Rattle.script.proofs.parsing.parse.Given as goal

-- what is read, and what the rest says, is the script; there are no more lines than bytes
abbrev pub invariant-loop-rest : goal.invariant-loop-rest
invariant-loop-rest l = record {
  said :
      behind_items l.items.items (script_from l.number l.used (length l.items.items) (lines_of l.rest)) ≡ script_of l.bytes;
  few : l.used ≤ 2 ^ 20;
  lines : l.number ≤ l.used + 1;
}

abbrev pub decreases-loop-rest : goal.decreases-loop-rest
decreases-loop-rest l = length l.rest

use Rattle.std.proofs.Common.{◌≡◌, length}
use Rattle.sql_text.specs.SqlText.{set_back}
use Rattle.sql_text.proofs.lists.push_set_back.Given as goal

-- no column so far is set
abbrev pub invariant-loop-rest : goal.invariant-loop-rest
invariant-loop-rest l = record {
  same : set_back l.rest l.new ≡ set_back l.old l.new;
  nothing : l.out.items ≡ l.fn.out.items;
}

abbrev pub decreases-loop-rest : goal.decreases-loop-rest
decreases-loop-rest l = length l.rest

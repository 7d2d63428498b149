use Rattle.std.proofs.Common.{◌≡◌, ◌++◌, length}
use Rattle.redo_text.specs.Showing.{vectors_text, known_behind}
use Rattle.redo_text.proofs.showing.push_vectors.Given as goal

-- what is there, and what the vectors that are left put behind it
abbrev pub invariant-loop-rest : goal.invariant-loop-rest
invariant-loop-rest l = record {
  shown : l.out.items ++ vectors_text l.tables.items l.rest ≡ l.fn.out.items ++ vectors_text l.fn.tables.items l.vectors;
  known : known_behind l.tables.items l.rest ≡ known_behind l.fn.tables.items l.vectors;
}

abbrev pub decreases-loop-rest : goal.decreases-loop-rest
decreases-loop-rest l = length l.rest

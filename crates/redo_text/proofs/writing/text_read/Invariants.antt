use Rattle.std.proofs.Common.{◌≡◌, ◌≤◌, ◌+◌, [], length}
use Rattle.redo_text.specs.Draft.{beginning, add_bytes}
use Rattle.redo_text.specs.Text.{text_from}
use Rattle.redo_text.proofs.writing.text_read.Given as goal

-- what is still to be read behind the draft is what the text says; there are no more lines than bytes
abbrev pub invariant-loop-rest : goal.invariant-loop-rest
invariant-loop-rest l = record {
  said : text_from add_bytes l.draft l.number l.line.items l.rest ≡ text_from add_bytes (beginning []) 1 [] l.text;
  lines : l.number + length l.rest ≤ length l.text + 1;
}

abbrev pub decreases-loop-rest : goal.decreases-loop-rest
decreases-loop-rest l = length l.rest

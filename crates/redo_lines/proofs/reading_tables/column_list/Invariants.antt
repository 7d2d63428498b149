use Rattle.std.proofs.Common.{◌≡◌, length}
use Rattle.redo_lines.specs.Reading.{items_until, with_front, is_key, column_line_said}
use Rattle.redo_lines.proofs.reading_tables.column_list.Given as goal

-- what is read, and what is still to be read, is what the words say
abbrev pub invariant-loop-rest : goal.invariant-loop-rest
invariant-loop-rest l = with_front l.columns.items (items_until is_key column_line_said l.rest) ≡
    items_until is_key column_line_said l.words

abbrev pub decreases-loop-rest : goal.decreases-loop-rest
decreases-loop-rest l = length l.rest

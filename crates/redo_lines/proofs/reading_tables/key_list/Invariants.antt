use Rattle.std.proofs.Common.{◌≡◌, length}
use Rattle.redo_lines.specs.Reading.{items_until, with_front, never}
use Rattle.line_fields.specs.Known.{column_said}
use Rattle.redo_lines.proofs.reading_tables.key_list.Given as goal

-- what is read, and what is still to be read, is what the parts say
abbrev pub invariant-loop-rest : goal.invariant-loop-rest
invariant-loop-rest l = with_front l.key.items (items_until never (column_said l.columns) l.rest) ≡
    items_until never (column_said l.columns) l.parts

abbrev pub decreases-loop-rest : goal.decreases-loop-rest
decreases-loop-rest l = length l.rest

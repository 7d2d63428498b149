use Rattle.std.proofs.Common.{◌≡◌, take}
use Rattle.std.specs.Prelude.{map}
use Rattle.line_fields.specs.Known.{column_word}
use Rattle.redo_lines.proofs.printing_tables.key_parts.Given as goal

-- as many are there as were passed
abbrev pub invariant-loop-column : goal.invariant-loop-column
invariant-loop-column l = l.parts.items ≡ map (column_word l.columns) (take l.column-index l.key)

use Rattle.std.proofs.Common.{◌≡◌, drop}
use Rattle.line_fields.specs.Known.{column_named}
use Rattle.line_fields.proofs.known.column_named.Given as goal

-- none of the columns before has the name
abbrev pub invariant-loop-column : goal.invariant-loop-column
invariant-loop-column l = record {
  number : l.number ≡ l.column-index;
  found : column_named l.number (drop l.column-index l.columns) l.word ≡ column_named 0 l.columns l.word;
}

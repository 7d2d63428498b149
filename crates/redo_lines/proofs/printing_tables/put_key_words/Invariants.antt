use Rattle.std.proofs.Common.{◌≡◌, ◌++◌, take}
use Rattle.redo_lines.specs.Printing.{key_words}
use Rattle.redo_lines.proofs.printing_tables.put_key_words.Given as goal

-- as many are there as were passed
abbrev pub invariant-loop-key : goal.invariant-loop-key
invariant-loop-key l = l.words.items ≡ l.initial.words.items ++ key_words l.columns (take l.key-index l.keys)

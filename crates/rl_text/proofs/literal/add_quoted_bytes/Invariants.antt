use Rattle.std.proofs.Common.{◌≡◌, ◌++◌, length}
use Rattle.std.specs.Prelude.{IsTrue}
use Rattle.std.specs.List.{list_all, flat_map}
use Rattle.rl_value.specs.Literal.{quoted_byte, is_printed}
use Rattle.rl_text.proofs.literal.add_quoted_bytes.Given as goal

-- what is left may be printed, and with it the text is whole
abbrev pub invariant-loop-rest : goal.invariant-loop-rest
invariant-loop-rest l = record {
  printed : IsTrue (list_all is_printed l.rest);
  whole : l.text ++ flat_map quoted_byte l.rest ≡ l.fn.text ++ flat_map quoted_byte l.bytes;
}

abbrev pub decreases-loop-rest : goal.decreases-loop-rest
decreases-loop-rest l = length l.rest

use Rattle.std.proofs.Common.{◌≡◌, take, drop}
use Rattle.script.specs.Lines.{lines_of}
use Rattle.script.proofs.LineLaws.{in_front}
use Rattle.script.proofs.lines.cut_line.Given as goal

-- no line has ended so far
abbrev pub invariant-loop-at : goal.invariant-loop-at
invariant-loop-at l = lines_of l.bytes ≡ in_front (take l.at l.bytes) (lines_of (drop l.at l.bytes))

use Rattle.std.proofs.Common.{◌+◌}
use Rattle.std.proofs.lemmas.Bool.{eq-eqb, ne_eqb}
use Rattle.std.proofs.lemmas.List.{take_rest}
use Rattle.script.specs.Lines.{lines_of}
use Rattle.script.proofs.LineLaws.{line_ends, line_goes_on, last_line}
use Rattle.script.proofs.lines.cut_line.Goals as goal

-- the line ends here
pub returns-then-byte-eq-LF-clause-lines : goal.returns-then-byte-eq-LF-clause-lines
returns-then-byte-eq-LF-clause-lines c =
    let ends = eq-eqb _ _ c.if-byte-eq-LF.true in
    rw (take_rest c.args.bytes.now (c.loop-at.at + 1))
    (line_ends c.loop-at.at c.args.bytes.now 0 (lines_of c.args.bytes.now) c.loop-at-test.true ends c.loop-at.invariant)

pub loop-at-preserved : goal.loop-at-preserved
loop-at-preserved c =
    let other = ne_eqb _ _ c.if-byte-eq-LF.false in
    line_goes_on c.loop-at.at c.args.bytes.now 0 (lines_of c.args.bytes.now) c.loop-at-test.true other c.loop-at.invariant

-- no line ended
pub returns-clause-lines : goal.returns-clause-lines
returns-clause-lines c =
    last_line c.loop-at.at c.args.bytes.now (lines_of c.args.bytes.now) c.requires.some c.loop-at-test.false c.loop-at.invariant

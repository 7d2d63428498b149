use Rattle.std.proofs.Common.{◌∙◌, sym}
use Rattle.redo_spec.specs.Skips.{matches}
use Rattle.skip_guard.proofs.Ends.{at_once, nothing_left}
use Rattle.skip_guard.proofs.matching.end_matches.Goals as goal

pub returns-in-Ended-true : goal.returns-in-Ended-true
returns-in-Ended-true c =
    let l = c.loop-pattern_left in
    sym (at_once (matches l.pattern_left.now) l.text_left.now (c.in-Ended-true.ensures ∙ c.in-Ended-true.field-0-test)) ∙
    l.invariant

pub returns : goal.returns
returns c =
    let l = c.loop-pattern_left in
    nothing_left l.pattern_left.now l.text_left.now c.loop-pattern_left-test.ensures ∙ l.invariant

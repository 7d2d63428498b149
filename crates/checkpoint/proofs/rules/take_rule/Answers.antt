use Rattle.skip_guard.specs.Rules.{skip_of}
use Rattle.checkpoint.proofs.RuleLaws.{rule_taken, rule_refused, rule_missing}
use Rattle.checkpoint.proofs.rules.take_rule.Goals as goal

pub returns-in-None-clause-refused : goal.returns-in-None-clause-refused
returns-in-None-clause-refused c = λ is.
    rule_missing c.next_number-number.result c.args.key.now c.args.value.now c.args.skips.now c.next_number-number.ensures.number
    (rw (c.bytes.ensures.same, c.bytes-2.ensures.same, c.in-None.is) at c.in_ok-found.ensures.exact)

pub returns-in-Some-clause-taken : goal.returns-in-Some-clause-taken
returns-in-Some-clause-taken c = λ is.
    (rule_taken c.next_number-number.result c.args.key.now c.args.value.now (skip_of c.in-Some.entry) c.args.skips.now
    c.add_rule.new.skips c.next_number-number.ensures.number
    c.hold_bytes.ensures
    (rw (c.bytes.ensures.same, c.bytes-2.ensures.same, c.in-Some.is) at c.in_ok-found.ensures.exact) c.requires.read
    (c.add_rule.ensures.taken is) (c.add_rule.ensures.added is)).0

pub returns-in-Some-clause-refused : goal.returns-in-Some-clause-refused
returns-in-Some-clause-refused c = λ is.
    rule_refused c.next_number-number.result c.args.key.now c.args.value.now (skip_of c.in-Some.entry) c.args.skips.now
    c.next_number-number.ensures.number
    (rw (c.bytes.ensures.same, c.bytes-2.ensures.same, c.in-Some.is) at c.in_ok-found.ensures.exact)
    (c.add_rule.ensures.refused is)

pub returns-in-Some-clause-read : goal.returns-in-Some-clause-read
returns-in-Some-clause-read c = λ is.
    (rule_taken c.next_number-number.result c.args.key.now c.args.value.now (skip_of c.in-Some.entry) c.args.skips.now
    c.add_rule.new.skips c.next_number-number.ensures.number
    c.hold_bytes.ensures
    (rw (c.bytes.ensures.same, c.bytes-2.ensures.same, c.in-Some.is) at c.in_ok-found.ensures.exact) c.requires.read
    (c.add_rule.ensures.taken is) (c.add_rule.ensures.added is)).1

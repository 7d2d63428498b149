use Rattle.skip_guard.specs.Rules.{rule_of, skip_fault}
use Rattle.checkpoint.proofs.RuleLaws.{not_taken}
use Rattle.checkpoint.proofs.rules.add_rule.Goals as goal

pub returns-in-Err-clause-refused : goal.returns-in-Err-clause-refused
returns-in-Err-clause-refused c = λ is.
    not_taken c.in-Err.fault (skip_fault c.args.skips.now (rule_of c.args.entry.rule)) c.in-Err.ensures.exact.0
    (c.refused.ensures.cause is)

use Rattle.rl_text.proofs.LiteralLaws.{value-from_literal}
use Rattle.rl_text.proofs.literal.put_value.Goals as goal

-- what is printed is a literal of the value, and so is read as it
pub returns-in_err-add_value-clause-read : goal.returns-in_err-add_value-clause-read
returns-in_err-add_value-clause-read c = value-from_literal c.args.value.now _ c.prints_a_literal.ensures

pub returns-clause-read : goal.returns-clause-read
returns-clause-read c = value-from_literal c.args.value.now _ c.prints_a_literal.ensures

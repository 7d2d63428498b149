use Rattle.std.proofs.Common.{◌≡◌, ℕ, List, None, sym, subst}
use Rattle.rl_value.specs.LiteralValue.{number_value}
use Rattle.rl_text.proofs.Literals.{number_value-no_text, number_value-no_numeral}
use Rattle.rl_text.proofs.reading.read_number.Goals as goal

-- bytes that are no text are no number
pub returns-in-Err : goal.returns-in-Err
returns-in-Err c = sym (number_value-no_text _ c.in-Err.ensures.cases.0)

-- nor is a text that is none
pub returns-in-Err-from_str_radix : goal.returns-in-Err-from_str_radix
returns-in-Err-from_str_radix c =
    sym (subst (λ (b : List ℕ). number_value b ≡ None) c.in-Ok.ensures.cases.0
    (number_value-no_numeral c.in-Ok.text.now c.in-Err-from_str_radix.ensures.value))

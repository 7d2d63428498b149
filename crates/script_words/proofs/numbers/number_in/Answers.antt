use Rattle.std.proofs.Common.{◌≡◌, ◌<◌, ◌^◌, List, ℕ, None, true, sym, ◌∙◌, subst, arith}
use Rattle.script_words.specs.Numbers.{is_decimal, number_in}
use Rattle.script_words.proofs.Decimals.{decimal_utf8, wide_in}
use Rattle.script_words.proofs.numbers.number_in.Goals as goal

pub returns-in_default-clause-exact : goal.returns-in_default-clause-exact
returns-in_default-clause-exact c =
    let e : is_decimal c.args.word.now ≡ true = sym c.is_decimal.ensures ∙ c.if-not-is_decimal.false in
    absurd (c.in_default.ensures.cases.0 (decimal_utf8 c.args.word.now e))

-- digits that are no number of 64 bits are more than the limit
pub returns-in_default-from_str_radix-clause-exact : goal.returns-in_default-from_str_radix-clause-exact
returns-in_default-from_str_radix-clause-exact c =
    let e : is_decimal c.args.word.now ≡ true = sym c.is_decimal.ensures ∙ c.if-not-is_decimal.false in
    let fits : c.args.most < 2 ^ 64 = omega arith in
    let same : c.in-Ok.text.now ≡ c.args.word.now = c.in-Ok.ensures.cases.0 in
    let read : is_decimal c.in-Ok.text.now ≡ true = subst (λ (w : List ℕ). is_decimal w ≡ true) (sym same) e in
    sym (subst (λ (w : List ℕ). number_in c.args.least c.args.most w ≡ None) same
    (wide_in c.args.least c.args.most c.in-Ok.text.now fits read c.in_default-from_str_radix.ensures.value))

-- Numbers in decimal: what is printed is read as it was.
use Rattle.std.proofs.Common.{◌≡◌, ℕ, ◌<◌, ◌≤◌, ◌^◌, Bool, true, false, List, [], ◌∷◌, length, get_or, Option, Some, None, Ok, refl, ap, subst, inl, inr, arith}
use Rattle.std.specs.Prelude.{◌&&◌, ◌==◌, nat_le, if◌then◌else◌}
use Rattle.std.specs.Char.{digit_value}
use Rattle.std.specs.List.{list_all}
use Rattle.std.specs.Fmt.{decimal}
use Rattle.std.specs.Str.Parse.{AllDigits, digits_value}
use Rattle.std.proofs.lemmas.Bool.{and_parts, le-leb, ne_eqb, cases_lt}
use Rattle.std.proofs.lemmas.Fmt.{decimal_is_IsNumeral, decimal_digit, first_decimal}
use Rattle.std.proofs.lemmas.Str.Parse.{digit_from_value}
use Rattle.rl_value.specs.Outcome.{or_err}
use Rattle.script_words.specs.Numbers.{is_digit, begins_well, is_decimal, number_in}
use Rattle.line_fields.specs.declared.fault.LineFault.TheVariants as faults
use Rattle.line_fields.specs.Fields.{number_said}
use Rattle.line_fields.specs.Known.{is_numeral}
use Rattle.line_fields.proofs.Splitting.{both_true}

small_digit : (b : ℕ) → digit_value b < 10 → is_digit b ≡ true
small_digit b h =
    let r = digit_from_value b h in
    let low : 48 ≤ b = omega (arith, r) in
    let high : b ≤ 57 = omega (arith, r) in
    both_true _ _ (le-leb _ _ low) (le-leb _ _ high)

pub digits_all : (word : List ℕ) → AllDigits 10 word → list_all is_digit word ≡ true
digits_all [] d = refl
digits_all (b ∷ word) d = both_true _ _ (small_digit b d.0) (digits_all word d.1)

begins : (word : List ℕ) → 0 < length word → 48 < get_or word 0 0 → begins_well word ≡ true
begins [] some h = absurd (omega arith)
begins (b ∷ []) some h = refl
begins (b ∷ c ∷ word) some h = let other : (b == 48) ≡ false = ne_eqb _ _ (omega arith) in rw other refl

zero_begins : (n : ℕ) → n < 1 → begins_well (decimal n) ≡ true
zero_begins n h = rw (decimal_digit n (omega arith)) refl

decimal_begins : (n : ℕ) → n < 2 ^ 64 → begins_well (decimal n) ≡ true
decimal_begins n h =
    elim (cases_lt n 1) [
      | inl lt ↦ zero_begins n lt
      | inr le ↦ begins (decimal n) (decimal_is_IsNumeral n h).0.0 (first_decimal n (omega arith) h)
    ]

pub decimal_digits : (n : ℕ) → n < 2 ^ 64 → list_all is_digit (decimal n) ≡ true
decimal_digits n h = digits_all (decimal n) (decimal_is_IsNumeral n h).0.1

value_of : (t : Bool) (v : ℕ) → t ≡ true → (if t then Some v else None) ≡ Some v
value_of true v e = refl
value_of false v e = absurd cc

-- a printed number is read
pub number_in_printed : (most n : ℕ) → n ≤ most → n < 2 ^ 64 → number_in 0 most (decimal n) ≡ Some n
unfolding number_in
number_in_printed most n le h =
    let v = digits_value 10 (decimal n) in
    let same : digits_value 10 (decimal n) ≡ n = (decimal_is_IsNumeral n h).1 in
    let is : is_decimal (decimal n) ≡ true =
    both_true (begins_well (decimal n)) (list_all is_digit (decimal n)) (decimal_begins n h) (decimal_digits n h) in
    let least : nat_le 0 v ≡ true = le-leb 0 v (omega arith) in
    let within : nat_le v most ≡ true = le-leb v most (omega (arith, same)) in
    subst (λ (k : ℕ). number_in 0 most (decimal n) ≡ Some k) same
    (value_of (is_decimal (decimal n) && (nat_le 0 v && nat_le v most)) v
    (both_true (is_decimal (decimal n)) (nat_le 0 v && nat_le v most) is
    (both_true (nat_le 0 v) (nat_le v most) least within)))

pub number_printed : (most n : ℕ) → n ≤ most → n < 2 ^ 64 → number_said most (decimal n) ≡ Ok n
unfolding number_said
number_printed most n le h = ap (λ (o : Option ℕ). or_err o faults.Number) (number_in_printed most n le h)

first_digit : (word : List ℕ) → 0 < length word → list_all is_digit word ≡ true → is_numeral word ≡ true
first_digit [] some e = absurd (omega arith)
first_digit (b ∷ word) some e = (and_parts _ _ e).0

pub decimal_numeral : (n : ℕ) → n < 2 ^ 64 → is_numeral (decimal n) ≡ true
decimal_numeral n h = first_digit (decimal n) (decimal_is_IsNumeral n h).0.0 (decimal_digits n h)

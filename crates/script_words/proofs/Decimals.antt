-- Numbers in decimal: their words are text, and those that do not fit 64 bits are above each limit.
use Rattle.std.proofs.Common.{◌≡◌, ℕ, ◌<◌, ◌≤◌, ◌^◌, Bool, true, false, List, [], ◌∷◌, length, None, refl, sym, subst, inl, inr, arith}
use Rattle.std.specs.Prelude.{◌==◌, ◌&&◌, nat_le, nat_lt, IsUtf8}
use Rattle.std.specs.Char.{digit_value}
use Rattle.std.specs.List.{list_all}
use Rattle.std.specs.Str.Parse.{AllDigits, IsNumeral, digits_value, without_leading_plus}
use Rattle.std.proofs.lemmas.Bool.{and_parts, leb-true, le-ltb, lt-ltb, ne_eqb, cases_lt}
use Rattle.std.proofs.lemmas.Fmt.{IsAscii-from_digits}
use Rattle.std.proofs.lemmas.Str.{IsUtf8-from_ascii}
use Rattle.script_words.specs.Numbers.{is_digit, begins_well, is_decimal, number_in}

digit_small : (b : ℕ) → is_digit b ≡ true → digit_value b < 10
digit_small b e =
    let p = and_parts _ _ e in
    let low : 48 ≤ b = leb-true _ _ p.0 in
    let high : b ≤ 57 = leb-true _ _ p.1 in
    let not_below : nat_lt b 48 ≡ false = le-ltb _ _ low in
    let within : nat_lt b 58 ≡ true = lt-ltb _ _ (omega arith) in
    rw (not_below, within) (omega arith)

all_digits : (word : List ℕ) → list_all is_digit word ≡ true → AllDigits 10 word
all_digits [] e = tt
all_digits (b ∷ word) e = let p = and_parts _ _ e in (digit_small b p.0, all_digits word p.1)

pub decimal_utf8 : (word : List ℕ) → is_decimal word ≡ true → IsUtf8 word
decimal_utf8 word e = IsUtf8-from_ascii word (IsAscii-from_digits word (all_digits word (and_parts _ _ e).1))

some_digit : (word : List ℕ) → begins_well word ≡ true → 0 < length word
some_digit [] e = absurd cc
some_digit (b ∷ word) e = omega arith

no_plus : (word : List ℕ) → list_all is_digit word ≡ true → without_leading_plus word ≡ word
no_plus [] e = refl
no_plus (b ∷ word) e =
    let p = and_parts _ _ (and_parts _ _ e).0 in
    let low : 48 ≤ b = leb-true _ _ p.0 in
    let other : (b == 43) ≡ false = ne_eqb _ _ (omega arith) in
    rw other refl

refused : (t : Bool) (most : ℕ) (word : List ℕ) → nat_le (digits_value 10 word) most ≡ t → most < digits_value 10 word → t ≡ false
refused true most word is over = let le : digits_value 10 word ≤ most = leb-true _ _ is in absurd (omega arith)
refused false most word is over = refl

nothing_else : (x : Bool) → (x && false) ≡ false
nothing_else true = refl
nothing_else false = refl

-- a number that is too large
over_in : (least most : ℕ) (word : List ℕ) → is_decimal word ≡ true → most < digits_value 10 word →
    number_in least most word ≡ None
unfolding number_in
over_in least most word e over =
    let no : nat_le (digits_value 10 word) most ≡ false = refused _ most word refl over in
    let none : (nat_le least (digits_value 10 word) && false) ≡ false = nothing_else _ in
    rw (e, no, none) refl

-- one that does not even fit 64 bits
pub wide_in : (least most : ℕ) (word : List ℕ) → most < 2 ^ 64 → is_decimal word ≡ true →
    (IsNumeral 10 (without_leading_plus word) × (digits_value 10 (without_leading_plus word) < 2 ^ 64) → ⊥)
    → number_in least most word ≡ None
wide_in least most word fits e never =
    let p = and_parts _ _ e in
    let numeral : IsNumeral 10 word = (some_digit word p.0, all_digits word p.1) in
    let plain : without_leading_plus word ≡ word = no_plus word p.1 in
    elim (cases_lt (digits_value 10 word) (2 ^ 64)) [
      | inl lt ↦ absurd (never (subst (λ (w : List ℕ). IsNumeral 10 w × (digits_value 10 w < 2 ^ 64)) (sym plain) (numeral, lt)))
      | inr le ↦ over_in least most word e (omega arith)
    ]

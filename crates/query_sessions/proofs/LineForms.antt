-- What may stand in a line: neither digits nor a name end it.
use Rattle.std.proofs.Common.{◌≡◌, ℕ, ◌<◌, ◌^◌, List, [], ◌∷◌, length, Bool, true, false, ◌&&◌, ◌==◌, refl, ap, arith}
use Rattle.std.specs.Prelude.{IsTrue, not, nat_le}
use Rattle.std.specs.List.{list_all}
use Rattle.std.specs.Fmt.{decimal}
use Rattle.std.specs.Str.Parse.{AllDigits}
use Rattle.std.proofs.lemmas.Bool.{and_parts, and_from, eqb-true}
use Rattle.std.proofs.lemmas.Bool.Decides.{nat_tests}
use Rattle.std.proofs.lemmas.Fmt.{decimal_is_IsNumeral}
use Rattle.std.proofs.lemmas.Str.Parse.{digit_from_value}
use Rattle.rl_base.specs.Lines.{is_line, is_inside}
use Rattle.rl_value.specs.declared.limits.TheConstants.{MAX_NAME}
use Rattle.rl_value.specs.Text.{is_name, is_name_byte, first_is_letter}

-- ---- digits

inside : (c : ℕ) → 10 < c → is_inside c ≡ true
inside c h = grind (arith, nat_tests)

digits_stay : (ds : List ℕ) → AllDigits 10 ds → is_line ds ≡ true
digits_stay [] d = refl
digits_stay (c ∷ cs) d =
    and_from (is_inside c) (is_line cs) (inside c (omega (arith, digit_from_value c d.0))) (digits_stay cs d.1)

pub decimal_is_line : (n : ℕ) → n < 2 ^ 64 → IsTrue (is_line (decimal n))
decimal_is_line n h = digits_stay (decimal n) (decimal_is_IsNumeral n h).0.1

-- ---- names

-- a byte of which a test holds that fails at another byte is not that one
apart_if : (p : ℕ → Bool) (b k : ℕ) (t : Bool) → (b == k) ≡ t → p b ≡ true → p k ≡ false → t ≡ false
apart_if p b k true is h e =
    let same : b ≡ k = eqb-true b k is in
    let both : p b ≡ p k = ap p same in cc
apart_if p b k false is h e = refl

inside_of : (p : ℕ → Bool) (b : ℕ) → p b ≡ true → p 10 ≡ false → is_inside b ≡ true
inside_of p b h e = ap not (apart_if p b 10 (b == 10) refl h e)

all_inside : (p : ℕ → Bool) (bytes : List ℕ) → p 10 ≡ false → list_all p bytes ≡ true → is_line bytes ≡ true
all_inside p [] e all = refl
all_inside p (b ∷ bytes) e all =
    let a = and_parts (p b) (list_all p bytes) all in
    and_from (is_inside b) (is_line bytes) (inside_of p b a.0 e) (all_inside p bytes e a.1)

pub name_is_line : (name : List ℕ) → IsTrue (is_name name) → IsTrue (is_line name)
name_is_line name h =
    let parts = and_parts (first_is_letter name && nat_le (length name) MAX_NAME) (list_all is_name_byte name) h in
    all_inside is_name_byte name refl parts.1

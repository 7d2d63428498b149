-- What may stand in a line: neither digits nor a pattern end it.
use Rattle.std.proofs.Common.{◌≡◌, ℕ, ◌<◌, ◌^◌, List, [], ◌∷◌, length, Bool, true, false, ◌&&◌, ◌==◌, cond, refl, ap, arith}
use Rattle.std.specs.Prelude.{IsTrue, not, nat_le}
use Rattle.std.specs.List.{list_all}
use Rattle.std.specs.Fmt.{decimal}
use Rattle.std.specs.Str.Parse.{AllDigits}
use Rattle.std.proofs.lemmas.Bool.{and_parts, and_from, eqb-true}
use Rattle.std.proofs.lemmas.Bool.Decides.{nat_tests}
use Rattle.std.proofs.lemmas.Fmt.{decimal_is_IsNumeral}
use Rattle.std.proofs.lemmas.Str.Parse.{digit_from_value}
use Rattle.rl_base.specs.Lines.{is_line, is_inside}
use Rattle.redo_spec.specs.Skips.{before_dot, behind_dot, is_pattern, is_pattern_byte, is_pattern_part}

-- ---- digits

inside : (c : ℕ) → 10 < c → is_inside c ≡ true
inside c h = grind (arith, nat_tests)

digits_stay : (ds : List ℕ) → AllDigits 10 ds → is_line ds ≡ true
digits_stay [] d = refl
digits_stay (c ∷ cs) d =
    and_from (is_inside c) (is_line cs) (inside c (omega (arith, digit_from_value c d.0))) (digits_stay cs d.1)

pub decimal_is_line : (n : ℕ) → n < 2 ^ 64 → IsTrue (is_line (decimal n))
decimal_is_line n h = digits_stay (decimal n) (decimal_is_IsNumeral n h).0.1

-- ---- patterns

-- a byte of which a test holds that fails at another byte is not that one
apart_if : (p : ℕ → Bool) (b k : ℕ) (t : Bool) → (b == k) ≡ t → p b ≡ true → p k ≡ false → t ≡ false
apart_if p b k true is h e =
    let same : b ≡ k = eqb-true b k is in
    let both : p b ≡ p k = ap p same in cc
apart_if p b k false is h e = refl

inside_of : (p : ℕ → Bool) (b : ℕ) → p b ≡ true → p 10 ≡ false → is_inside b ≡ true
inside_of p b h e = ap not (apart_if p b 10 (b == 10) refl h e)

all_inside : (p : ℕ → Bool) (bytes : List ℕ) → p 10 ≡ false → list_all p bytes ≡ true → is_line bytes ≡ true
all_inside p [] e all = refl
all_inside p (b ∷ bytes) e all =
    let a = and_parts (p b) (list_all p bytes) all in
    and_from (is_inside b) (is_line bytes) (inside_of p b a.0 e) (all_inside p bytes e a.1)

dot_inside : (b : ℕ) → (b == 46) ≡ true → is_inside b ≡ true
dot_inside b is = let same : b ≡ 46 = eqb-true b 46 is in ap is_inside same

step : (t : Bool) (b : ℕ) (bytes : List ℕ) → (b == 46) ≡ t →
    list_all is_pattern_byte (cond t [] (b ∷ before_dot bytes)) ≡ true →
    list_all is_pattern_byte (cond t bytes (behind_dot bytes)) ≡ true →
    (list_all is_pattern_byte (before_dot bytes) ≡ true → list_all is_pattern_byte (behind_dot bytes) ≡ true →
    is_line bytes ≡ true) → is_line (b ∷ bytes) ≡ true
step true b bytes is first second rest =
    and_from (is_inside b) (is_line bytes) (dot_inside b is) (all_inside is_pattern_byte bytes refl second)
step false b bytes is first second rest =
    let a = and_parts (is_pattern_byte b) (list_all is_pattern_byte (before_dot bytes)) first in
    and_from (is_inside b) (is_line bytes) (inside_of is_pattern_byte b a.0 refl) (rest a.1 second)

both_parts : (bytes : List ℕ) → list_all is_pattern_byte (before_dot bytes) ≡ true →
    list_all is_pattern_byte (behind_dot bytes) ≡ true → is_line bytes ≡ true
both_parts [] first second = refl
both_parts (b ∷ bytes) first second = step (b == 46) b bytes refl first second (both_parts bytes)

part_bytes : (part : List ℕ) → is_pattern_part part ≡ true → list_all is_pattern_byte part ≡ true
part_bytes part h =
    (and_parts (nat_le 1 (length part) && nat_le (length part) 30) (list_all is_pattern_byte part) h).1

pub pattern_is_line : (pattern : List ℕ) → IsTrue (is_pattern pattern) → IsTrue (is_line pattern)
pattern_is_line pattern h =
    let parts = and_parts (is_pattern_part (before_dot pattern)) (is_pattern_part (behind_dot pattern)) h in
    both_parts pattern (part_bytes (before_dot pattern) parts.0) (part_bytes (behind_dot pattern) parts.1)

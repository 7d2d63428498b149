-- Lemmas on printed texts: digits hold no line end, and values with a byte between them.
use Rattle.std.proofs.Common.{◌≡◌, ℕ, ◌<◌, ◌^◌, List, [], ◌∷◌, ◌++◌, Bool, true, false, ◌&&◌, refl, ap, arith, append-nil, suc}
use lib.Signed.{mag}
use Rattle.std.specs.Prelude.{map}
use Rattle.std.specs.List.{join_with_byte}
use Rattle.std.specs.Prelude.{IsTrue, ℤ, pos, negsuc}
use Rattle.std.specs.Fmt.{decimal, signed_decimal}
use Rattle.std.specs.Str.Parse.{AllDigits}
use Rattle.std.proofs.lemmas.Fmt.{decimal_is_IsNumeral}
use Rattle.std.proofs.lemmas.Str.Parse.{digit_from_value}
use Rattle.std.proofs.lemmas.Bool.Decides.{nat_tests}
use Rattle.rl_base.specs.Lines.{is_line, is_inside}
use Rattle.rl_value.specs.Literal.{literal}
use Rattle.rl_value.specs.declared.value.Value.{Value}
use Rattle.rl_text.specs.Joined.{literals_between}

both : (a b : Bool) → IsTrue a → IsTrue b → IsTrue (a && b)
both true b p q = q
both false b p q = p

inside : (c : ℕ) → 10 < c → IsTrue (is_inside c)
inside c h = grind (arith, nat_tests)

-- digits hold no line end
pub line-from_digits : (ds : List ℕ) → AllDigits 10 ds → IsTrue (is_line ds)
line-from_digits [] d = refl
line-from_digits (c ∷ cs) d = both _ _ (inside c (omega (arith, digit_from_value c d.0))) (line-from_digits cs d.1)

pub line-decimal : (n : ℕ) → n < 2 ^ 64 → IsTrue (is_line (decimal n))
line-decimal n h = line-from_digits (decimal n) (decimal_is_IsNumeral n h).0.1

pub line-signed_decimal : (z : ℤ) → mag z < 2 ^ 63 → IsTrue (is_line (signed_decimal z))
line-signed_decimal (pos n) h = line-decimal n (omega arith)
line-signed_decimal (negsuc n) h = line-decimal (suc n) (omega arith)

-- the first value and each other with the byte before it are all values with the byte between them
pub joined-join : (b : ℕ) (vs : List Value) → literals_between b vs ≡ join_with_byte b (map literal vs)
joined-join b [] = refl
joined-join b (v ∷ []) = append-nil (literal v)
joined-join b (v ∷ w ∷ ws) = ap (λ l. literal v ++ (b ∷ l)) (joined-join b (w ∷ ws))

pub ruleset values_joined = (joined-join)

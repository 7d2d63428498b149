-- The value that is read of bytes is the one of which they are a literal, and there is none where they are of none.
use Rattle.std.proofs.Common.{◌≡◌, ◌⊎◌, inl, inr, ℕ, zero, suc, ◌<◌, ◌≤◌, ◌^◌, ◌+◌, ◌-◌, ◌*◌, ◌/◌, ◌%◌, List, [], ◌∷◌, ◌++◌, length, Bool, true, false, refl, sym, ap, ◌∙◌, subst, arith, Option, Some, None, Result, Ok, Err, IfOk, get_or, Fits}
use Rattle.std.specs.Int.{w8}
use Rattle.std.proofs.lemmas.List.{get_or_default}
use Rattle.std.specs.Prelude.{◌==◌, ◌&&◌, ◌↔◌, nat_le, nat_lt, ℤ, pos, negsuc, if◌then◌else◌, codes, IsTrue, neg_ℤ}
use Rattle.std.specs.List.{flat_map, list_all}
use Rattle.std.specs.Option.{option_and_then}
use Rattle.std.specs.Fmt.{decimal, signed_decimal}
use Rattle.std.specs.Str.Parse.{AllDigits, digits_value, signed_digits_value}
use Rattle.std.specs.Str.Lossy.{utf8_valid_len}
use Rattle.std.proofs.lemmas.Fmt.{decimal_is_IsNumeral}
use Rattle.std.proofs.lemmas.Str.Parse.{digit_from_value}
use Rattle.std.proofs.lemmas.Bool.Decides.{nat_tests}
use lib.Signed.{mag}
use Rattle.rl_value.specs.Literal.{quote, text_letter, raw_letter, hex_digit, hex, literal, is_printed, quoted_byte, quoted, in_hex, is_number, AreBytes, IsTextLiteral, IsLiteralOf}
use Rattle.rl_value.specs.LiteralValue.{hex_value, with_pair, with_byte, unhexed, unhexed_in_quotes, unquoted, is_raw, is_text, text_value, raw_value, quoted_value, number_value, value_of_first, value_of_literal}
use Rattle.rl_value.specs.Order.{same_bytes}
use Rattle.rl_value.specs.Text.{IsText, IsRaw}
use Rattle.rl_value.specs.declared.value.Value.{Value}
use Rattle.rl_value.specs.declared.value.Value.TheVariants.{Null, Number, Text, Raw}
use Rattle.rl_text.proofs.Literals.{le_true, le_false, same_false, first, second, eq_from, same-from_test, lt_true, mag-from_is_number, is_number-from_mag, some_number, text_value-text, raw_value-raw, IsUtf8-from_valid_len}

-- lists of bytes

bytes-nil : AreBytes []
bytes-nil k d h = absurd (omega arith)

bytes-cons : (b : ℕ) (bs : List ℕ) → b < 2 ^ 8 → AreBytes bs → AreBytes (b ∷ bs)
bytes-cons b bs h all zero d lt = h
bytes-cons b bs h all (suc k) d lt = all k d (omega arith)

bytes-head : (b : ℕ) (bs : List ℕ) → AreBytes (b ∷ bs) → b < 2 ^ 8
bytes-head b bs all = all 0 0 (omega arith)

bytes-tail : (b : ℕ) (bs : List ℕ) → AreBytes (b ∷ bs) → AreBytes bs
bytes-tail b bs all k d lt = all (suc k) d (omega arith)

-- what is known of a part where the whole has a value

with_byte_some : (b : ℕ) (o : Option (List ℕ)) (text : List ℕ) → with_byte b o ≡ Some text → (rest : List ℕ) × (o ≡ Some rest) ×
    (text ≡ b ∷ rest)
with_byte_some b None text e = cc
with_byte_some b (Some rest) text e = (rest, refl, cc)

with_pair_some : (x y : Option ℕ) (o : Option (List ℕ)) (bytes : List ℕ) → with_pair x y o ≡ Some bytes
    → (h : ℕ) × (l : ℕ) × (rest : List ℕ) × (x ≡ Some h) × (y ≡ Some l) × (o ≡ Some rest) × (bytes ≡ (16 * h + l) ∷ rest)
with_pair_some None y o bytes e = cc
with_pair_some (Some h) None o bytes e = cc
with_pair_some (Some h) (Some l) None bytes e = cc
with_pair_some (Some h) (Some l) (Some rest) bytes e = (h, l, rest, refl, refl, refl, cc)

and_then_some : (f : List ℕ → Option Value) (o : Option (List ℕ)) (v : Value) → option_and_then f o ≡ Some v → (bytes : List ℕ) ×
    (o ≡ Some bytes) × (f bytes ≡ Some v)
and_then_some f None v e = cc
and_then_some f (Some bytes) v e = (bytes, refl, e)

-- a value under a test
if_some : (t : Bool) (v w : Value) → (if t then Some v else None) ≡ Some w → (t ≡ true) × (w ≡ v)
if_some true v w e = (refl, cc)
if_some false v w e = cc

le_from : (t : Bool) (a b : ℕ) → nat_le a b ≡ t → t ≡ true → a ≤ b
le_from true a b is e = grind (arith, nat_tests)
le_from false a b is e = cc

raw-from_test : (bytes : List ℕ) → is_raw bytes ≡ true → IsRaw bytes
raw-from_test bytes e = record {
  some = le_from _ 1 (length bytes) refl (first _ _ e);
  most = le_from _ (length bytes) 500 refl (second _ _ e);
}

text-from_test : (bytes : List ℕ) → is_text bytes ≡ true → IsText bytes
text-from_test bytes e =
    let raw = raw-from_test bytes (first _ _ e) in
    record {
      some = raw.some;
      most = raw.most;
      utf8 = IsUtf8-from_valid_len bytes (eq_from _ (utf8_valid_len bytes) (length bytes) refl (second _ _ e));
    }

-- quoted texts

quoted_step : (t : Bool) (b : ℕ) (text more end : List ℕ) → (b == 39) ≡ t → is_printed b ≡ true →
    unquoted false (more ++ end) ≡ Some text
    → unquoted false (((if t then quote ∷ quote ∷ [] else b ∷ []) ++ more) ++ end) ≡ Some (b ∷ text)
quoted_step true b text more end is printed rest =
    let same : b ≡ 39 = grind (arith, nat_tests) in rw (rest, same) refl
quoted_step false b text more end is printed rest = rw (is, printed, rest) refl

unquoted-quoted : (text : List ℕ) → IsTrue (list_all is_printed text) →
    unquoted false (flat_map quoted_byte text ++ quote ∷ []) ≡ Some text
unquoted-quoted [] p = refl
unquoted-quoted (b ∷ text) p =
    quoted_step (b == 39) b text (flat_map quoted_byte text) (quote ∷ []) refl (first _ _ p) (unquoted-quoted text (second _ _ p))

-- the bytes are those of the text, up to the closing quote; the first byte of a half-read pair of quotes goes before them
Spells : Bool → List ℕ → List ℕ → Type 0
Spells true rest text = (quote ∷ rest ≡ flat_map quoted_byte text ++ quote ∷ []) × IsTrue (list_all is_printed text)
Spells false rest text = (rest ≡ flat_map quoted_byte text ++ quote ∷ []) × IsTrue (list_all is_printed text)

own_quote : (t : Bool) (b : ℕ) (rest text : List ℕ) → (b == 39) ≡ t →
    (if t then with_byte quote (unquoted false rest) else None) ≡ Some text
    → ((after : List ℕ) → unquoted false rest ≡ Some after → Spells false rest after) → Spells true (b ∷ rest) text
unfolding Spells
own_quote true b rest text is e ih =
    let same : b ≡ 39 = grind (arith, nat_tests) in
    let w = with_byte_some quote (unquoted false rest) text e in
    let s = ih w.0 w.1 in
    rw (w.2, same) (ap (λ l. quote ∷ quote ∷ l) s.0, s.1)
own_quote false b rest text is e ih = cc

own_byte : (t u : Bool) (b : ℕ) (rest text : List ℕ) → (b == 39) ≡ t → is_printed b ≡ u →
    (if t then unquoted true rest else if u then with_byte b (unquoted false rest) else None) ≡ Some text
    → ((after : List ℕ) → unquoted true rest ≡ Some after → Spells true rest after)
    → ((after : List ℕ) → unquoted false rest ≡ Some after → Spells false rest after) → Spells false (b ∷ rest) text
unfolding Spells
own_byte true u b rest text is printed e ih jh =
    let same : b ≡ 39 = grind (arith, nat_tests) in
    let s = ih text e in
    rw same s
own_byte false true b rest text is printed e ih jh =
    let w = with_byte_some b (unquoted false rest) text e in
    let s = jh w.0 w.1 in
    rw (w.2, is, printed) (ap (λ l. b ∷ l) s.0, s.1)
own_byte false false b rest text is printed e ih jh = cc

spells : (rest : List ℕ) (half : Bool) (text : List ℕ) → unquoted half rest ≡ Some text → Spells half rest text
unfolding Spells
spells [] true text e = let none : text ≡ [] = cc in rw none (refl, refl)
spells [] false text e = cc
spells (b ∷ rest) true text e = own_quote (b == 39) b rest text refl e (spells rest false)
spells (b ∷ rest) false text e = own_byte (b == 39) (is_printed b) b rest text refl refl e (spells rest true) (spells rest false)

spelled : (rest text : List ℕ) → unquoted false rest ≡ Some text → (rest ≡ flat_map quoted_byte text ++ quote ∷ []) ×
    IsTrue (list_all is_printed text)
unfolding Spells
spelled rest text e = spells rest false text e

bytes_step : (t : Bool) (b : ℕ) (text more end : List ℕ) → (b == 39) ≡ t →
    AreBytes (((if t then quote ∷ quote ∷ [] else b ∷ []) ++ more) ++ end)
    → (AreBytes (more ++ end) → AreBytes text) → AreBytes (b ∷ text)
bytes_step true b text more end is all rest =
    let same : b ≡ 39 = grind (arith, nat_tests) in
    bytes-cons b text (omega arith) (rest (bytes-tail quote (more ++ end) (bytes-tail quote (quote ∷ (more ++ end)) all)))
bytes_step false b text more end is all rest = bytes-cons b text (bytes-head b (more ++ end) all)
    (rest (bytes-tail b (more ++ end) all))

bytes-quoted : (text end : List ℕ) → AreBytes (flat_map quoted_byte text ++ end) → AreBytes text
bytes-quoted [] end all = bytes-nil
bytes-quoted (b ∷ text) end all = bytes_step (b == 39) b text (flat_map quoted_byte text) end refl all (bytes-quoted text end)

-- pairs of digits

digit_step : (t : Bool) (n : ℕ) → nat_lt n 10 ≡ t → n < 16 → hex_value (if t then 48 + n else 55 + n) ≡ Some n
digit_step true n is h =
    let lt : n < 10 = grind (arith, nat_tests) in
    let low : nat_le 48 (48 + n) ≡ true = le_true _ _ (omega arith) in
    let high : nat_le (48 + n) 57 ≡ true = le_true _ _ (omega arith) in
    rw (low, high) (ap Some (omega arith))
digit_step false n is h =
    let ge : 10 ≤ n = grind (arith, nat_tests) in
    let low : nat_le 48 (55 + n) ≡ true = le_true _ _ (omega arith) in
    let high : nat_le (55 + n) 57 ≡ false = le_false _ _ (omega arith) in
    let letter : nat_le 65 (55 + n) ≡ true = le_true _ _ (omega arith) in
    let last : nat_le (55 + n) 70 ≡ true = le_true _ _ (omega arith) in
    rw (low, high, letter, last) (ap Some (omega arith))

hex_value-digit : (n : ℕ) → n < 16 → hex_value (hex_digit n) ≡ Some n
hex_value-digit n h = digit_step (nat_lt n 10) n refl h

is_digit : (t u : Bool) (c d : ℕ) → (nat_le 48 c && nat_le c 57) ≡ t → (nat_le 65 c && nat_le c 70) ≡ u →
    (if t then Some (c - 48) else if u then Some (c - 55) else None) ≡ Some d
    → (hex_digit d ≡ c) × (d < 16)
is_digit true u c d is letter e =
    let low : 48 ≤ c = le_from _ 48 c refl (first (nat_le 48 c) (nat_le c 57) is) in
    let high : c ≤ 57 = le_from _ c 57 refl (second (nat_le 48 c) (nat_le c 57) is) in
    let same : c - 48 ≡ d = cc in
    let small : nat_lt d 10 ≡ true = lt_true d 10 (omega arith) in
    (rw small (omega arith), omega arith)
is_digit false true c d is letter e =
    let low : 65 ≤ c = le_from _ 65 c refl (first (nat_le 65 c) (nat_le c 70) letter) in
    let high : c ≤ 70 = le_from _ c 70 refl (second (nat_le 65 c) (nat_le c 70) letter) in
    let same : c - 55 ≡ d = cc in
    let large : nat_lt d 10 ≡ false = grind (arith, nat_tests) in
    (rw large (omega arith), omega arith)
is_digit false false c d is letter e = cc

digit-value : (c d : ℕ) → hex_value c ≡ Some d → (hex_digit d ≡ c) × (d < 16)
digit-value c d e = is_digit (nat_le 48 c && nat_le c 57) (nat_le 65 c && nat_le c 70) c d refl refl e

unhexed-hex : (bytes : List ℕ) → AreBytes bytes → unhexed (hex bytes ++ quote ∷ []) ≡ Some bytes
unhexed-hex [] all = refl
unhexed-hex (b ∷ bytes) all =
    let small : b < 2 ^ 8 = bytes-head b bytes all in
    let high : hex_value (hex_digit (b / 16)) ≡ Some (b / 16) = hex_value-digit (b / 16) (omega arith) in
    let low : hex_value (hex_digit (b % 16)) ≡ Some (b % 16) = hex_value-digit (b % 16) (omega arith) in
    let rest : unhexed (hex bytes ++ quote ∷ []) ≡ Some bytes = unhexed-hex bytes (bytes-tail b bytes all) in
    let whole : 16 * (b / 16) + b % 16 ≡ b = omega arith in
    rw (high, low, rest) (ap (λ n. Some (n ∷ bytes)) whole)

last_byte : (t : Bool) (b : ℕ) (bytes : List ℕ) → (b == 39) ≡ t → (if t then Some [] else None) ≡ Some bytes →
    (b ∷ [] ≡ hex bytes ++ quote ∷ []) × AreBytes bytes
last_byte true b bytes is e =
    let same : b ≡ 39 = grind (arith, nat_tests) in
    let none : bytes ≡ [] = cc in
    rw (none, same) (refl, bytes-nil)
last_byte false b bytes is e = cc

hexed : (rest bytes : List ℕ) → unhexed rest ≡ Some bytes → (rest ≡ hex bytes ++ quote ∷ []) × AreBytes bytes
hexed [] bytes e = cc
hexed (b ∷ []) bytes e = last_byte (b == 39) b bytes refl e
hexed (h ∷ l ∷ rest) bytes e =
    let w = with_pair_some (hex_value h) (hex_value l) (unhexed rest) bytes e in
    let s = hexed rest w.2 w.5 in
    let x = digit-value h w.0 w.3 in
    let y = digit-value l w.1 w.4 in
    let high : (16 * w.0 + w.1) / 16 ≡ w.0 = omega (arith, y.1) in
    let low : (16 * w.0 + w.1) % 16 ≡ w.1 = omega (arith, y.1) in
    rw (w.6, high, low, x.0, y.0) (ap (λ t. h ∷ l ∷ t) s.0, bytes-cons _ _ (omega (arith, x.1, y.1)) s.1)

in_quotes : (t : Bool) (b : ℕ) (rest bytes : List ℕ) → (b == 39) ≡ t → (if t then unhexed rest else None) ≡ Some bytes →
    (b ∷ rest ≡ quote ∷ hex bytes ++ quote ∷ []) × AreBytes bytes
in_quotes true b rest bytes is e =
    let same : b ≡ 39 = grind (arith, nat_tests) in
    let s = hexed rest bytes e in
    rw same (ap (λ l. quote ∷ l) s.0, s.1)
in_quotes false b rest bytes is e = cc

hexed_in_quotes : (rest bytes : List ℕ) → unhexed_in_quotes rest ≡ Some bytes →
    (rest ≡ quote ∷ hex bytes ++ quote ∷ []) × AreBytes bytes
hexed_in_quotes [] bytes e = cc
hexed_in_quotes (b ∷ rest) bytes e = in_quotes (b == 39) b rest bytes refl e

-- numbers

digits_value-signed : (c : ℕ) (cs : List ℕ) → AllDigits 10 (c ∷ cs) →
    signed_digits_value 10 (c ∷ cs) ≡ pos (digits_value 10 (c ∷ cs))
digits_value-signed c cs d =
    let low = digit_from_value c d.0 in
    let minus : (c == 45) ≡ false = same_false c 45 (omega arith) in
    let plus : (c == 43) ≡ false = same_false c 43 (omega arith) in
    rw (minus, plus) refl

-- bytes that begin as a number does are read as one
number_read : (c : ℕ) (cs : List ℕ) (z : ℤ) → c < 58 → 39 < c → signed_digits_value 10 (c ∷ cs) ≡ z → mag z < 2 ^ 63 →
    signed_decimal z ≡ c ∷ cs
    → value_of_literal (c ∷ cs) ≡ Some (Number z)
number_read c cs z high low v h e =
    let null : (c == 78) ≡ false = same_false c 78 (omega arith) in
    let quotes : (c == 39) ≡ false = same_false c 39 (omega arith) in
    let text : (c == 85) ≡ false = same_false c 85 (omega arith) in
    let raw : (c == 88) ≡ false = same_false c 88 (omega arith) in
    rw (null, quotes, text, raw) (some_number (c ∷ cs) z v h e)

digits_read : (ds : List ℕ) (n : ℕ) → 0 < length ds → AllDigits 10 ds → digits_value 10 ds ≡ n → n < 2 ^ 63 → decimal n ≡ ds →
    value_of_literal ds ≡ Some (Number (pos n))
digits_read [] n some d v h e = absurd (omega arith)
digits_read (c ∷ cs) n some d v h e =
    let low = digit_from_value c d.0 in
    number_read c cs (pos n) (omega (arith, d.0)) (omega arith) (digits_value-signed c cs d ∙ ap pos v) (omega arith) e

decimal_read : (z : ℤ) → mag z < 2 ^ 63 → value_of_literal (signed_decimal z) ≡ Some (Number z)
decimal_read (pos n) h =
    let k = decimal_is_IsNumeral n (omega arith) in
    digits_read (decimal n) n k.0.0 k.0.1 k.1 (omega arith) refl
decimal_read (negsuc n) h =
    let k = decimal_is_IsNumeral (suc n) (omega arith) in
    number_read 45 (decimal (suc n)) (negsuc n) (omega arith) (omega arith) (ap (λ m. neg_ℤ (pos m)) k.1) h refl

-- the value of a literal

quoted_value-text : (text : List ℕ) → IsText text → quoted_value text ≡ Some (Text text)
quoted_value-text [] t = absurd (omega (arith, t.some))
quoted_value-text (b ∷ text) t = text_value-text (b ∷ text) t

text_read : (text bytes : List ℕ) → IsText text → AreBytes text → IsTextLiteral text bytes →
    value_of_literal bytes ≡ Some (Text text)
text_read text bytes t all (inl p) =
    rw (p.1) (ap (λ o. option_and_then quoted_value o) (unquoted-quoted text p.0) ∙ quoted_value-text text t)
text_read text bytes t all (inr e) =
    rw e (ap (λ o. option_and_then text_value o) (unhexed-hex text all) ∙ text_value-text text t)

raw_read : (raw bytes : List ℕ) → IsRaw raw → AreBytes raw → bytes ≡ in_hex raw_letter raw →
    value_of_literal bytes ≡ Some (Raw raw)
raw_read raw bytes r all e = rw e (ap (λ o. option_and_then raw_value o) (unhexed-hex raw all) ∙ raw_value-raw raw r)

null_read : (bytes : List ℕ) → (bytes ≡ codes "NULL") ⊎ (bytes ≡ quoted []) → value_of_literal bytes ≡ Some Null
null_read bytes (inl e) = rw e refl
null_read bytes (inr e) = rw e refl

pub value-from_literal : (v : Value) (bytes : List ℕ) → IsLiteralOf v bytes → value_of_literal bytes ≡ Some v
value-from_literal Null bytes l = null_read bytes l
value-from_literal (Number z) bytes l = rw (l.1) (decimal_read z (mag-from_is_number z l.0))
value-from_literal (Text text) bytes l = text_read text bytes l.0 l.1 l.2
value-from_literal (Raw raw) bytes l = raw_read raw bytes l.0 l.1 l.2

-- the literal of a value

from_quoted : (text rest : List ℕ) (v : Value) → rest ≡ flat_map quoted_byte text ++ quote ∷ [] →
    IsTrue (list_all is_printed text) → AreBytes rest → quoted_value text ≡ Some v
    → IsLiteralOf v (quote ∷ rest)
from_quoted [] rest v is printed all e = let null : v ≡ Null = cc in rw null (inr (ap (λ l. quote ∷ l) is))
from_quoted (b ∷ text) rest v is printed all e =
    let w = if_some (is_text (b ∷ text)) (Text (b ∷ text)) v e in
    rw (w.1) (
      text-from_test (b ∷ text) w.0,
      bytes-quoted (b ∷ text) (quote ∷ []) (subst AreBytes is all),
      inl (printed, ap (λ l. quote ∷ l) is),
    )

from_hex : (text rest : List ℕ) (v : Value) → rest ≡ quote ∷ hex text ++ quote ∷ [] → AreBytes text → text_value text ≡ Some v →
    IsLiteralOf v (text_letter ∷ rest)
from_hex text rest v is all e =
    let w = if_some (is_text text) (Text text) v e in
    rw (w.1) (text-from_test text w.0, all, inr (ap (λ l. text_letter ∷ l) is))

from_raw : (raw rest : List ℕ) (v : Value) → rest ≡ quote ∷ hex raw ++ quote ∷ [] → AreBytes raw → raw_value raw ≡ Some v →
    IsLiteralOf v (raw_letter ∷ rest)
from_raw raw rest v is all e =
    let w = if_some (is_raw raw) (Raw raw) v e in
    rw (w.1) (raw-from_test raw w.0, all, ap (λ l. raw_letter ∷ l) is)

from_number : (z : ℤ) (bytes : List ℕ) (v : Value) → (if is_number z &&
    same_bytes (signed_decimal z) bytes then Some (Number z) else None) ≡ Some v → IsLiteralOf v bytes
from_number z bytes v e =
    let w = if_some (is_number z && same_bytes (signed_decimal z) bytes) (Number z) v e in
    rw (w.1) (first _ _ w.0, sym (same-from_test (signed_decimal z) bytes (second _ _ w.0)))

by_first : (t u x : Bool) (b : ℕ) (rest : List ℕ) (v : Value) → (b == quote) ≡ t → (b == text_letter) ≡ u →
    (b == raw_letter) ≡ x → AreBytes (b ∷ rest)
    → (if t then option_and_then quoted_value (unquoted false rest)
    else if u then option_and_then text_value (unhexed_in_quotes rest)
    else if x then option_and_then raw_value (unhexed_in_quotes rest)
    else number_value (b ∷ rest)) ≡ Some v
    → IsLiteralOf v (b ∷ rest)
by_first true u x b rest v is n m all e =
    let same : b ≡ 39 = grind (arith, nat_tests) in
    let w = and_then_some quoted_value (unquoted false rest) v e in
    let s = spelled rest w.0 w.1 in
    rw same (from_quoted w.0 rest v s.0 s.1 (bytes-tail b rest all) w.2)
by_first false true x b rest v n is m all e =
    let same : b ≡ 85 = grind (arith, nat_tests) in
    let w = and_then_some text_value (unhexed_in_quotes rest) v e in
    let s = hexed_in_quotes rest w.0 w.1 in
    rw same (from_hex w.0 rest v s.0 s.1 w.2)
by_first false false true b rest v n m is all e =
    let same : b ≡ 88 = grind (arith, nat_tests) in
    let w = and_then_some raw_value (unhexed_in_quotes rest) v e in
    let s = hexed_in_quotes rest w.0 w.1 in
    rw same (from_raw w.0 rest v s.0 s.1 w.2)
by_first false false false b rest v k n m all e = from_number (signed_digits_value 10 (b ∷ rest)) (b ∷ rest) v e

from_first : (bytes : List ℕ) (v : Value) → AreBytes bytes → value_of_first bytes ≡ Some v → IsLiteralOf v bytes
from_first [] v all e = cc
from_first (b ∷ rest) v all e = by_first (b == quote) (b == text_letter) (b == raw_letter) b rest v refl refl refl all e

null_or_first : (t : Bool) (bytes : List ℕ) (v : Value) → same_bytes bytes (codes "NULL") ≡ t → AreBytes bytes →
    (if t then Some Null else value_of_first bytes) ≡ Some v → IsLiteralOf v bytes
null_or_first true bytes v is all e = let null : v ≡ Null = cc in rw null (inl (same-from_test bytes (codes "NULL") is))
null_or_first false bytes v is all e = from_first bytes v all e

pub literal-from_value : (bytes : List ℕ) → AreBytes bytes → (v : Value) → value_of_literal bytes ≡ Some v → IsLiteralOf v bytes
literal-from_value bytes all v e = null_or_first (same_bytes bytes (codes "NULL")) bytes v refl all e

pub agree : (bytes : List ℕ) → AreBytes bytes → (v : Value) → (value_of_literal bytes ≡ Some v) ↔ IsLiteralOf v bytes
agree bytes all v = (literal-from_value bytes all v, value-from_literal v bytes)

-- the same of what a call found
pub agree-found : {E : Type 0} (r : Result (Option Value) E) (bytes : List ℕ) → AreBytes bytes →
    IfOk r (λ found. found ≡ value_of_literal bytes)
    → IfOk r (λ found. (v : Value) → (found ≡ Some v) ↔ IsLiteralOf v bytes)
agree-found (Ok found) bytes all is = rw is (agree bytes all)
agree-found (Err e) bytes all is = tt

-- a literal stands for one value
pub one_value : (bytes : List ℕ) (v w : Value) → IsLiteralOf v bytes → IsLiteralOf w bytes → v ≡ w
one_value bytes v w p q =
    let e : Some v ≡ Some w = sym (value-from_literal v bytes p) ∙ value-from_literal w bytes q in cc

-- what is printed is a literal

-- the numbers of a list of bytes
pub AreBytes-from_fits : (bs : List ℕ) → ((i : ℕ) → Fits w8 (get_or bs i 0)) → AreBytes bs
AreBytes-from_fits bs all k d lt = rw (get_or_default bs k d 0 lt) (all k).fits

printed_text : (t : Bool) (text : List ℕ) → list_all is_printed text ≡ t →
    IsTextLiteral text (if t then quoted text else in_hex text_letter text)
printed_text true text is = inl (is, refl)
printed_text false text is = inr refl

pub literal-null : IsLiteralOf Null (literal Null)
literal-null = inl refl

pub literal-number : (z : ℤ) → mag z < 2 ^ 63 → IsLiteralOf (Number z) (literal (Number z))
literal-number z h = (is_number-from_mag z h, refl)

pub literal-text : (text : List ℕ) → IsText text → AreBytes text → IsLiteralOf (Text text) (literal (Text text))
literal-text text t all = (t, all, printed_text (list_all is_printed text) text refl)

pub literal-raw : (raw : List ℕ) → IsRaw raw → AreBytes raw → IsLiteralOf (Raw raw) (literal (Raw raw))
literal-raw raw r all = (r, all, refl)

pub ruleset printed = (literal-null, literal-number, literal-text, literal-raw)

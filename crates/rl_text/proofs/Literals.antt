-- Lemmas on reading a literal: one step of a loop, the forms of texts and raw values, and numbers.
use Rattle.std.proofs.Common.{◌≡◌, ℕ, ◌<◌, ◌≤◌, ◌^◌, suc, zero, List, [], ◌∷◌, ◌++◌, length, take, Bool, true, false, refl, sym, ap, ◌∙◌, subst, arith, append_assoc, Option, Some, None, Result, Ok, Err}
use Rattle.std.specs.Prelude.{◌==◌, ◌&&◌, nat_le, nat_lt, ℤ, pos, negsuc, FitsSigned, if◌then◌else◌, IsUtf8}
use Rattle.std.specs.Str.{is_utf8}
use Rattle.std.specs.Str.Lossy.{utf8_valid_len, valid_len_up_to}
use Rattle.std.proofs.lemmas.Str.{utf8_valid_len-IsUtf8, IsUtf8-from_is_utf8, IsUtf8-nil, IsUtf8-from_ascii}
use Rattle.std.proofs.lemmas.Bool.Decides.{nat_tests}
use Rattle.std.proofs.lemmas.List.{take_all}
use Rattle.rl_value.specs.Literal.{quote, is_printed, is_number}
use Rattle.rl_value.specs.Order.{same_bytes}
use Rattle.std.specs.Fmt.{signed_decimal}
use Rattle.std.specs.Str.Parse.{ParsesSigned, IsNumeral, without_leading_sign, signed_digits_value}
use Rattle.std.proofs.lemmas.Fmt.{parse-signed_decimal, IsAscii-signed}
use Rattle.std.specs.Int.{w64}
use lib.Signed.{mag}
use Rattle.rl_value.specs.LiteralValue.{hex_value, with_pair, with_byte, unhexed, unquoted, text_value, raw_value, number_value}
use Rattle.rl_value.specs.Text.{IsText, IsRaw}
use Rattle.rl_value.specs.declared.value.Value.TheVariants.{Number, Text, Raw}
use Rattle.rl_text.specs.Reading.{pair_value, quoted_step, with_read}

pub behind-more : (read : List ℕ) (b : ℕ) (rest : Option (List ℕ)) →
    with_read (read ++ b ∷ []) rest ≡ with_read read (with_byte b rest)
behind-more read b None = refl
behind-more read b (Some bytes) = ap Some (append_assoc read (b ∷ []) bytes)

pair : (x y : Option ℕ) (rest : Option (List ℕ)) (b : ℕ) → pair_value x y ≡ Some b → with_pair x y rest ≡ with_byte b rest
pair None y rest b e = cc
pair (Some h) None rest b e = cc
pair (Some h) (Some l) None b e = refl
pair (Some h) (Some l) (Some bytes) b e = cc

no_pair : (x y : Option ℕ) (rest : Option (List ℕ)) → pair_value x y ≡ None → with_pair x y rest ≡ None
no_pair None y rest e = refl
no_pair (Some h) None rest e = refl
no_pair (Some h) (Some l) rest e = cc

-- two digits of a byte, and what stands behind them
pub unhexed-pair : (h l : ℕ) (rest : List ℕ) (b : ℕ) → pair_value (hex_value h) (hex_value l) ≡ Some b →
    unhexed (h ∷ l ∷ rest) ≡ with_byte b (unhexed rest)
unhexed-pair h l rest b e = pair (hex_value h) (hex_value l) (unhexed rest) b e

pub unhexed-no_pair : (h l : ℕ) (rest : List ℕ) → pair_value (hex_value h) (hex_value l) ≡ None → unhexed (h ∷ l ∷ rest) ≡ None
unhexed-no_pair h l rest e = no_pair (hex_value h) (hex_value l) (unhexed rest) e

pub ruleset pairs = (behind-more, unhexed-pair, unhexed-no_pair)

own_half : (t : Bool) (b : ℕ) (rest : List ℕ) → (b == 39) ≡ t → (if t then Some true else None) ≡ Some true
    → (if t then with_byte quote (unquoted false rest) else None) ≡ with_byte b (unquoted false rest)
own_half true b rest is e = let same : 39 ≡ b = grind (arith, nat_tests) in ap (λ c. with_byte c (unquoted false rest)) same
own_half false b rest is e = cc

own_whole : (t u : Bool) (b : ℕ) (rest : List ℕ) → (if t then Some false else if u then Some true else None) ≡ Some true
    → (if t then unquoted true rest else if u then with_byte b (unquoted false rest) else None) ≡
    with_byte b (unquoted false rest)
own_whole true u b rest e = cc
own_whole false true b rest e = refl
own_whole false false b rest e = cc

-- a byte of the text's own
pub unquoted-own : (half : Bool) (b : ℕ) (rest : List ℕ) → quoted_step half b ≡ Some true →
    unquoted half (b ∷ rest) ≡ with_byte b (unquoted false rest)
unquoted-own true b rest e = own_half (b == 39) b rest refl e
unquoted-own false b rest e = own_whole (b == 39) (is_printed b) b rest e

quote_half : (t : Bool) (b : ℕ) (rest : List ℕ) → (if t then Some true else None) ≡ Some false
    → (if t then with_byte quote (unquoted false rest) else None) ≡ unquoted true rest
quote_half true b rest e = cc
quote_half false b rest e = cc

quote_whole : (t u : Bool) (b : ℕ) (rest : List ℕ) → (if t then Some false else if u then Some true else None) ≡ Some false
    → (if t then unquoted true rest else if u then with_byte b (unquoted false rest) else None) ≡ unquoted true rest
quote_whole true u b rest e = refl
quote_whole false true b rest e = cc
quote_whole false false b rest e = cc

-- a quote that may close the text
pub unquoted-quote : (half : Bool) (b : ℕ) (rest : List ℕ) → quoted_step half b ≡ Some false →
    unquoted half (b ∷ rest) ≡ unquoted true rest
unquoted-quote true b rest e = quote_half (b == 39) b rest e
unquoted-quote false b rest e = quote_whole (b == 39) (is_printed b) b rest e

none_half : (t : Bool) (b : ℕ) (rest : List ℕ) → (if t then Some true else None) ≡ None
    → (if t then with_byte quote (unquoted false rest) else None) ≡ None
none_half true b rest e = cc
none_half false b rest e = refl

none_whole : (t u : Bool) (b : ℕ) (rest : List ℕ) → (if t then Some false else if u then Some true else None) ≡ None
    → (if t then unquoted true rest else if u then with_byte b (unquoted false rest) else None) ≡ None
none_whole true u b rest e = cc
none_whole false true b rest e = cc
none_whole false false b rest e = refl

-- a byte that may not stand there
pub unquoted-none : (half : Bool) (b : ℕ) (rest : List ℕ) → quoted_step half b ≡ None → unquoted half (b ∷ rest) ≡ None
unquoted-none true b rest e = none_half (b == 39) b rest e
unquoted-none false b rest e = none_whole (b == 39) (is_printed b) b rest e

pub ruleset quotes = (behind-more, unquoted-own, unquoted-quote, unquoted-none)

pub le_true : (a b : ℕ) → a ≤ b → nat_le a b ≡ true
le_true a b h = grind (arith, nat_tests)

pub le_false : (a b : ℕ) → b < a → nat_le a b ≡ false
le_false a b h = grind (arith, nat_tests)

pub same_true : (a b : ℕ) → a ≡ b → (a == b) ≡ true
same_true a b h = grind (arith, nat_tests)

pub same_false : (a b : ℕ) → (a ≡ b → ⊥) → (a == b) ≡ false
same_false a b h = grind (arith, nat_tests)

up_to_le : (bs : List ℕ) (n : ℕ) → valid_len_up_to bs n ≤ n
up_to_le bs zero = omega arith
up_to_le bs (suc n) = elim (is_utf8 (take (suc n) bs)) as (λ b. (if b then suc n else valid_len_up_to bs n) ≤ suc n)
    [ true ↦ omega arith | false ↦ omega (arith, up_to_le bs n) ]

up_to_all : (b : Bool) (m n : ℕ) → m ≤ n → (if b then suc n else m) ≡ suc n → b ≡ true
up_to_all true m n h e = refl
up_to_all false m n h e = absurd (omega arith)

whole : (bs : List ℕ) (n : ℕ) → length bs ≡ n → valid_len_up_to bs n ≡ n → IsUtf8 bs
whole [] n h e = IsUtf8-nil
whole (b ∷ bs) zero h e = absurd (omega arith)
whole (b ∷ bs) (suc n) h e =
    let test : is_utf8 (take (suc n) (b ∷ bs)) ≡ true = up_to_all (is_utf8 (take (suc n) (b ∷ bs))) (valid_len_up_to (b ∷ bs) n) n
    (up_to_le (b ∷ bs) n) e in
    let all : take (suc n) (b ∷ bs) ≡ b ∷ bs = take_all (suc n) (b ∷ bs) (omega arith) in
    IsUtf8-from_is_utf8 (b ∷ bs) (subst (λ (l : List ℕ). is_utf8 l ≡ true) all test)

-- the longest front that is UTF-8 is all
pub IsUtf8-from_valid_len : (bs : List ℕ) → utf8_valid_len bs ≡ length bs → IsUtf8 bs
unfolding utf8_valid_len
IsUtf8-from_valid_len bs e = whole bs (length bs) refl e

pub text_value-text : (bytes : List ℕ) → IsText bytes → text_value bytes ≡ Some (Text bytes)
text_value-text bytes t =
    let some : nat_le 1 (length bytes) ≡ true = le_true _ _ t.some in
    let most : nat_le (length bytes) 500 ≡ true = le_true _ _ t.most in
    let utf8 : (utf8_valid_len bytes == length bytes) ≡ true = same_true _ _ (utf8_valid_len-IsUtf8 bytes t.utf8) in
    rw (some, most, utf8) refl

pub text_value-size : (bytes : List ℕ) → 500 < length bytes → text_value bytes ≡ None
text_value-size bytes h =
    let some : nat_le 1 (length bytes) ≡ true = le_true _ _ (omega arith) in
    let most : nat_le (length bytes) 500 ≡ false = le_false _ _ h in
    rw (some, most) refl

pub text_value-utf8 : (bytes : List ℕ) → IsRaw bytes → (IsUtf8 bytes → ⊥) → text_value bytes ≡ None
text_value-utf8 bytes r h =
    let some : nat_le 1 (length bytes) ≡ true = le_true _ _ r.some in
    let most : nat_le (length bytes) 500 ≡ true = le_true _ _ r.most in
    let utf8 : (utf8_valid_len bytes == length bytes) ≡ false = same_false _ _ (λ e. h (IsUtf8-from_valid_len bytes e)) in
    rw (some, most, utf8) refl

pub raw_value-raw : (bytes : List ℕ) → IsRaw bytes → raw_value bytes ≡ Some (Raw bytes)
raw_value-raw bytes r =
    let some : nat_le 1 (length bytes) ≡ true = le_true _ _ r.some in
    let most : nat_le (length bytes) 500 ≡ true = le_true _ _ r.most in
    rw (some, most) refl

pub raw_value-size : (bytes : List ℕ) → 500 < length bytes → raw_value bytes ≡ None
raw_value-size bytes h =
    let some : nat_le 1 (length bytes) ≡ true = le_true _ _ (omega arith) in
    let most : nat_le (length bytes) 500 ≡ false = le_false _ _ h in
    rw (some, most) refl

pub ruleset forms = (text_value-text, text_value-size, text_value-utf8, raw_value-raw, raw_value-size)

-- numbers

pub both : (a b : Bool) → a ≡ true → b ≡ true → (a && b) ≡ true
both true b p q = q
both false b p q = p

pub first : (a b : Bool) → (a && b) ≡ true → a ≡ true
first true b p = refl
first false b p = p

pub second : (a b : Bool) → (a && b) ≡ true → b ≡ true
second true b p = p
second false b p = cc

pub eq_from : (t : Bool) (x y : ℕ) → (x == y) ≡ t → t ≡ true → x ≡ y
eq_from true x y is e = grind (arith, nat_tests)
eq_from false x y is e = cc

pub same-from_test : (xs ys : List ℕ) → same_bytes xs ys ≡ true → xs ≡ ys
same-from_test [] [] e = refl
same-from_test [] (y ∷ ys) e = cc
same-from_test (x ∷ xs) [] e = cc
same-from_test (x ∷ xs) (y ∷ ys) e =
    let head : x ≡ y = eq_from (x == y) x y refl (first (x == y) (same_bytes xs ys) e) in
    let tail : xs ≡ ys = same-from_test xs ys (second (x == y) (same_bytes xs ys) e) in
    cc

pub same-itself : (xs : List ℕ) → same_bytes xs xs ≡ true
same-itself [] = refl
same-itself (x ∷ xs) = both (x == x) (same_bytes xs xs) (same_true x x refl) (same-itself xs)

lt_from : (t : Bool) (a b : ℕ) → nat_lt a b ≡ t → t ≡ true → a < b
lt_from true a b is e = grind (arith, nat_tests)
lt_from false a b is e = cc

pub lt_true : (a b : ℕ) → a < b → nat_lt a b ≡ true
lt_true a b h = grind (arith, nat_tests)

pub mag-from_is_number : (z : ℤ) → is_number z ≡ true → mag z < 2 ^ 63
mag-from_is_number (pos n) e = lt_from (nat_lt n (2 ^ 63)) n (2 ^ 63) refl e
mag-from_is_number (negsuc n) e = lt_from (nat_lt n (2 ^ 63)) n (2 ^ 63) refl e

pub is_number-from_mag : (z : ℤ) → mag z < 2 ^ 63 → is_number z ≡ true
is_number-from_mag (pos n) h = lt_true n (2 ^ 63) h
is_number-from_mag (negsuc n) h = lt_true n (2 ^ 63) h

-- bytes that are the printed form of no number of 64 bits
none_of : (t u : Bool) (z : ℤ) (bytes : List ℕ) → is_number z ≡ t → same_bytes (signed_decimal z) bytes ≡ u →
    (mag z < 2 ^ 63 → signed_decimal z ≡ bytes → ⊥)
    → (if t && u then Some (Number z) else None) ≡ None
none_of true true z bytes p q never = absurd (never (mag-from_is_number z p) (same-from_test (signed_decimal z) bytes q))
none_of true false z bytes p q never = refl
none_of false u z bytes p q never = refl

no_number : (bytes : List ℕ) → ((z : ℤ) → z ≡ signed_digits_value 10 bytes → mag z < 2 ^ 63 → signed_decimal z ≡ bytes → ⊥) →
    number_value bytes ≡ None
no_number bytes never = none_of _ _ (signed_digits_value 10 bytes) bytes refl refl (never (signed_digits_value 10 bytes) refl)

pub some_number : (bytes : List ℕ) (z : ℤ) → signed_digits_value 10 bytes ≡ z → mag z < 2 ^ 63 → signed_decimal z ≡ bytes →
    number_value bytes ≡ Some (Number z)
some_number bytes z v h e =
    let fits : is_number z ≡ true = is_number-from_mag z h in
    let same : same_bytes (signed_decimal z) bytes ≡ true = rw e (same-itself bytes) in
    rw (v, fits, same) refl

value_is : {E : Type 0} (bytes : List ℕ) (z : ℤ) (r : Result ℤ E) → ParsesSigned w64 10 bytes r → r ≡ Ok z →
    z ≡ signed_digits_value 10 bytes
value_is bytes z (Ok y) p e = let same : y ≡ z = cc in sym same ∙ p.1
value_is bytes z (Err y) p e = cc

-- a text that is read as a number, and is printed as this number
pub number_value-same : {E : Type 0} (bytes : List ℕ) (z : ℤ) (r : Result ℤ E) → ParsesSigned w64 10 bytes r → r ≡ Ok z →
    mag z < 2 ^ 63 → signed_decimal z ≡ bytes → number_value bytes ≡ Some (Number z)
number_value-same bytes z r p e h same = some_number bytes z (sym (value_is bytes z r p e)) h same

-- or otherwise
pub number_value-other : {E : Type 0} (bytes : List ℕ) (z : ℤ) (r : Result ℤ E) → ParsesSigned w64 10 bytes r → r ≡ Ok z →
    (signed_decimal z ≡ bytes → ⊥) → number_value bytes ≡ None
number_value-other bytes z r p e never = no_number bytes
    (λ y v h same. never (ap signed_decimal (value_is bytes z r p e ∙ sym v) ∙ same))

-- a text that is read as no number
pub number_value-unread : {E : Type 0} (bytes : List ℕ) (r : Result ℤ E) (x : E) → ParsesSigned w64 10 bytes r → r ≡ Err x →
    number_value bytes ≡ None
number_value-unread bytes r x p e =
    no_number bytes (λ y v h same. let read : r ≡ Ok y = parse-signed_decimal w64 y bytes r (record { sfits = h }) h
    (sym same) p in cc)

-- the same, by what its numeral is not
pub number_value-no_numeral : (bytes : List ℕ) → (IsNumeral 10 (without_leading_sign bytes) ×
    FitsSigned w64 (signed_digits_value 10 bytes) → ⊥) → number_value bytes ≡ None
number_value-no_numeral bytes never = number_value-unread {E = ℕ} bytes (Err 0) 0 never refl

-- bytes that are no text
pub number_value-no_text : (bytes : List ℕ) → (IsUtf8 bytes → ⊥) → number_value bytes ≡ None
number_value-no_text bytes never = no_number bytes (λ y v h same. never
    (subst IsUtf8 same (IsUtf8-from_ascii (signed_decimal y) (IsAscii-signed y h))))

pub ruleset numbers = (number_value-no_numeral, number_value-no_text)

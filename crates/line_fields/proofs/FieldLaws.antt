-- Fields as they are printed: they are read as they were, and stand whole between spaces and other bytes.
use Rattle.std.proofs.Common.{◌≡◌, ℕ, suc, ◌+◌, ◌<◌, ◌≤◌, ◌^◌, ◌/◌, ◌%◌, Bool, true, false, List, [], ◌∷◌, ◌++◌, length, Option, Some, Ok, refl, sym, ap, ◌∙◌, subst, append_assoc, arith}
use Rattle.std.specs.Prelude.{◌&&◌, ◌==◌, nat_le, nat_lt, if◌then◌else◌, ℤ, pos, negsuc, codes}
use Rattle.std.specs.List.{flat_map, list_all, AllByRecursion}
use Rattle.std.specs.Option.{option_and_then}
use Rattle.std.specs.Fmt.{decimal, signed_decimal}
use Rattle.std.proofs.lemmas.Bool.{and_parts, ne_eqb, leb-true}
use Rattle.std.proofs.lemmas.List.{append-nil}
use Rattle.std.proofs.lemmas.List.Elements.{All-from_recursion}
use lib.Signed.{mag}
use Rattle.rl_value.specs.declared.value.Value.{Value}
use Rattle.rl_value.specs.declared.value.Value.TheVariants.{Null, Number, Text, Raw}
use Rattle.rl_value.specs.declared.xid.Xid.{Xid}
use Rattle.rl_value.specs.Literal.{quote, hex, hex_digit, is_printed, quoted_byte, quoted, in_hex, text_letter, raw_letter, literal, xid_text, IsLiteralOf}
use Rattle.rl_value.specs.LiteralValue.{value_of_literal}
use Rattle.rl_value.specs.Outcome.{or_err}
use Rattle.rl_value.specs.Text.{is_name, is_name_byte, IsRaw}
use Rattle.rl_text.proofs.LiteralLaws.{value-from_literal, literal-null, literal-number, literal-text, literal-raw}
use Rattle.redo_vec.specs.Forms.{is_line30}
use Rattle.redo_vec.specs.Ranges.{IsValue, IsXid, IsWord}
use Rattle.script_words.specs.Numbers.{is_digit}
use Rattle.script_words.specs.Parts.{before, behind, xid_of_parts, xid_of}
use Rattle.line_fields.specs.declared.fault.LineFault.TheVariants as faults
use Rattle.line_fields.specs.Fields.{xid_said, name_of_value, name_said, name_word, value_said}
use Rattle.line_fields.specs.Words.{joined, dot}
use Rattle.line_fields.proofs.Splitting.{closes, closes-joined, closes-kind, apart}
use Rattle.line_fields.proofs.Numbers.{number_in_printed, decimal_digits}

-- ---- numbers

-- a byte that is no quote and no digit
pub closes-decimal : (between n : ℕ) → is_digit between ≡ false → n < 2 ^ 64 → closes between false (decimal n) ≡ true
closes-decimal between n e h = closes-kind is_digit between (decimal n) refl refl e (decimal_digits n h)

-- ---- transaction ids

abbrev xid_parts : Xid → List (List ℕ)
xid_parts x = decimal x.usn ∷ decimal x.slot ∷ decimal x.sqn ∷ []

xid_joined : (x : Xid) → xid_text x ≡ joined dot (xid_parts x)
xid_joined x =
    append_assoc (decimal x.usn) (46 ∷ decimal x.slot) (46 ∷ decimal x.sqn)
    ∙ ap (λ (t : List ℕ). decimal x.usn ++ (46 ∷ (decimal x.slot ++ (46 ∷ t)))) (sym (append-nil (decimal x.sqn)))

xid_closed : (between : ℕ) (x : Xid) → is_digit between ≡ false → IsXid x →
    AllByRecursion (λ p. closes between false p ≡ true) (xid_parts x)
xid_closed between x e ok =
    let usn : x.usn < 2 ^ 16 = ok.usn in
    let slot : x.slot < 2 ^ 16 = ok.slot in
    let sqn : x.sqn < 2 ^ 32 = ok.sqn in (
      closes-decimal between x.usn e (omega arith),
      (closes-decimal between x.slot e (omega arith), (closes-decimal between x.sqn e (omega arith), tt)),
    )

-- no digit is a dot
no_dot : (b : ℕ) → is_digit b ≡ true → (b == 46) ≡ false
no_dot b e = let low : 48 ≤ b = leb-true 48 b (and_parts (nat_le 48 b) (nat_le b 57) e).0 in ne_eqb b 46 (omega arith)

before_dot : (digits rest : List ℕ) → list_all is_digit digits ≡ true → before 46 (digits ++ (46 ∷ rest)) ≡ digits
before_dot [] rest all = refl
before_dot (b ∷ digits) rest all =
    let p = and_parts (is_digit b) (list_all is_digit digits) all in
    rw (no_dot b p.0) (ap (λ (t : List ℕ). b ∷ t) (before_dot digits rest p.1))

behind_dot : (digits rest : List ℕ) → list_all is_digit digits ≡ true → behind 46 (digits ++ (46 ∷ rest)) ≡ Some rest
behind_dot [] rest all = refl
behind_dot (b ∷ digits) rest all =
    let p = and_parts (is_digit b) (list_all is_digit digits) all in rw (no_dot b p.0) (behind_dot digits rest p.1)

-- a word of three parts
parts_of : (word u s q rest : List ℕ) → before 46 word ≡ u → behind 46 word ≡ Some rest → before 46 rest ≡ s →
    behind 46 rest ≡ Some q → xid_of word ≡ xid_of_parts u s (Some q)
unfolding xid_of
parts_of word u s q rest first others second third =
    ap (λ (o : Option (List ℕ)).
    option_and_then (λ (r : List ℕ). xid_of_parts (before 46 word) (before 46 r) (behind 46 r)) o) others
    ∙ ap (λ (w : List ℕ). xid_of_parts w (before 46 rest) (behind 46 rest)) first
    ∙ ap (λ (w : List ℕ). xid_of_parts u w (behind 46 rest)) second
    ∙ ap (λ (o : Option (List ℕ)). xid_of_parts u s o) third

xid_numbers : (x : Xid) → IsXid x → xid_of_parts (decimal x.usn) (decimal x.slot) (Some (decimal x.sqn)) ≡ Some x
unfolding xid_of_parts
xid_numbers x ok =
    let usn : x.usn < 2 ^ 16 = ok.usn in
    let slot : x.slot < 2 ^ 16 = ok.slot in
    let sqn : x.sqn < 2 ^ 32 = ok.sqn in
    rw (
      number_in_printed 65535 x.usn (omega arith) (omega arith),
      number_in_printed 65535 x.slot (omega arith) (omega arith),
      number_in_printed 4294967295 x.sqn (omega arith) (omega arith),
    ) refl

xid_in_printed : (x : Xid) → IsXid x → xid_of (xid_text x) ≡ Some x
xid_in_printed x ok =
    let usn : x.usn < 2 ^ 16 = ok.usn in
    let slot : x.slot < 2 ^ 16 = ok.slot in
    let rest = decimal x.slot ++ (46 ∷ decimal x.sqn) in
    let first = decimal_digits x.usn (omega arith) in
    let second = decimal_digits x.slot (omega arith) in
    ap xid_of (append_assoc (decimal x.usn) (46 ∷ decimal x.slot) (46 ∷ decimal x.sqn))
    ∙ parts_of (decimal x.usn ++ (46 ∷ rest)) (decimal x.usn) (decimal x.slot) (decimal x.sqn) rest
    (before_dot (decimal x.usn) rest first) (behind_dot (decimal x.usn) rest first)
    (before_dot (decimal x.slot) (decimal x.sqn) second) (behind_dot (decimal x.slot) (decimal x.sqn) second)
    ∙ xid_numbers x ok

-- a printed transaction id is read
pub xid_printed : (x : Xid) → IsXid x → xid_said (xid_text x) ≡ Ok x
unfolding xid_said
xid_printed x ok = ap (λ (o : Option Xid). or_err o faults.Number) (xid_in_printed x ok)

pub closes-xid : (x : Xid) → IsXid x → closes 32 false (xid_text x) ≡ true
closes-xid x ok = subst (λ (t : List ℕ). closes 32 false t ≡ true) (sym (xid_joined x))
    (closes-joined 32 dot (xid_parts x) refl (xid_closed 32 x refl ok))

-- ---- literals

value_literal : (v : Value) → IsValue v → IsLiteralOf v (literal v)
value_literal Null ok = literal-null
value_literal (Number z) ok = literal-number z ok.sfits
value_literal (Text bytes) ok = literal-text bytes ok.0 (All-from_recursion (λ b. b < 256) bytes ok.1)
value_literal (Raw bytes) ok = literal-raw bytes ok.0 (All-from_recursion (λ b. b < 256) bytes ok.1)

pub value_printed : (v : Value) → IsValue v → value_said (literal v) ≡ Ok v
value_printed v ok = rw (value-from_literal v (literal v) (value_literal v ok)) refl

-- a byte as it stands between quotes, and what follows
quoted_step : (t : Bool) (between b : ℕ) (rest : List ℕ) → (quote == between) ≡ false → (b == quote) ≡ t → (b == 10) ≡ false →
    closes between true rest ≡ true → closes between true ((if t then quote ∷ quote ∷ [] else b ∷ []) ++ rest) ≡ true
quoted_step true between b rest apart_from is n e = rw apart_from e
quoted_step false between b rest apart_from is n e = rw (is, n) e

closes-quoted_bytes : (between : ℕ) (bytes : List ℕ) → (quote == between) ≡ false → list_all is_printed bytes ≡ true →
    closes between true (flat_map quoted_byte bytes ++ quote ∷ []) ≡ true
closes-quoted_bytes between [] e all = refl
closes-quoted_bytes between (b ∷ bytes) e all =
    let p = and_parts _ _ all in
    ap (closes between true) (append_assoc (quoted_byte b) (flat_map quoted_byte bytes) (quote ∷ []))
    ∙ quoted_step (b == quote) between b (flat_map quoted_byte bytes ++ quote ∷ []) e refl (apart is_printed b 10 p.0 refl)
    (closes-quoted_bytes between bytes e p.1)

closes-quoted : (between : ℕ) (bytes : List ℕ) → (quote == between) ≡ false → list_all is_printed bytes ≡ true →
    closes between false (quoted bytes) ≡ true
closes-quoted between bytes e all = rw e (closes-quoted_bytes between bytes e all)

-- a byte that is no quote goes on within quotes
inside_step : (between b : ℕ) (rest : List ℕ) → (b == quote) ≡ false → (b == 10) ≡ false → closes between true rest ≡ true →
    closes between true (b ∷ rest) ≡ true
inside_step between b rest e n h = rw (e, n) h

digit_apart : (t : Bool) (n k : ℕ) → nat_lt n 10 ≡ t → k < 48 → ((if t then 48 + n else 55 + n) == k) ≡ false
digit_apart true n k is h = ne_eqb _ _ (omega arith)
digit_apart false n k is h = ne_eqb _ _ (omega arith)

hex_step : (between n : ℕ) (rest : List ℕ) → closes between true rest ≡ true → closes between true (hex_digit n ∷ rest) ≡ true
hex_step between n rest h =
    inside_step between (hex_digit n) rest (digit_apart (nat_lt n 10) n quote refl (omega arith))
    (digit_apart (nat_lt n 10) n 10 refl (omega arith)) h

closes-hex : (between : ℕ) (bytes : List ℕ) → closes between true (hex bytes ++ quote ∷ []) ≡ true
closes-hex between [] = refl
closes-hex between (b ∷ bytes) =
    hex_step between (b / 16) (hex_digit (b % 16) ∷ (hex bytes ++ quote ∷ []))
    (hex_step between (b % 16) (hex bytes ++ quote ∷ []) (closes-hex between bytes))

closes-in_hex : (between letter : ℕ) (bytes : List ℕ) → (quote == between) ≡ false → (letter == between) ≡ false →
    (letter == quote) ≡ false → (letter == 10) ≡ false → closes between false (in_hex letter bytes) ≡ true
closes-in_hex between letter bytes e f g n = rw (f, g, n, e) (closes-hex between bytes)

text_closes : (t : Bool) (between : ℕ) (bytes : List ℕ) → list_all is_printed bytes ≡ t → (quote == between) ≡ false →
    (85 == between) ≡ false → closes between false (if t then quoted bytes else in_hex text_letter bytes) ≡ true
text_closes true between bytes is e f = closes-quoted between bytes e is
text_closes false between bytes is e f = closes-in_hex between 85 bytes e f refl refl

signed_closes : (between : ℕ) (z : ℤ) → is_digit between ≡ false → (45 == between) ≡ false → mag z < 2 ^ 63 →
    closes between false (signed_decimal z) ≡ true
signed_closes between (pos n) e f h = closes-decimal between n e (omega arith)
signed_closes between (negsuc n) e f h = rw f (closes-decimal between (suc n) e (omega arith))

-- what a byte between has to be to stand in no literal outside of quotes
pub record IsOutside (between : ℕ) : Type 0 where
  pub digit : is_digit between ≡ false
  pub name : is_name_byte between ≡ false
  pub quotes : (quote == between) ≡ false
  pub minus : (45 == between) ≡ false
  pub text : (85 == between) ≡ false
  pub raw : (88 == between) ≡ false
  pub null : closes between false (codes "NULL") ≡ true

pub closes-literal : (between : ℕ) (v : Value) → IsOutside between → IsValue v → closes between false (literal v) ≡ true
closes-literal between Null o ok = o.null
closes-literal between (Number z) o ok = signed_closes between z o.digit o.minus ok.sfits
closes-literal between (Text bytes) o ok = text_closes (list_all is_printed bytes) between bytes refl o.quotes o.text
closes-literal between (Raw bytes) o ok = closes-in_hex between 88 bytes o.quotes o.raw refl refl

-- ---- names

line30_raw : (bytes : List ℕ) → is_line30 bytes ≡ true → IsRaw bytes
line30_raw bytes form =
    let p = and_parts _ _ form in
    let most : length bytes ≤ 30 = leb-true _ _ p.1 in
    record { some = leb-true _ _ p.0; most = omega arith }

ends_false : (a b : Bool) → b ≡ false → (a && b) ≡ false
ends_false true b e = e
ends_false false b e = refl

-- a name in hexadecimal is no name, since it has quotes
hex_no_name : (bytes : List ℕ) → is_name (in_hex raw_letter bytes) ≡ false
hex_no_name bytes = ends_false _ false refl

word_chosen : (t : Bool) (bytes : List ℕ) → is_name bytes ≡ t → IsWord bytes →
    name_said (if t then bytes else literal (Raw bytes)) ≡ Ok bytes
unfolding name_said name_of_value
word_chosen true bytes is ok = rw is refl
word_chosen false bytes is ok =
    let raw = line30_raw bytes ok.0 in
    let read : value_of_literal (literal (Raw bytes)) ≡ Some (Raw bytes) =
    value-from_literal (Raw bytes) (literal (Raw bytes))
    (literal-raw bytes raw (All-from_recursion (λ b. b < 256) bytes ok.1)) in
    rw (hex_no_name bytes, read, ok.0) refl

-- a printed name is read
pub name_printed : (bytes : List ℕ) → IsWord bytes → name_said (name_word bytes) ≡ Ok bytes
name_printed bytes ok = word_chosen (is_name bytes) bytes refl ok

name_closes : (t : Bool) (between : ℕ) (bytes : List ℕ) → is_name bytes ≡ t → IsOutside between →
    closes between false (if t then bytes else literal (Raw bytes)) ≡ true
name_closes true between bytes is o =
    let p = and_parts _ _ is in closes-kind is_name_byte between bytes refl refl o.name p.1
name_closes false between bytes is o = closes-in_hex between 88 bytes o.quotes o.raw refl refl

pub closes-name : (between : ℕ) (bytes : List ℕ) → IsOutside between → closes between false (name_word bytes) ≡ true
closes-name between bytes o = name_closes (is_name bytes) between bytes refl o

-- What fields of a line say has a spelling.
use Rattle.std.proofs.Common.{◌≡◌, ℕ, ◌<◌, ◌≤◌, ◌^◌, Bool, true, false, List, Option, Some, None, Ok, refl, ap, subst, inl, inr, arith, All}
use Rattle.std.specs.Prelude.{◌&&◌, nat_le, if◌then◌else◌}
use Rattle.std.specs.Option.{option_and_then}
use Rattle.std.specs.Str.Parse.{digits_value}
use Rattle.std.proofs.lemmas.Bool.{and_parts, leb-true}
use Rattle.std.proofs.lemmas.List.Elements.{All-from_recursion, recursion_from_All}
use Rattle.rl_value.specs.declared.value.Value.{Value}
use Rattle.rl_value.specs.declared.value.Value.TheVariants.{Null, Number, Text, Raw}
use Rattle.rl_value.specs.declared.xid.Xid.{Xid}
use Rattle.rl_value.specs.Literal.{IsLiteralOf}
use Rattle.rl_value.specs.LiteralValue.{value_of_literal}
use Rattle.rl_value.specs.Outcome.{or_err}
use Rattle.rl_value.specs.Text.{is_name}
use Rattle.rl_text.proofs.Literals.{mag-from_is_number}
use Rattle.rl_text.proofs.LiteralLaws.{literal-from_value}
use Rattle.redo_vec.specs.Forms.{is_line30}
use Rattle.redo_vec.specs.Ranges.{AreBytes, IsValue, IsXid, IsWord}
use Rattle.line_fields.specs.declared.fault.LineFault.{LineFault}
use Rattle.line_fields.specs.declared.fault.LineFault.TheVariants as faults
use Rattle.script_words.specs.Numbers.{is_decimal, number_in}
use Rattle.script_words.specs.Parts.{before, behind, all_three, xid_named, xid_of_parts, xid_of}
use Rattle.line_fields.specs.Fields.{number_said, xid_said, name_of_value, name_said, value_said}
use Rattle.line_fields.proofs.Forms.{name_fits}
use Rattle.redo_lines.proofs.SaidSteps.{so_ok, chosen, ok_is}

-- what was read
from_or : {A : Type 0} (o : Option A) (fault : LineFault) (x : A) → or_err o fault ≡ Ok x → o ≡ Some x
from_or None fault x e = absurd cc
from_or (Some y) fault x e = ap Some (ok_is y x e)

-- ---- numbers

read_value : (t : Bool) (v n : ℕ) → (if t then Some v else None) ≡ Some n → (t ≡ true) × (v ≡ n)
read_value true v n e = (refl, cc)
read_value false v n e = absurd cc

number_in_sound : (most n : ℕ) (word : List ℕ) → number_in 0 most word ≡ Some n → n ≤ most
unfolding number_in
number_in_sound most n word e =
    let v = digits_value 10 word in
    let s = read_value (is_decimal word && (nat_le 0 v && nat_le v most)) v n e in
    let limits = and_parts (is_decimal word) (nat_le 0 v && nat_le v most) s.0 in
    let within : v ≤ most = leb-true v most (and_parts (nat_le 0 v) (nat_le v most) limits.1).1 in
    subst (λ (k : ℕ). k ≤ most) s.1 within

pub number_sound : (most n : ℕ) (word : List ℕ) → number_said most word ≡ Ok n → n ≤ most
unfolding number_said
number_sound most n word e = number_in_sound most n word (from_or (number_in 0 most word) faults.Number n e)

-- ---- transaction ids

abbrev held : Xid → Option Xid
held x = Some x

some_is : (x y : Xid) → held x ≡ held y → x ≡ y
some_is x y e = cc

three_sound : (u s q : Option ℕ) (x : Xid) → all_three xid_named u s q ≡ Some x → ((n : ℕ) → u ≡ Some n → n ≤ 65535) →
    ((n : ℕ) → s ≡ Some n → n ≤ 65535) → ((n : ℕ) → q ≡ Some n → n ≤ 4294967295) → IsXid x
three_sound None s q x e first second third = absurd cc
three_sound (Some a) None q x e first second third = absurd cc
three_sound (Some a) (Some b) None x e first second third = absurd cc
three_sound (Some a) (Some b) (Some c) x e first second third =
    let usn : a ≤ 65535 = first a refl in
    let slot : b ≤ 65535 = second b refl in
    let sqn : c ≤ 4294967295 = third c refl in
    subst IsXid (some_is (record { usn = a; slot = b; sqn = c }) x e)
    (record { usn = omega arith; slot = omega arith; sqn = omega arith })

xid_parts_sound : (usn slot : List ℕ) (sqn : Option (List ℕ)) (x : Xid) → xid_of_parts usn slot sqn ≡ Some x → IsXid x
unfolding xid_of_parts
xid_parts_sound usn slot None x e = absurd cc
xid_parts_sound usn slot (Some sqn) x e =
    three_sound (number_in 0 65535 usn) (number_in 0 65535 slot) (number_in 0 4294967295 sqn) x e
    (λ n is. number_in_sound 65535 n usn is) (λ n is. number_in_sound 65535 n slot is)
    (λ n is. number_in_sound 4294967295 n sqn is)

behind_sound : (o : Option (List ℕ)) (f : List ℕ → Option Xid) (x : Xid) → ((r : List ℕ) → f r ≡ Some x → IsXid x) →
    option_and_then f o ≡ Some x → IsXid x
behind_sound None f x each e = absurd cc
behind_sound (Some r) f x each e = each r e

xid_in_sound : (word : List ℕ) (x : Xid) → xid_of word ≡ Some x → IsXid x
unfolding xid_of
xid_in_sound word x e =
    behind_sound (behind 46 word) (λ (r : List ℕ). xid_of_parts (before 46 word) (before 46 r) (behind 46 r)) x
    (λ r is. xid_parts_sound (before 46 word) (before 46 r) (behind 46 r) x is) e

pub xid_sound : (word : List ℕ) (x : Xid) → xid_said word ≡ Ok x → IsXid x
unfolding xid_said
xid_sound word x e = xid_in_sound word x (from_or (xid_of word) faults.Number x e)

-- ---- values

by_recursion : (bytes : List ℕ) → All (λ b. b < 2 ^ 8) bytes → AreBytes bytes
by_recursion bytes all = recursion_from_All (λ b. b < 256) bytes all

literal_value : (v : Value) (bytes : List ℕ) → IsLiteralOf v bytes → IsValue v
literal_value Null bytes l = tt
literal_value (Number z) bytes l = record { sfits = mag-from_is_number z l.0 }
literal_value (Text text) bytes l = (l.0, by_recursion text l.1)
literal_value (Raw raw) bytes l = (l.0, by_recursion raw l.1)

pub value_sound : (part : List ℕ) (v : Value) → AreBytes part → value_said part ≡ Ok v → IsValue v
value_sound part v bytes e =
    literal_value v part (literal-from_value part (All-from_recursion (λ b. b < 256) part bytes) v
    (from_or (value_of_literal part) faults.Literal v e))

-- ---- names

raw_name : (o : Option Value) (name : List ℕ) → name_of_value o ≡ Ok name → (o ≡ Some (Raw name)) × (is_line30 name ≡ true)
unfolding name_of_value
raw_name None name e = absurd cc
raw_name (Some Null) name e = absurd cc
raw_name (Some (Number z)) name e = absurd cc
raw_name (Some (Text bytes)) name e = absurd cc
raw_name (Some (Raw bytes)) name e =
    let s = so_ok (is_line30 bytes) faults.Name bytes name e in
    let same : bytes ≡ name = ok_is bytes name s.1 in
    (ap (λ (b : List ℕ). Some (Raw b)) same, subst (λ (b : List ℕ). is_line30 b ≡ true) same s.0)

pub name_sound : (part name : List ℕ) → AreBytes part → name_said part ≡ Ok name → IsWord name
unfolding name_said
name_sound part name bytes e =
    elim (chosen (is_name part) (Ok part) _ (Ok name) e) [
      | inl s ↦ subst IsWord (ok_is part name s.1) (name_fits part s.0, bytes)
      | inr s ↦
          let r = raw_name (value_of_literal part) name s.1 in
          let l = literal-from_value part (All-from_recursion (λ b. b < 256) part bytes) (Raw name) r.0 in
          (r.1, by_recursion name l.1)
    ]

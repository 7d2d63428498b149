-- Values that bytes spell one behind the other, as a loop reads them: what was read is the front of what all of them give.
use Rattle.std.proofs.Common.{◌≡◌, ℕ, zero, suc, ◌+◌, ◌-◌, ◌≤◌, ◌<◌, List, [], ◌∷◌, ◌++◌, length, Bool, true, false, refl, sym, ap, ◌∙◌, Option, Some, None, Ok, Err, arith, append_assoc}
use Rattle.std.specs.Prelude.{◌&&◌, ◌==◌, nat_le}
use Rattle.std.specs.Option.{option_map, option_and_then}
use Rattle.std.proofs.lemmas.Bool.Decides.{nat_tests}
use Rattle.std.proofs.lemmas.List.{append-nil, length-append}
use Rattle.rl_value.specs.declared.value.Value.{Value}
use Rattle.rl_value.specs.declared.value.Value.TheVariants.{Null, Number, Text, Raw}
use Rattle.redo_vec.specs.Reading.{Read, Fault, value_at}
use Rattle.redo_vec.specs.Spelling.{value}
use Rattle.redo_vec.proofs.ChangeLaws.{value_sound}
use Rattle.redo_vec.proofs.Takes.{IsBytes}
use Rattle.standby_spec.specs.Loading.{when_true, after_value, values_within, values_in}
use Rattle.kept_layout.specs.Pairs.{if_read, value_in_front, as_row}

-- what was read, and what the bytes behind it give within so many values
abbrev pub read_on : List Value → ℕ → List ℕ → Option (List Value)
read_on front n bytes = option_map (λ vs. front ++ vs) (values_within n bytes)

moved : (front : List Value) (v : Value) (o : Option (List Value)) →
    option_map (λ vs. front ++ vs) (option_map (λ vs. v ∷ vs) o) ≡ option_map (λ vs. (front ++ v ∷ []) ++ vs) o
moved front v None = refl
moved front v (Some vs) = ap (λ xs. Some xs) (sym (append_assoc front (v ∷ []) vs))

pub goes_on : (front : List Value) (size i b : ℕ) (bytes left : List ℕ) (v : Value) (total : Option (List Value)) → i < size →
    value_at 0 (b ∷ bytes) ≡ Ok (v, left) → read_on front (size - i) (b ∷ bytes) ≡ total →
    read_on (front ++ v ∷ []) (size - (i + 1)) left ≡ total
goes_on front size i b bytes left v total lt read so_far =
    let n = size - (i + 1) in
    let k : size - i ≡ suc n = omega arith in
    sym (moved front v (values_within n left))
    ∙ sym (ap (λ r. option_map (λ vs. front ++ vs) (after_value r (values_within n))) read)
    ∙ sym (ap (λ m. option_map (λ vs. front ++ vs) (values_within m (b ∷ bytes))) k)
    ∙ so_far

same_again : (o : Option (List Value)) → option_map (λ vs. [] ++ vs) o ≡ o
same_again None = refl
same_again (Some vs) = refl

-- before the first value
pub begun : (bytes : List ℕ) → read_on [] (length bytes - 0) bytes ≡ values_in bytes
begun bytes =
    let all : length bytes - 0 ≡ length bytes = omega arith in
    ap (λ n. read_on [] n bytes) all ∙ same_again (values_within (length bytes) bytes)

refused_after : (r : Read Value) (f : Fault) (rest : List ℕ → Option (List Value)) → r ≡ Err f → after_value r rest ≡ None
refused_after r f rest e = ap (λ x. after_value x rest) e

pub refused : (front : List Value) (n b : ℕ) (bytes : List ℕ) (f : Fault) (total : Option (List Value)) →
    value_at 0 (b ∷ bytes) ≡ Err f → read_on front n (b ∷ bytes) ≡ total → None ≡ total
refused front zero b bytes f total e so_far = so_far
refused front (suc n) b bytes f total e so_far =
    sym (ap (option_map (λ vs. front ++ vs)) (refused_after (value_at 0 (b ∷ bytes)) f (values_within n) e)) ∙ so_far

pub done : (front : List Value) (n : ℕ) (total : Option (List Value)) → read_on front n [] ≡ total → Some front ≡ total
done front n total so_far = ap (λ xs. Some xs) (sym (append-nil front)) ∙ so_far

-- more values than a row has
none_of : (t : Bool) (xs : List Value) → when_true (t && false) xs ≡ None
none_of true xs = refl
none_of false xs = refl

too_long : (vs : List Value) → 32 < length vs → as_row vs ≡ None
too_long vs lt =
    let many : nat_le (length vs) 32 ≡ false = grind (arith, nat_tests) in
    ap (λ t. when_true (nat_le 1 (length vs) && t) vs) many ∙ none_of (nat_le 1 (length vs)) vs

many_more : (front : List Value) (v : Value) (o : Option (List Value)) → length front ≡ 32 →
    option_and_then as_row (option_map (λ vs. front ++ vs) (option_map (λ vs. v ∷ vs) o)) ≡ None
many_more front v None full = refl
many_more front v (Some vs) full = too_long (front ++ v ∷ vs) (omega (arith, full, length-append front (v ∷ vs)))

many_after : (front : List Value) (r : Read Value) (rest : List ℕ → Option (List Value)) → length front ≡ 32 →
    option_and_then as_row (option_map (λ vs. front ++ vs) (after_value r rest)) ≡ None
many_after front (Ok x) rest full = many_more front x.0 (rest x.1) full
many_after front (Err f) rest full = refl

pub too_many : (front : List Value) (n b : ℕ) (bytes : List ℕ) (total : Option (List Value)) → length front ≡ 32 →
    read_on front n (b ∷ bytes) ≡ total → None ≡ option_and_then as_row total
too_many front zero b bytes total full so_far = ap (option_and_then as_row) so_far
too_many front (suc n) b bytes total full so_far =
    sym (many_after front (value_at 0 (b ∷ bytes)) (values_within n) full) ∙ ap (option_and_then as_row) so_far

-- a value takes a byte at least
value_long : (v : Value) → 1 ≤ length (value v)
value_long Null = omega arith
value_long (Number z) = omega arith
value_long (Text t) = omega arith
value_long (Raw t) = omega arith

pub shorter : (bytes left : List ℕ) (v : Value) → IsBytes bytes → value_at 0 bytes ≡ Ok (v, left) → length left + 1 ≤ length bytes
shorter bytes left v fits e =
    let parts = (value_sound 0 bytes (v, left) fits e).0.parts in
    omega (arith, ap length parts, length-append (value v) left, value_long v)

-- ---- the same, of bytes that are told to be some, or none

was_read : {A : Type 0} (r : Read A) (x : A × List ℕ) → if_read r ≡ Some x → r ≡ Ok x
was_read (Ok y) x e = let same : y ≡ x = cc in ap (λ z. Ok z) same
was_read (Err f) x e = absurd (cc)

not_read : {A : Type 0} (r : Read A) → if_read r ≡ None → (f : Fault) × (r ≡ Err f)
not_read (Ok y) e = absurd (cc)
not_read (Err f) e = (f, refl)

pub no_length : (bytes : List ℕ) (b : Bool) → b ≡ (length bytes == 0) → b ≡ true → length bytes ≡ 0
no_length bytes b e right = let none : (length bytes == 0) ≡ true = sym e ∙ right in grind (arith, nat_tests, none)

pub some_length : (bytes : List ℕ) (b : Bool) → b ≡ (length bytes == 0) → b ≡ false → 0 < length bytes
some_length [] b e wrong = absurd (cc)
some_length (x ∷ bytes) b e wrong = omega arith

pub front_read : (bytes left : List ℕ) (v : Value) → Some (v, left) ≡ value_in_front bytes → value_at 0 bytes ≡ Ok (v, left)
front_read bytes left v e = was_read (value_at 0 bytes) (v, left) (sym e)

pub goes_further : (front : List Value) (size i : ℕ) (bytes left : List ℕ) (v : Value) (total : Option (List Value)) → i < size →
    0 < length bytes → value_at 0 bytes ≡ Ok (v, left) → read_on front (size - i) bytes ≡ total →
    read_on (front ++ v ∷ []) (size - (i + 1)) left ≡ total
goes_further front size i [] left v total lt some read so_far = absurd (omega (arith, some))
goes_further front size i (b ∷ bytes) left v total lt some read so_far = goes_on front size i b bytes left v total lt read so_far

pub stops : (front : List Value) (n : ℕ) (bytes : List ℕ) (total : Option (List Value)) → 0 < length bytes →
    None ≡ value_in_front bytes → read_on front n bytes ≡ total → None ≡ total
stops front n [] total some e so_far = absurd (omega (arith, some))
stops front n (b ∷ bytes) total some e so_far =
    let fault = not_read (value_at 0 (b ∷ bytes)) (sym e) in
    refused front n b bytes fault.0 total fault.1 so_far

pub all_read : (front : List Value) (n : ℕ) (bytes : List ℕ) (total : Option (List Value)) → length bytes ≡ 0 →
    read_on front n bytes ≡ total → Some front ≡ total
all_read front n [] total none so_far = done front n total so_far
all_read front n (b ∷ bytes) total none so_far = absurd (omega (arith, none))

pub more_left : (front : List Value) (n : ℕ) (bytes : List ℕ) (total : Option (List Value)) → length front ≡ 32 →
    0 < length bytes →
    read_on front n bytes ≡ total → None ≡ option_and_then as_row total
more_left front n [] total full some so_far = absurd (omega (arith, some))
more_left front n (b ∷ bytes) total full some so_far = too_many front n b bytes total full so_far

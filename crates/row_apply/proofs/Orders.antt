-- Values, rows and keys that the orders do not tell apart are the same.
use Rattle.std.proofs.Common.{◌≡◌, ℕ, List, [], ◌∷◌, refl, sym, ap, subst, ◌∙◌, true, ◌&&◌, ◌==◌, arith}
use Rattle.std.specs.declared.cmp.Ordering.{Ordering}
use Rattle.std.specs.declared.cmp.Ordering.TheVariants.{Less, Equal, Greater}
use Rattle.std.specs.Ordering.{ordering_then, is_eq, nat_cmp, int_cmp, eq_by_cmp}
use Rattle.std.specs.Cmp.{ranked, int_ranked, tied_itself, eq_by_cmp_equiv, unsigned_tied}
use Rattle.std.specs.Cmp.Lexicographic.{slice_cmp}
use Rattle.std.proofs.lemmas.Bool.Decides.{nat_tests}
use Rattle.rl_value.specs.declared.value.Value.{Value}
use Rattle.rl_value.specs.declared.value.Value.TheVariants.{Null, Number, Text, Raw}
use Rattle.rl_value.specs.declared.key.Key.{Key}
use Rattle.rl_value.specs.Order.{value_cmp, value_eq, row_cmp, key_cmp, value_total, row_total, key_total}
use Rattle.row_apply.specs.Kept.{row_key}

both_equal : (r s : Ordering) → ordering_then r s ≡ Equal → (r ≡ Equal) × (s ≡ Equal)
both_equal Less s e = absurd (cc)
both_equal Equal s e = (refl, e)
both_equal Greater s e = absurd (cc)

pub equal : (r : Ordering) → is_eq r ≡ true → r ≡ Equal
equal Less e = absurd (cc)
equal Equal e = refl
equal Greater e = absurd (cc)

lists_same : {A : Type 0} (R : A → A → Ordering) → ((x y : A) → R x y ≡ Equal → x ≡ y) → (xs ys : List A) →
    slice_cmp R xs ys ≡ Equal → xs ≡ ys
lists_same R same [] [] e = refl
lists_same R same [] (y ∷ ys) e = absurd (cc)
lists_same R same (x ∷ xs) [] e = absurd (cc)
lists_same R same (x ∷ xs) (y ∷ ys) e =
    let p = both_equal (R x y) (slice_cmp R xs ys) e in
    let a = same x y p.0 in
    let b = lists_same R same xs ys p.1 in
    λ i. a i ∷ b i

numbers_same : (x y : ℕ) → nat_cmp x y ≡ Equal → x ≡ y
numbers_same x y e = ranked x y Equal (sym e)

value_same : (x y : Value) → value_cmp x y ≡ Equal → x ≡ y
value_same Null Null e = refl
value_same Null (Number z) e = absurd (cc)
value_same Null (Text b) e = absurd (cc)
value_same Null (Raw b) e = absurd (cc)
value_same (Number z) Null e = absurd (cc)
value_same (Number z) (Number w) e = ap Number (int_ranked z w Equal (sym (both_equal (int_cmp z w) Equal e).0))
value_same (Number z) (Text b) e = absurd (cc)
value_same (Number z) (Raw b) e = absurd (cc)
value_same (Text b) Null e = absurd (cc)
value_same (Text b) (Number z) e = absurd (cc)
value_same (Text b) (Text c) e = ap Text (lists_same nat_cmp numbers_same b c e)
value_same (Text b) (Raw c) e = absurd (cc)
value_same (Raw b) Null e = absurd (cc)
value_same (Raw b) (Number z) e = absurd (cc)
value_same (Raw b) (Text c) e = absurd (cc)
value_same (Raw b) (Raw c) e = ap Raw (lists_same nat_cmp numbers_same b c e)

pub row_same : (x y : List Value) → row_cmp x y ≡ Equal → x ≡ y
row_same = lists_same value_cmp value_same

pub row_is : (x y : List Value) → eq_by_cmp row_cmp x y ≡ true → x ≡ y
row_is x y e = row_same x y (equal (row_cmp x y) e)

pub value_is : (x y : Value) → eq_by_cmp value_cmp x y ≡ true → x ≡ y
value_is x y e = value_same x y (equal (value_cmp x y) e)

pub key_same : (x y : Key) → key_cmp x y ≡ Equal → x ≡ y
key_same x y e =
    let p = both_equal (nat_cmp x.table y.table) (ordering_then (nat_cmp x.index y.index) (row_cmp x.values y.values)) e in
    let q = both_equal (nat_cmp x.index y.index) (row_cmp x.values y.values) p.1 in
    let a = numbers_same x.table y.table p.0 in
    let b = numbers_same x.index y.index q.0 in
    let c = row_same x.values y.values q.1 in
    λ i. record { table = a i; index = b i; values = c i }

pub key_is : (x y : Key) → is_eq (key_cmp x y) ≡ true → x ≡ y
key_is x y e = key_same x y (equal (key_cmp x y) e)

-- each ties with itself
pub row_self : (x : List Value) → eq_by_cmp row_cmp x x ≡ true
row_self x = ap is_eq (tied_itself row_total x)

pub value_self : (x : Value) → value_eq x x ≡ true
value_self x = ap is_eq (tied_itself value_total x)

pub key_self : (x : Key) → is_eq (key_cmp x x) ≡ true
key_self x = ap is_eq (tied_itself key_total x)

pub row_turned : (x y : List Value) → eq_by_cmp row_cmp x y ≡ eq_by_cmp row_cmp y x
row_turned x y = (eq_by_cmp_equiv row_total).symm x y

pub key_turned : (x y : Key) → is_eq (key_cmp x y) ≡ is_eq (key_cmp y x)
key_turned x y = (eq_by_cmp_equiv key_total).symm x y

-- primary keys tie where their tables and their values do
then_eq : (r s : Ordering) → is_eq (ordering_then r s) ≡ (is_eq r && is_eq s)
then_eq Less s = refl
then_eq Equal s = refl
then_eq Greater s = refl

pub row_keys_tie : (id : ℕ) (values : List Value) (k : Key) → k.index ≡ 0 →
    is_eq (key_cmp (row_key id values) k) ≡ ((k.table == id) && eq_by_cmp row_cmp values k.values)
row_keys_tie id values k zero =
    let t : is_eq (nat_cmp id k.table) ≡ (k.table == id) = unsigned_tied id k.table ∙ grind (arith, nat_tests) in
    let i : nat_cmp 0 k.index ≡ Equal = subst (λ (n : ℕ). nat_cmp 0 n ≡ Equal) (sym zero) refl in
    then_eq (nat_cmp id k.table) (ordering_then (nat_cmp 0 k.index) (row_cmp values k.values))
    ∙ ap (λ b. b && is_eq (ordering_then (nat_cmp 0 k.index) (row_cmp values k.values))) t
    ∙ ap (λ o. (k.table == id) && is_eq (ordering_then o (row_cmp values k.values))) i

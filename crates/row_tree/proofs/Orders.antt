-- Values, rows and keys that the orders do not tell apart are the same.
use Rattle.std.proofs.Common.{◌≡◌, ℕ, List, [], ◌∷◌, refl, sym, ap, ◌∙◌, true}
use Rattle.std.specs.declared.cmp.Ordering.{Ordering}
use Rattle.std.specs.declared.cmp.Ordering.TheVariants.{Less, Equal, Greater}
use Rattle.std.specs.Ordering.{ordering_then, is_eq, nat_cmp, int_cmp}
use Rattle.std.specs.Cmp.{ranked, int_ranked}
use Rattle.std.specs.Cmp.Lexicographic.{slice_cmp}
use Rattle.std.specs.FinMap.Entries as entries
use Rattle.std.specs.FinMap.Entries.{by_order}
use Rattle.rl_value.specs.declared.value.Value.{Value}
use Rattle.rl_value.specs.declared.value.Value.TheVariants.{Null, Number, Text, Raw}
use Rattle.rl_value.specs.Order.{value_cmp, row_cmp}

both_equal : (r s : Ordering) → ordering_then r s ≡ Equal → (r ≡ Equal) × (s ≡ Equal)
both_equal Less s e = absurd (cc)
both_equal Equal s e = (refl, e)
both_equal Greater s e = absurd (cc)

pub equal : (r : Ordering) → is_eq r ≡ true → r ≡ Equal
equal Less e = absurd (cc)
equal Equal e = refl
equal Greater e = absurd (cc)

lists_same : {A : Type 0} (R : A → A → Ordering) → ((x y : A) → R x y ≡ Equal → x ≡ y) → (xs ys : List A) → slice_cmp R xs ys ≡
    Equal → xs ≡ ys
lists_same R same [] [] e = refl
lists_same R same [] (y ∷ ys) e = absurd (cc)
lists_same R same (x ∷ xs) [] e = absurd (cc)
lists_same R same (x ∷ xs) (y ∷ ys) e =
    let p = both_equal (R x y) (slice_cmp R xs ys) e in
    let a = same x y p.0 in
    let b = lists_same R same xs ys p.1 in
    λ i. a i ∷ b i

numbers_same : (x y : ℕ) → nat_cmp x y ≡ Equal → x ≡ y
numbers_same x y e = ranked x y Equal (sym e)

value_same : (x y : Value) → value_cmp x y ≡ Equal → x ≡ y
value_same Null Null e = refl
value_same Null (Number z) e = absurd (cc)
value_same Null (Text b) e = absurd (cc)
value_same Null (Raw b) e = absurd (cc)
value_same (Number z) Null e = absurd (cc)
value_same (Number z) (Number w) e = ap Number (int_ranked z w Equal (sym (both_equal (int_cmp z w) Equal e).0))
value_same (Number z) (Text b) e = absurd (cc)
value_same (Number z) (Raw b) e = absurd (cc)
value_same (Text b) Null e = absurd (cc)
value_same (Text b) (Number z) e = absurd (cc)
value_same (Text b) (Text c) e = ap Text (lists_same nat_cmp numbers_same b c e)
value_same (Text b) (Raw c) e = absurd (cc)
value_same (Raw b) Null e = absurd (cc)
value_same (Raw b) (Number z) e = absurd (cc)
value_same (Raw b) (Text c) e = absurd (cc)
value_same (Raw b) (Raw c) e = ap Raw (lists_same nat_cmp numbers_same b c e)

pub row_same : (x y : List Value) → row_cmp x y ≡ Equal → x ≡ y
row_same = lists_same value_cmp value_same

pub put_same : (k s v w : List Value) → row_cmp k s ≡ Equal → ((k, v) ∷ []) ≡ entries.put row_cmp k v ((s, w) ∷ [])
put_same k s v w e = ap (λ x. (x, v) ∷ []) (row_same k s e) ∙
    sym (ap (λ r. by_order r ((k, v) ∷ (s, w) ∷ []) ((s, v) ∷ []) ((s, w) ∷ (k, v) ∷ [])) e)

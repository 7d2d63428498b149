-- The order of keys tells all keys apart.
use Rattle.std.proofs.Common.{◌≡◌, List, [], ◌∷◌, refl, ap, ◌∙◌, true, Ordering, Less, Equal, Greater, pos}
use Rattle.std.specs.Ordering.{nat_cmp, int_cmp, ordering_then, eq_by_cmp, is_eq}
use Rattle.std.proofs.lemmas.Map.Lookups.{exact_unsigned, exact_signed, exact_bytes}
use Rattle.std.proofs.lemmas.Cmp.{tied_itself}
use Rattle.rl_value.specs.declared.key.Key.{Key}
use Rattle.rl_value.specs.declared.value.Value.{Value}
use Rattle.rl_value.specs.declared.value.Value.TheVariants.{Null, Number, Text, Raw}
use Rattle.rl_value.specs.Order.{value_cmp, row_cmp, key_cmp, key_total}

both_equal : (a b : Ordering) → ordering_then a b ≡ Equal → (a ≡ Equal) × (b ≡ Equal)
both_equal Less b e = absurd (cc)
both_equal Equal b e = (refl, e)
both_equal Greater b e = absurd (cc)

value_exact : (v w : Value) → value_cmp v w ≡ Equal → v ≡ w
value_exact Null Null e = refl
value_exact Null (Number z) e = absurd (cc)
value_exact Null (Text b) e = absurd (cc)
value_exact Null (Raw b) e = absurd (cc)
value_exact (Number y) Null e = absurd (cc)
value_exact (Number y) (Number z) e = ap (λ n. Number n) (exact_signed y z (both_equal (int_cmp y z) _ e).0)
value_exact (Number y) (Text b) e = absurd (cc)
value_exact (Number y) (Raw b) e = absurd (cc)
value_exact (Text a) Null e = absurd (cc)
value_exact (Text a) (Number z) e = absurd (cc)
value_exact (Text a) (Text b) e = ap (λ bytes. Text bytes) (exact_bytes a b (both_equal (int_cmp (pos 0) (pos 0)) _ e).1)
value_exact (Text a) (Raw b) e = absurd (cc)
value_exact (Raw a) Null e = absurd (cc)
value_exact (Raw a) (Number z) e = absurd (cc)
value_exact (Raw a) (Text b) e = absurd (cc)
value_exact (Raw a) (Raw b) e = ap (λ bytes. Raw bytes) (exact_bytes a b (both_equal (int_cmp (pos 0) (pos 0)) _ e).1)

row_exact : (r s : List Value) → row_cmp r s ≡ Equal → r ≡ s
row_exact [] [] e = refl
row_exact [] (w ∷ s) e = absurd (cc)
row_exact (v ∷ r) [] e = absurd (cc)
row_exact (v ∷ r) (w ∷ s) e =
    let parts = both_equal (value_cmp v w) (row_cmp r s) e in
    ap (λ x. x ∷ r) (value_exact v w parts.0) ∙ ap (λ t. w ∷ t) (row_exact r s parts.1)

pub key_exact : (k l : Key) → key_cmp k l ≡ Equal → k ≡ l
key_exact k l e =
    let first = both_equal (nat_cmp k.table l.table) _ e in
    let second = both_equal (nat_cmp k.index l.index) (row_cmp k.values l.values) first.1 in
    let a = exact_unsigned k.table l.table first.0 in
    let b = exact_unsigned k.index l.index second.0 in
    let c = row_exact k.values l.values second.1 in
    λ i. record { table = a i; index = b i; values = c i }

equal_is : (o : Ordering) → is_eq o ≡ true → o ≡ Equal
equal_is Less e = absurd (cc)
equal_is Equal e = refl
equal_is Greater e = absurd (cc)

pub key_is : (k l : Key) → eq_by_cmp key_cmp k l ≡ true → k ≡ l
key_is k l e = key_exact k l (equal_is (key_cmp k l) e)

pub key_itself : (k : Key) → eq_by_cmp key_cmp k k ≡ true
key_itself k = ap is_eq (tied_itself key_total k)

-- Laws of batches: what stands under a place of the store after items, and that stores with the same there are the same.
use Rattle.std.proofs.Common.{◌≡◌, ℕ, List, [], ◌∷◌, ◌++◌, Bool, true, false, cond, not, refl, sym, ap, ◌∙◌, subst, Option, Some, None, map, arith}
use Rattle.std.specs.Prelude.{◌&&◌, ◌==◌, nat_eq}
use Rattle.std.proofs.Math.Dec.{T}
use Rattle.std.specs.List.{flat_map}
use Rattle.std.specs.declared.cmp.Ordering.{Ordering}
use Rattle.std.specs.declared.cmp.Ordering.TheVariants.{Less, Equal, Greater}
use Rattle.std.specs.Ordering.{is_eq, nat_cmp, ordering_then, eq_by_cmp}
use Rattle.std.specs.Cmp.{IsTotalOrder, then_total, on_total, nat_cmp_total, unsigned_ties}
use Rattle.std.specs.Cmp.Lexicographic.{slice_cmp, pointwise, nat_list_cmp_total, texts_ties}
use Rattle.std.specs.FinMap.Entries as entries
use Rattle.std.proofs.lemmas.Bool.Decides.{nat_tests}
use Rattle.rl_ports.specs.declared.batch.Item.{Item}
use Rattle.rl_ports.specs.declared.batch.Item.TheVariants.{Put, Drop}
use Rattle.rl_ports.specs.Store.{Store, place_cmp, same_place, after_item, after_batch}
use Rattle.standby_spec.specs.KeptState.{KeptState}
use Rattle.standby_spec.specs.Layout.{items_of, pairs_of}

-- ---- tests

pub and-left : (a b : Bool) → (a && b) ≡ true → a ≡ true
and-left true b e = refl
and-left false b e = absurd (cc)

pub and-right : (a b : Bool) → (a && b) ≡ true → b ≡ true
and-right true b e = e
and-right false b e = absurd (cc)

pub same_nat : (a b : ℕ) → (a == b) ≡ true → a ≡ b
same_nat a b e = grind (arith, nat_tests)

pub from_T : (b : Bool) → T b → b ≡ true
from_T true t = refl
from_T false t = absurd t

pub to_T : (b : Bool) → b ≡ true → T b
to_T b e = subst T (sym e) tt

pub both-true : (a b : Bool) → a ≡ true → b ≡ true → (a && b) ≡ true
both-true true b p q = q
both-true false b p q = p

pub first-of : (a b : Bool) → T (a && b) → T a
first-of a b h = to_T a (and-left a b (from_T (a && b) h))

pub second-of : (a b : Bool) → T (a && b) → T b
second-of a b h = to_T b (and-right a b (from_T (a && b) h))

-- ---- places

pub place_total : IsTotalOrder place_cmp
place_total = then_total (on_total (λ (p : ℕ × List ℕ). p.0) nat_cmp_total)
    (on_total (λ (p : ℕ × List ℕ). p.1) nat_list_cmp_total)

both_ties : (a b : Bool) (r s : Ordering) → a ≡ is_eq r → b ≡ is_eq s → (a && b) ≡ is_eq (ordering_then r s)
both_ties a b Less s p q = rw p refl
both_ties a b Equal s p q = rw p q
both_ties a b Greater s p q = rw p refl

pub place_ties : (p q : ℕ × List ℕ) → same_place p q ≡ eq_by_cmp place_cmp p q
place_ties p q = both_ties (p.0 == q.0) (pointwise nat_eq p.1 q.1) (nat_cmp p.0 q.0) (slice_cmp nat_cmp p.1 q.1)
    (unsigned_ties p.0 q.0) (texts_ties p.1 q.1)

pub bytes_is : (xs ys : List ℕ) → pointwise nat_eq xs ys ≡ true → xs ≡ ys
bytes_is [] [] e = refl
bytes_is [] (y ∷ ys) e = cc
bytes_is (x ∷ xs) [] e = cc
bytes_is (x ∷ xs) (y ∷ ys) e =
    let head : x ≡ y = same_nat x y (and-left (x == y) (pointwise nat_eq xs ys) e) in
    let tail : xs ≡ ys = bytes_is xs ys (and-right (x == y) (pointwise nat_eq xs ys) e) in
    cc

pub place_is : (p q : ℕ × List ℕ) → same_place p q ≡ true → p ≡ q
place_is p q e =
    let area : p.0 ≡ q.0 = same_nat p.0 q.0 (and-left (p.0 == q.0) (pointwise nat_eq p.1 q.1) e) in
    let key : p.1 ≡ q.1 = bytes_is p.1 q.1 (and-right (p.0 == q.0) (pointwise nat_eq p.1 q.1) e) in
    λ i. (area i, key i)

pub tied : (p q : ℕ × List ℕ) → place_cmp p q ≡ Equal → p ≡ q
tied p q e = place_is p q (place_ties p q ∙ ap is_eq e)

-- ---- what stands under a place

-- the value under a place after an item, where this stood there
abbrev pub value_after : ℕ × List ℕ → Item → Option (List ℕ) → Option (List ℕ)
value_after q (Put area key value) old = cond (same_place q (area, key)) (Some value) old
value_after q (Drop area key) old = cond (same_place q (area, key)) None old

abbrev pub value_after_all : ℕ × List ℕ → List Item → Option (List ℕ) → Option (List ℕ)
value_after_all q [] old = old
value_after_all q (i ∷ is) old = value_after_all q is (value_after q i old)

turned : (b : Bool) (x : Option (List ℕ)) → cond (not b) x None ≡ cond b None x
turned true x = refl
turned false x = refl

found-after : (q : ℕ × List ℕ) (i : Item) (s : Store) →
    entries.find place_cmp q (after_item i s) ≡ value_after q i (entries.find place_cmp q s)
found-after q (Put area key value) s =
    entries.find-put place_cmp place_total q (area, key) value s
    ∙ ap (λ b. cond b (Some value) (entries.find place_cmp q s)) (sym (place_ties q (area, key)))
found-after q (Drop area key) s =
    entries.find-where_key place_cmp (λ p. not (same_place p (area, key))) q
    (λ x e. ap (λ p. not (same_place p (area, key))) (sym (tied q x e))) s
    ∙ turned (same_place q (area, key)) (entries.find place_cmp q s)

pub found-after-all : (q : ℕ × List ℕ) (is : List Item) (s : Store) →
    entries.find place_cmp q (after_batch is s) ≡ value_after_all q is (entries.find place_cmp q s)
found-after-all q [] s = refl
found-after-all q (i ∷ is) s = found-after-all q is (after_item i s) ∙ ap (value_after_all q is) (found-after q i s)

sorted-after : (i : Item) (s : Store) → T (entries.is_sorted place_cmp s) → T (entries.is_sorted place_cmp (after_item i s))
sorted-after (Put area key value) s h = entries.is_sorted-put place_cmp place_total (area, key) value s h
sorted-after (Drop area key) s h = entries.is_sorted-where_key place_cmp (λ p. not (same_place p (area, key))) s h

pub sorted-after-all : (is : List Item) (s : Store) → T (entries.is_sorted place_cmp s) →
    T (entries.is_sorted place_cmp (after_batch is s))
sorted-after-all [] s h = h
sorted-after-all (i ∷ is) s h = sorted-after-all is (after_item i s) (sorted-after i s h)

-- stores in order that have the same under each place are the same
pub same_store : (s t : Store) → T (entries.is_sorted place_cmp s) → T (entries.is_sorted place_cmp t) →
    ((q : ℕ × List ℕ) → entries.find place_cmp q s ≡ entries.find place_cmp q t) → s ≡ t
same_store s t g h is = entries.same_entries place_cmp place_total tied s t g h is

-- items that leave the same under each place leave the same
pub same_batch : (xs ys : List Item) → ((q : ℕ × List ℕ) → value_after_all q xs None ≡ value_after_all q ys None) →
    after_batch xs [] ≡ after_batch ys []
same_batch xs ys is = same_store (after_batch xs []) (after_batch ys []) (sorted-after-all xs [] tt) (sorted-after-all ys [] tt)
    (λ q. found-after-all q xs [] ∙ is q ∙ sym (found-after-all q ys []))

-- ---- one batch behind another

pub batch-append : (xs ys : List Item) (s : Store) → after_batch (xs ++ ys) s ≡ after_batch ys (after_batch xs s)
batch-append [] ys s = refl
batch-append (x ∷ xs) ys s = batch-append xs ys (after_item x s)

pub value-append : (q : ℕ × List ℕ) (xs ys : List Item) (old : Option (List ℕ)) →
    value_after_all q (xs ++ ys) old ≡ value_after_all q ys (value_after_all q xs old)
value-append q [] ys old = refl
value-append q (x ∷ xs) ys old = value-append q xs ys (value_after q x old)

-- what items leave of the pairs of a state is what the state's items and then they leave of nothing
pub items-more : (s : KeptState) (items : List Item) → after_batch (items_of s ++ items) [] ≡ after_batch items (pairs_of s)
unfolding pairs_of
items-more s items = batch-append (items_of s) items []

-- ---- items of one area

abbrev pub area_of : Item → ℕ
area_of (Put area key value) = area
area_of (Drop area key) = area

-- they leave what stands in other areas
abbrev pub StaysIn : ℕ → List Item → Type 0
StaysIn c items = (a : ℕ) → (a == c) ≡ false → (key : List ℕ) (old : Option (List ℕ)) → value_after_all (a, key) items old ≡ old

-- they leave what stands in this area
abbrev pub StaysOut : ℕ → List Item → Type 0
StaysOut a items = (key : List ℕ) (old : Option (List ℕ)) → value_after_all (a, key) items old ≡ old

item-in : (i : Item) (c a : ℕ) → area_of i ≡ c → (a == c) ≡ false → (key : List ℕ) (old : Option (List ℕ)) →
    value_after (a, key) i old ≡ old
item-in (Put area k value) c a e other key old =
    ap (λ b. cond (b && pointwise nat_eq key k) (Some value) old) (ap (λ x. a == x) e ∙ other)
item-in (Drop area k) c a e other key old = ap (λ b. cond (b && pointwise nat_eq key k) None old) (ap (λ x. a == x) e ∙ other)

pub in-none : (c : ℕ) → StaysIn c []
in-none c a other key old = refl

pub in-more : (c : ℕ) (i : Item) (is : List Item) → area_of i ≡ c → StaysIn c is → StaysIn c (i ∷ is)
in-more c i is e rest a other key old =
    ap (value_after_all (a, key) is) (item-in i c a e other key old) ∙ rest a other key old

pub in-one : (c : ℕ) (i : Item) → area_of i ≡ c → StaysIn c (i ∷ [])
in-one c i e = in-more c i [] e (in-none c)

pub in-map : {A : Type 0} (c : ℕ) (f : A → Item) → ((x : A) → area_of (f x) ≡ c) → (xs : List A) → StaysIn c (map f xs)
in-map c f e [] = in-none c
in-map c f e (x ∷ xs) = in-more c (f x) (map f xs) (e x) (in-map c f e xs)

pub in-append : (c : ℕ) (xs ys : List Item) → StaysIn c xs → StaysIn c ys → StaysIn c (xs ++ ys)
in-append c xs ys g h a other key old =
    value-append (a, key) xs ys old ∙ ap (value_after_all (a, key) ys) (g a other key old) ∙ h a other key old

pub in-flat : {A : Type 0} (c : ℕ) (f : A → List Item) → ((x : A) → StaysIn c (f x)) → (xs : List A) → StaysIn c (flat_map f xs)
in-flat c f e [] = in-none c
in-flat c f e (x ∷ xs) = in-append c (f x) (flat_map f xs) (e x) (in-flat c f e xs)

pub out-of : (a c : ℕ) (xs : List Item) → StaysIn c xs → (a == c) ≡ false → StaysOut a xs
out-of a c xs h other key old = h a other key old

pub out-append : (a : ℕ) (xs ys : List Item) → StaysOut a xs → StaysOut a ys → StaysOut a (xs ++ ys)
out-append a xs ys g h key old =
    value-append (a, key) xs ys old ∙ ap (value_after_all (a, key) ys) (g key old) ∙ h key old

-- ---- one area changed

-- what more items of an area leave is what another list of its items leaves in its place
segment-at : (a : ℕ) (pre seg new post more : List Item) → StaysIn a seg → StaysIn a new → StaysIn a more → StaysOut a pre →
    StaysOut a post → ((key : List ℕ) → value_after_all (a, key) (seg ++ more) None ≡ value_after_all (a, key) new None) →
    (b : ℕ) (key : List ℕ) (t : Bool) → (b == a) ≡ t →
    value_after_all (b, key) ((pre ++ (seg ++ post)) ++ more) None ≡ value_after_all (b, key) (pre ++ (new ++ post)) None
segment-at a pre seg new post more s n m off behind is b key true e =
    subst (λ x. value_after_all (x, key) ((pre ++ (seg ++ post)) ++ more) None ≡
    value_after_all (x, key) (pre ++ (new ++ post)) None)
    (sym (same_nat b a e))
    (value-append (a, key) (pre ++ (seg ++ post)) more None
    ∙ ap (value_after_all (a, key) more) (value-append (a, key) pre (seg ++ post) None)
    ∙ ap (λ x. value_after_all (a, key) more (value_after_all (a, key) (seg ++ post) x)) (off key None)
    ∙ ap (value_after_all (a, key) more) (value-append (a, key) seg post None)
    ∙ ap (value_after_all (a, key) more) (behind key (value_after_all (a, key) seg None))
    ∙ sym (value-append (a, key) seg more None)
    ∙ is key
    ∙ sym (behind key (value_after_all (a, key) new None))
    ∙ sym (value-append (a, key) new post None)
    ∙ sym (ap (value_after_all (a, key) (new ++ post)) (off key None))
    ∙ sym (value-append (a, key) pre (new ++ post) None))
segment-at a pre seg new post more s n m off behind is b key false e =
    value-append (b, key) (pre ++ (seg ++ post)) more None
    ∙ m b e key (value_after_all (b, key) (pre ++ (seg ++ post)) None)
    ∙ value-append (b, key) pre (seg ++ post) None
    ∙ value-append (b, key) seg post (value_after_all (b, key) pre None)
    ∙ ap (value_after_all (b, key) post) (s b e key (value_after_all (b, key) pre None))
    ∙ sym (ap (value_after_all (b, key) post) (n b e key (value_after_all (b, key) pre None)))
    ∙ sym (value-append (b, key) new post (value_after_all (b, key) pre None))
    ∙ sym (value-append (b, key) pre (new ++ post) None)

pub segment-changed : (a : ℕ) (pre seg new post more : List Item) → StaysIn a seg → StaysIn a new → StaysIn a more →
    StaysOut a pre →
    StaysOut a post → ((key : List ℕ) → value_after_all (a, key) (seg ++ more) None ≡ value_after_all (a, key) new None) →
    after_batch more (after_batch (pre ++ (seg ++ post)) []) ≡ after_batch (pre ++ (new ++ post)) []
segment-changed a pre seg new post more s n m off behind is =
    sym (batch-append (pre ++ (seg ++ post)) more [])
    ∙ same_batch ((pre ++ (seg ++ post)) ++ more) (pre ++ (new ++ post))
    (λ q. segment-at a pre seg new post more s n m off behind is q.0 q.1 (q.0 == a) refl)

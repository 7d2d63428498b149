-- Where a key belongs in entries that are cut into parts: what stands below it and above it does not count.
use Rattle.std.proofs.Common.{◌≡◌, ℕ, zero, suc, ◌+◌, ◌<◌, List, [], ◌∷◌, ◌++◌, length, get_or, take, drop, refl, sym, ap, ◌∙◌, Bool, true, false, cond, not, subst, append_assoc, Option, Some, None, unwrap_or, IfSome, ◌&&◌, arith}
use Rattle.std.specs.declared.cmp.Ordering.{Ordering}
use Rattle.std.specs.declared.cmp.Ordering.TheVariants.{Less, Equal, Greater}
use Rattle.std.specs.Ordering.{eq_by_cmp, is_eq, is_lt, is_le, ordering_reverse}
use Rattle.std.specs.FinMap.Entries as entries
use Rattle.std.specs.FinMap.Entries.{by_order}
use Rattle.std.specs.List.{flat_map, AllByRecursion, remove}
use Rattle.rl_value.specs.declared.value.Value.{Value}
use Rattle.rl_value.specs.Order.{row_cmp, row_total}
use Rattle.row_tree.specs.Entries.{Entries, first_key, all_below, without, and_more, option_list}
use Rattle.row_tree.specs.Sound.{IsPlace}

left_true : (a b : Bool) → (a && b) ≡ true → a ≡ true
left_true true b e = refl
left_true false b e = absurd (cc)

right_true : (a b : Bool) → (a && b) ≡ true → b ≡ true
right_true true b e = e
right_true false b e = absurd (cc)

both_true : (a b : Bool) → a ≡ true → b ≡ true → (a && b) ≡ true
both_true true b p q = q
both_true false b p q = absurd (cc)

less_is : (o : Ordering) → is_lt o ≡ true → o ≡ Less
less_is Less e = refl
less_is Equal e = absurd (cc)
less_is Greater e = absurd (cc)

-- below a key that is not above k is below k
less_le : (x y k : List Value) → row_cmp x y ≡ Less → is_le (row_cmp y k) ≡ true → row_cmp x k ≡ Less
less_le x y k p q = elim (row_cmp y k) as (λ r. row_cmp y k ≡ r → is_le r ≡ true → row_cmp x k ≡ Less) [
  | Less ↦ λ e _. row_total.trans x y k p e
  | Equal ↦ λ e _. row_total.antisymm x k ∙ ap ordering_reverse (sym (row_total.congr y k x e) ∙ row_total.antisymm y x ∙
      ap ordering_reverse p)
  | Greater ↦ λ _ h. absurd (cc)
] refl q

greater : (x k : List Value) → row_cmp x k ≡ Less → row_cmp k x ≡ Greater
greater x k p = row_total.antisymm k x ∙ ap ordering_reverse p

above : (k y : List Value) → is_le (row_cmp y k) ≡ false → row_cmp k y ≡ Less
above k y = elim (row_cmp y k) as (λ r. row_cmp y k ≡ r → is_le r ≡ false → row_cmp k y ≡ Less) [
  | Less ↦ λ _ h. absurd (cc)
  | Equal ↦ λ _ h. absurd (cc)
  | Greater ↦ λ e _. row_total.antisymm k y ∙ ap ordering_reverse e
] refl

-- ---- entries that rise, in two parts

below_left : (k : List Value) (xs ys : Entries) → entries.below_all row_cmp k (xs ++ ys) ≡ true → entries.below_all row_cmp k xs ≡
    true
below_left k [] ys h = refl
below_left k (x ∷ xs) ys h = both_true _ _ (left_true _ _ h) (below_left k xs ys (right_true (is_lt (row_cmp k x.0)) _ h))

pub sorted_left : (xs ys : Entries) → entries.is_sorted row_cmp (xs ++ ys) ≡ true → entries.is_sorted row_cmp xs ≡ true
sorted_left [] ys h = refl
sorted_left (x ∷ xs) ys h = both_true _ _ (below_left x.0 xs ys (left_true _ _ h))
    (sorted_left xs ys (right_true (entries.below_all row_cmp x.0 (xs ++ ys)) _ h))

pub sorted_right : (xs ys : Entries) → entries.is_sorted row_cmp (xs ++ ys) ≡ true → entries.is_sorted row_cmp ys ≡ true
sorted_right [] ys h = h
sorted_right (x ∷ xs) ys h = sorted_right xs ys (right_true (entries.below_all row_cmp x.0 (xs ++ ys)) _ h)

same_some : (x y : List Value) → Some x ≡ Some y → x ≡ y
same_some x y e = ap (λ o. unwrap_or o x) e

first_below : (k y : List Value) (xs ys : Entries) → entries.below_all row_cmp k (xs ++ ys) ≡ true → first_key ys ≡ Some y →
    row_cmp k y ≡ Less
first_below k y [] [] h e = absurd (cc)
first_below k y [] (z ∷ ys) h e = subst (λ w. row_cmp k w ≡ Less) (same_some z.0 y e) (less_is _ (left_true _ _ h))
first_below k y (x ∷ xs) ys h e = first_below k y xs ys (right_true (is_lt (row_cmp k x.0)) _ h) e

-- where the second part begins with a key that is not above k, the first part is below k
pub part_below : (k y : List Value) (xs ys : Entries) → entries.is_sorted row_cmp (xs ++ ys) ≡ true → first_key ys ≡ Some y →
    is_le (row_cmp y k) ≡ true → all_below xs k ≡ true
part_below k y [] ys h e le = refl
part_below k y (x ∷ xs) ys h e le =
    let low = less_le x.0 y k (first_below x.0 y xs ys (left_true _ _ h) e) le in
    both_true _ _ (ap is_lt low) (part_below k y xs ys (right_true (entries.below_all row_cmp x.0 (xs ++ ys)) _ h) e le)

below_less : (k y : List Value) (es : Entries) → row_cmp k y ≡ Less → entries.below_all row_cmp y es ≡ true →
    entries.below_all row_cmp k es ≡ true
below_less k y [] p h = refl
below_less k y (e ∷ es) p h = both_true _ _ (ap is_lt (row_total.trans k y e.0 p (less_is _ (left_true _ _ h))))
    (below_less k y es p (right_true (is_lt (row_cmp y e.0)) _ h))

-- entries that begin with a key above k are above k
pub part_above : (k y : List Value) (ys : Entries) → entries.is_sorted row_cmp ys ≡ true → first_key ys ≡ Some y → row_cmp k y ≡
    Less → entries.below_all row_cmp k ys ≡ true
part_above k y [] h e p = refl
part_above k y (z ∷ ys) h e p =
    let low = subst (λ w. row_cmp k w ≡ Less) (sym (same_some z.0 y e)) p in
    both_true _ _ (ap is_lt low) (below_less k z.0 ys low (left_true _ _ h))

-- ---- what is below and above does not count

pub find_past : (k : List Value) (xs ys : Entries) → all_below xs k ≡ true → entries.find row_cmp k (xs ++ ys) ≡
    entries.find row_cmp k ys
find_past k [] ys h = refl
find_past k (x ∷ xs) ys h =
    ap (λ r. cond (is_eq r) (Some x.1) (entries.find row_cmp k (xs ++ ys))) (greater x.0 k (less_is _ (left_true _ _ h)))
    ∙ find_past k xs ys (right_true (is_lt (row_cmp x.0 k)) _ h)

find_none : (k : List Value) (zs : Entries) → entries.below_all row_cmp k zs ≡ true → entries.find row_cmp k zs ≡ None
find_none k [] h = refl
find_none k (z ∷ zs) h =
    ap (λ r. cond (is_eq r) (Some z.1) (entries.find row_cmp k zs)) (less_is _ (left_true _ _ h)) ∙
    find_none k zs (right_true (is_lt (row_cmp k z.0)) _ h)

pub find_before : (k : List Value) (ys zs : Entries) → entries.below_all row_cmp k zs ≡ true → entries.find row_cmp k (ys ++ zs) ≡
    entries.find row_cmp k ys
find_before k [] zs h = find_none k zs h
find_before k (y ∷ ys) zs h = ap (cond (eq_by_cmp row_cmp k y.0) (Some y.1)) (find_before k ys zs h)

pub put_past : (k v : List Value) (xs ys : Entries) → all_below xs k ≡ true → entries.put row_cmp k v (xs ++ ys) ≡ xs ++
    entries.put row_cmp k v ys
put_past k v [] ys h = refl
put_past k v (x ∷ xs) ys h =
    ap (λ r. by_order r ((k, v) ∷ x ∷ (xs ++ ys)) ((x.0, v) ∷ (xs ++ ys)) (x ∷ entries.put row_cmp k v (xs ++ ys)))
    (greater x.0 k (less_is _ (left_true _ _ h)))
    ∙ ap (λ es. x ∷ es) (put_past k v xs ys (right_true (is_lt (row_cmp x.0 k)) _ h))

put_first : (k v : List Value) (zs : Entries) → entries.below_all row_cmp k zs ≡ true → entries.put row_cmp k v zs ≡ (k, v) ∷ zs
put_first k v [] h = refl
put_first k v (z ∷ zs) h = ap (λ r. by_order r ((k, v) ∷ z ∷ zs) ((z.0, v) ∷ zs) (z ∷ entries.put row_cmp k v zs))
    (less_is _ (left_true _ _ h))

pub put_before : (k v : List Value) (ys zs : Entries) → entries.below_all row_cmp k zs ≡ true →
    entries.put row_cmp k v (ys ++ zs) ≡ entries.put row_cmp k v ys ++ zs
put_before k v [] zs h = put_first k v zs h
put_before k v (y ∷ ys) zs h =
    elim (row_cmp k y.0) as (λ r. by_order r ((k, v) ∷ y ∷ (ys ++ zs)) ((y.0, v) ∷ (ys ++ zs))
    (y ∷ entries.put row_cmp k v (ys ++ zs)) ≡ by_order r ((k, v) ∷ y ∷ ys) ((y.0, v) ∷ ys)
    (y ∷ entries.put row_cmp k v ys) ++ zs) [
      | Less ↦ refl
      | Equal ↦ refl
      | Greater ↦ ap (λ es. y ∷ es) (put_before k v ys zs h)
    ]

pub without_past : (k : List Value) (xs ys : Entries) → all_below xs k ≡ true → without k (xs ++ ys) ≡ xs ++ without k ys
without_past k [] ys h = refl
without_past k (x ∷ xs) ys h =
    ap (λ r. cond (not (is_eq r)) (x ∷ without k (xs ++ ys)) (without k (xs ++ ys))) (greater x.0 k (less_is _ (left_true _ _ h)))
    ∙ ap (λ es. x ∷ es) (without_past k xs ys (right_true (is_lt (row_cmp x.0 k)) _ h))

without_none : (k : List Value) (zs : Entries) → entries.below_all row_cmp k zs ≡ true → without k zs ≡ zs
without_none k [] h = refl
without_none k (z ∷ zs) h =
    ap (λ r. cond (not (is_eq r)) (z ∷ without k zs) (without k zs)) (less_is _ (left_true _ _ h)) ∙
    ap (λ es. z ∷ es) (without_none k zs (right_true (is_lt (row_cmp k z.0)) _ h))

pub without_before : (k : List Value) (ys zs : Entries) → entries.below_all row_cmp k zs ≡ true → without k (ys ++ zs) ≡
    without k ys ++ zs
without_before k [] zs h = without_none k zs h
without_before k (y ∷ ys) zs h =
    elim (eq_by_cmp row_cmp k y.0) as (λ b. cond (not b) (y ∷ without k (ys ++ zs)) (without k (ys ++ zs)) ≡
    cond (not b) (y ∷ without k ys) (without k ys) ++ zs) [
      | true ↦ without_before k ys zs h
      | false ↦ ap (λ es. y ∷ es) (without_before k ys zs h)
    ]

-- ---- the same at the parts of a list

one_more : (n : ℕ) → suc n ≡ n + 1
one_more n = omega arith

module _ {K : Type 0} (f : K → Entries) where
  pub flat_append : (xs ys : List K) → flat_map f (xs ++ ys) ≡ flat_map f xs ++ flat_map f ys
  flat_append [] ys = refl
  flat_append (x ∷ xs) ys = ap (λ es. f x ++ es) (flat_append xs ys) ∙ sym (append_assoc (f x) (flat_map f xs) (flat_map f ys))

  cut_suc : (children : List K) (at : ℕ) (x : K) → at < length children → x ≡ get_or children at x → children ≡
      take at children ++ x ∷ drop (suc at) children
  cut_suc [] at x l e = absurd (omega arith)
  cut_suc (k ∷ ks) zero x l e = ap (λ y. y ∷ ks) (sym e)
  cut_suc (k ∷ ks) (suc at) x l e = ap (λ ys. k ∷ ys) (cut_suc ks at x (omega arith) e)

  cut_at : (children : List K) (at : ℕ) (x : K) → at < length children → x ≡ get_or children at x → children ≡ take at children ++
      x ∷ drop (at + 1) children
  cut_at children at x l e = cut_suc children at x l e ∙ ap (λ n. take at children ++ x ∷ drop n children) (one_more at)

  -- the entries of all parts, around those of the part at this place
  pub around : (children : List K) (at : ℕ) (x : K) → at < length children → x ≡ get_or children at x → flat_map f children ≡
      flat_map f (take at children) ++ (f x ++ flat_map f (drop (at + 1) children))
  around children at x l e = ap (flat_map f) (cut_at children at x l e) ∙
      flat_append (take at children) (x ∷ drop (at + 1) children)

  pub find_at : (k : List Value) (children : List K) (at : ℕ) (x : K) → at < length children → x ≡ get_or children at x →
      IsPlace f k children at → entries.find row_cmp k (flat_map f children) ≡ entries.find row_cmp k (f x)
  find_at k children at x l e p =
      ap (entries.find row_cmp k) (around children at x l e) ∙ find_past k _ _ p.before ∙ find_before k (f x) _ p.behind

  first_append : (xs ys : Entries) (y : List Value) → first_key xs ≡ Some y → first_key (xs ++ ys) ≡ Some y
  first_append [] ys y e = absurd (cc)
  first_append (x ∷ xs) ys y e = e

  drop_suc : (children : List K) (at : ℕ) (x : K) → at < length children → x ≡ get_or children at x → drop at children ≡
      x ∷ drop (suc at) children
  drop_suc [] at x l e = absurd (omega arith)
  drop_suc (k ∷ ks) zero x l e = ap (λ y. y ∷ ks) (sym e)
  drop_suc (k ∷ ks) (suc at) x l e = drop_suc ks at x (omega arith) e

  drop_at : (children : List K) (at : ℕ) (x : K) → at < length children → x ≡ get_or children at x → drop at children ≡
      x ∷ drop (at + 1) children
  drop_at children at x l e = drop_suc children at x l e ∙ ap (λ n. x ∷ drop n children) (one_more at)

  -- a part whose least key is not above k leaves the parts before it below k
  pub low_at : (k y : List Value) (children : List K) (at : ℕ) (x : K) → at < length children → x ≡ get_or children at x →
      entries.is_sorted row_cmp (flat_map f children) ≡ true
      → first_key (f x) ≡ Some y → is_le (row_cmp y k) ≡ true → all_below (flat_map f (take at children)) k ≡ true
  low_at k y children at x l e h first le =
      part_below k y (flat_map f (take at children)) (f x ++
      flat_map f (drop (at + 1) children)) (subst (λ es. entries.is_sorted row_cmp es ≡ true) (around children at x l e) h)
      (first_append _ _ y first) le

  -- a part whose least key is above k stands above k with those behind it
  pub high_at : (k y : List Value) (children : List K) (at : ℕ) (x : K) → at < length children → x ≡ get_or children at x →
      entries.is_sorted row_cmp (flat_map f children) ≡ true
      → first_key (f x) ≡ Some y → is_le (row_cmp y k) ≡ false → entries.below_all row_cmp k (flat_map f (drop at children)) ≡
      true
  high_at k y children at x l e h first le =
      let rest = sorted_right (flat_map f (take at children)) _
      (subst (λ es. entries.is_sorted row_cmp es ≡ true) (around children at x l e) h) in
      subst (λ ks. entries.below_all row_cmp k (flat_map f ks) ≡
      true) (sym (drop_at children at x l e)) (part_above k y (f x ++
      flat_map f (drop (at + 1) children)) rest (first_append _ _ y first) (above k y le))

  taken : (children zs : List K) (at : ℕ) → at < length children → take at (take at children ++ zs) ≡ take at children
  taken [] zs at l = absurd (omega arith)
  taken (k ∷ ks) zs zero l = refl
  taken (k ∷ ks) zs (suc at) l = ap (λ ys. k ∷ ys) (taken ks zs at (omega arith))

  dropped : (children zs : List K) (at : ℕ) → at < length children → drop at (take at children ++ zs) ≡ zs
  dropped [] zs at l = absurd (omega arith)
  dropped (k ∷ ks) zs zero l = refl
  dropped (k ∷ ks) zs (suc at) l = dropped ks zs at (omega arith)

  -- what `remove` leaves, cut at the same place
  pub removed_take : (children : List K) (at : ℕ) → at < length children → take at (remove children at) ≡ take at children
  removed_take children at l = taken children (drop (suc at) children) at l

  pub removed_drop : (children : List K) (at : ℕ) → at < length children → drop at (remove children at) ≡ drop (at + 1) children
  removed_drop children at l = dropped children (drop (suc at) children) at l ∙ ap (λ n. drop n children) (one_more at)

  flat_option : (more : Option K) (zs : List K) → flat_map f (option_list more ++ zs) ≡ and_more f more ++ flat_map f zs
  flat_option None zs = refl
  flat_option (Some y) zs = refl

  -- with another part, and perhaps one more, in the place of one
  pub put_at : (k v : List Value) (children : List K) (at : ℕ) (x y : K) (more : Option K) → at < length children → x ≡
      get_or children at x → IsPlace f k children at
      → f y ++ and_more f more ≡ entries.put row_cmp k v (f x)
      → flat_map f (take at children ++ y ∷ (option_list more ++ drop (at + 1) children)) ≡
      entries.put row_cmp k v (flat_map f children)
  put_at k v children at x y more l e p is =
      flat_append (take at children) (y ∷ (option_list more ++ drop (at + 1) children))
      ∙ ap (λ es. flat_map f (take at children) ++ (f y ++ es)) (flat_option more (drop (at + 1) children))
      ∙ ap (λ es. flat_map f (take at children) ++ es)
      (sym (append_assoc (f y) (and_more f more) (flat_map f (drop (at + 1) children))))
      ∙ ap (λ es. flat_map f (take at children) ++ (es ++ flat_map f (drop (at + 1) children))) is
      ∙ sym (ap (entries.put row_cmp k v) (around children at x l e)
      ∙ put_past k v (flat_map f (take at children)) _ p.before
      ∙ ap (λ es. flat_map f (take at children) ++ es) (put_before k v (f x) _ p.behind))

  pub without_at : (k : List Value) (children : List K) (at : ℕ) (x : K) (left : Option K) → at < length children → x ≡
      get_or children at x → IsPlace f k children at
      → and_more f left ≡ without k (f x)
      → flat_map f (take at children ++ (option_list left ++ drop (at + 1) children)) ≡ without k (flat_map f children)
  without_at k children at x left l e p is =
      flat_append (take at children) (option_list left ++ drop (at + 1) children)
      ∙ ap (λ es. flat_map f (take at children) ++ es) (flat_option left (drop (at + 1) children))
      ∙ ap (λ es. flat_map f (take at children) ++ (es ++ flat_map f (drop (at + 1) children))) is
      ∙ sym (ap (without k) (around children at x l e)
      ∙ without_past k (flat_map f (take at children)) _ p.before
      ∙ ap (λ es. flat_map f (take at children) ++ es) (without_before k (f x) _ p.behind))

-- ---- each part is sound

module _ {K : Type 0} (S : K → Type 0) where
  pub all_append : (xs ys : List K) → AllByRecursion S xs → AllByRecursion S ys → AllByRecursion S (xs ++ ys)
  all_append [] ys p q = q
  all_append (x ∷ xs) ys p q = (p.0, all_append xs ys p.1 q)

  pub all_take : (n : ℕ) (xs : List K) → AllByRecursion S xs → AllByRecursion S (take n xs)
  all_take zero xs p = tt
  all_take (suc n) [] p = tt
  all_take (suc n) (x ∷ xs) p = (p.0, all_take n xs p.1)

  pub all_drop : (n : ℕ) (xs : List K) → AllByRecursion S xs → AllByRecursion S (drop n xs)
  all_drop zero xs p = p
  all_drop (suc n) [] p = tt
  all_drop (suc n) (x ∷ xs) p = all_drop n xs p.1

  pub all_option : (more : Option K) → IfSome more S → AllByRecursion S (option_list more)
  all_option None p = tt
  all_option (Some x) p = (p, tt)

-- The unique values of written rows as one list, and when no key stands twice in it.
use Rattle.std.proofs.Common.{◌≡◌, ℕ, zero, suc, ◌+◌, List, [], ◌∷◌, ◌++◌, append_assoc, Bool, true, false, not, refl, sym, ap, ◌∙◌, subst, Option, Some, None, arith, slice_get, ◌||◌, if◌then◌else◌}
use Rattle.std.specs.BTreeMap.{is_at}
use Rattle.std.specs.BTreeSet.{insert_key}
use Rattle.std.specs.List.{AllByRecursion, list_any, list_all}
use Rattle.std.specs.declared.cmp.Ordering.TheVariants.{Less, Equal, Greater}
use Rattle.std.specs.Ordering.{is_eq, match_ordering}
use Rattle.rl_value.specs.declared.key.Key.{Key}
use Rattle.rl_value.specs.declared.value.Value.{Value}
use Rattle.rl_value.specs.Order.{key_cmp}
use Rattle.redo_vec.specs.declared.table.TableRow.{TableRow}
use Rattle.redo_spec.specs.ConflictKeys.{is_null}
use Rattle.redo_spec.specs.Dictionary.{table_of, uniques_of}
use Rattle.redo_spec.specs.Tables.{values_at}
use Rattle.row_apply.specs.declared.writes.Write.{Write}
use Rattle.row_apply.specs.Kept.{unique_key}
use Rattle.row_apply.proofs.Orders.{key_is, key_self}
use Rattle.constraint_check.specs.LookUps.{with_value, values_behind, values_with, written_values, keys_differ}
use Rattle.constraint_check.proofs.Rising.{left_true, right_true, both, is_not}

append-none : {A : Type 0} (xs : List A) → xs ++ [] ≡ xs
append-none [] = refl
append-none (x ∷ xs) = ap (λ ys. x ∷ ys) (append-none xs)

or-left : (a b : Bool) → a ≡ true → (a || b) ≡ true
or-left true b e = refl
or-left false b e = absurd (cc)

or-right : (a b : Bool) → b ≡ true → (a || b) ≡ true
or-right true b e = refl
or-right false b e = e

neither-of : (a b : Bool) → a ≡ false → b ≡ false → (a || b) ≡ false
neither-of true b e f = absurd (cc)
neither-of false b e f = f

first-out : (a b : Bool) → (a || b) ≡ false → a ≡ false
first-out true b e = absurd (cc)
first-out false b e = refl

second-out : (a b : Bool) → (a || b) ≡ false → b ≡ false
second-out true b e = absurd (cc)
second-out false b e = e

not-both : (b : Bool) → b ≡ true → not b ≡ true → ⊥
not-both true e f = cc
not-both false e f = cc

-- ---- facts of all elements

pub all-two : {A : Type 0} (P : A → Type 0) (xs ys : List A) → AllByRecursion P xs → AllByRecursion P ys →
    AllByRecursion P (xs ++ ys)
all-two P [] ys a b = b
all-two P (x ∷ xs) ys a b = (a.0, all-two P xs ys a.1 b)

pub all-front : {A : Type 0} (P : A → Type 0) (xs ys : List A) → AllByRecursion P (xs ++ ys) → AllByRecursion P xs
all-front P [] ys a = tt
all-front P (x ∷ xs) ys a = (a.0, all-front P xs ys a.1)

pub all-back : {A : Type 0} (P : A → Type 0) (xs ys : List A) → AllByRecursion P (xs ++ ys) → AllByRecursion P ys
all-back P [] ys a = a
all-back P (x ∷ xs) ys a = all-back P xs ys a.1

pub all-weaker : {A : Type 0} (P Q : A → Type 0) (xs : List A) → ((x : A) → P x → Q x) → AllByRecursion P xs →
    AllByRecursion Q xs
all-weaker P Q [] f a = tt
all-weaker P Q (x ∷ xs) f a = (f x a.0, all-weaker P Q xs f a.1)

pub all-true : {A : Type 0} (p : A → Bool) (xs : List A) → list_all p xs ≡ true → AllByRecursion (λ x. p x ≡ true) xs
all-true p [] e = tt
all-true p (x ∷ xs) e = (left_true (p x) (list_all p xs) e, all-true p xs (right_true (p x) (list_all p xs) e))

pub true-all : {A : Type 0} (p : A → Bool) (xs : List A) → AllByRecursion (λ x. p x ≡ true) xs → list_all p xs ≡ true
true-all p [] a = refl
true-all p (x ∷ xs) a = both (p x) (list_all p xs) a.0 (true-all p xs a.1)

-- ---- the values of each row, in one list

abbrev pub one_value : ℕ → List Value → ℕ → List ℕ → List Key
one_value table row n columns =
    if list_any is_null (values_at row columns) then [] else unique_key table n (values_at row columns) ∷ []

abbrev pub row_values : ℕ → List Value → ℕ → List (List ℕ) → List Key
row_values table row n [] = []
row_values table row n (columns ∷ more) = one_value table row n columns ++ row_values table row (n + 1) more

abbrev pub slot_values : Option TableRow → Option (List Value) → List Key
slot_values None row = []
slot_values (Some t) None = []
slot_values (Some t) (Some row) = row_values t.id row 1 (uniques_of t)

abbrev pub all_values : List TableRow → List Write → List Key
all_values defs [] = []
all_values defs (w ∷ ws) = slot_values (table_of defs w.table) w.row ++ all_values defs ws

with-one : (keys rest : List Key) (table : ℕ) (row : List Value) (n : ℕ) (columns : List ℕ) →
    with_value keys table row n columns ++ rest ≡ keys ++ (one_value table row n columns ++ rest)
with-one keys rest table row n columns =
    elim (list_any is_null (values_at row columns)) as (λ b.
    (if b then keys else keys ++ unique_key table n (values_at row columns) ∷ []) ++ rest ≡
    keys ++ ((if b then [] else unique_key table n (values_at row columns) ∷ []) ++ rest)) [
      | true ↦ refl
      | false ↦ append_assoc keys (unique_key table n (values_at row columns) ∷ []) rest
    ]

row-list : (keys : List Key) (table : ℕ) (row : List Value) (n : ℕ) (us : List (List ℕ)) →
    values_behind keys table row n us ≡ keys ++ row_values table row n us
row-list keys table row n [] = sym (append-none keys)
row-list keys table row n (columns ∷ more) =
    row-list (with_value keys table row n columns) table row (n + 1) more
    ∙ with-one keys (row_values table row (n + 1) more) table row n columns

slot-list : (keys : List Key) (o : Option TableRow) (row : Option (List Value)) →
    values_with keys o row ≡ keys ++ slot_values o row
slot-list keys None row = sym (append-none keys)
slot-list keys (Some t) None = sym (append-none keys)
slot-list keys (Some t) (Some row) = row-list keys t.id row 1 (uniques_of t)

pub values-list : (keys : List Key) (defs : List TableRow) (ws : List Write) →
    written_values keys defs ws ≡ keys ++ all_values defs ws
values-list keys defs [] = sym (append-none keys)
values-list keys defs (w ∷ ws) =
    values-list (values_with keys (table_of defs w.table) w.row) defs ws
    ∙ ap (λ ks. ks ++ all_values defs ws) (slot-list keys (table_of defs w.table) w.row)
    ∙ append_assoc keys (slot_values (table_of defs w.table) w.row) (all_values defs ws)

-- ---- facts of the values of a row

pub of-row : (P : Key → Type 0) (table : ℕ) (row : List Value) (n : ℕ) (us : List (List ℕ)) →
    AllByRecursion P (row_values table row n us) → (i : ℕ) (columns : List ℕ) → slice_get us i ≡ Some columns →
    list_any is_null (values_at row columns) ≡ false → (m : ℕ) → m ≡ n + i → P (unique_key table m (values_at row columns))
of-row P table row n [] all i columns e full m is = absurd (cc)
of-row P table row n (u ∷ us) all zero columns e full m is =
    let same : u ≡ columns = cc in
    let number : n ≡ m = omega (arith, is) in
    let filled : list_any is_null (values_at row u) ≡ false = ap (λ c. list_any is_null (values_at row c)) same ∙ full in
    let here = all-front P (one_value table row n u) (row_values table row (n + 1) us) all in
    let one : AllByRecursion P (unique_key table n (values_at row u) ∷ []) =
    subst (λ b. AllByRecursion P (if b then [] else unique_key table n (values_at row u) ∷ [])) filled here in
    subst (λ k. P (unique_key table k (values_at row columns))) number
    (subst (λ c. P (unique_key table n (values_at row c))) same one.0)
of-row P table row n (u ∷ us) all (suc i) columns e full m is =
    of-row P table row (n + 1) us (all-back P (one_value table row n u) (row_values table row (n + 1) us) all) i columns e full m
    (omega (arith, is))

pub by-row : (P : Key → Type 0) (table : ℕ) (row : List Value) (n : ℕ) (us : List (List ℕ)) →
    ((i : ℕ) (columns : List ℕ) → slice_get us i ≡ Some columns → list_any is_null (values_at row columns) ≡ false →
    (m : ℕ) → m ≡ n + i → P (unique_key table m (values_at row columns))) → AllByRecursion P (row_values table row n us)
by-row P table row n [] each = tt
by-row P table row n (u ∷ us) each = all-two P (one_value table row n u) (row_values table row (n + 1) us)
    (elim (list_any is_null (values_at row u)) as (λ b. list_any is_null (values_at row u) ≡ b →
    AllByRecursion P (if b then [] else unique_key table n (values_at row u) ∷ [])) [
      | true ↦ λ null. tt
      | false ↦ λ full. (each 0 u refl full n (omega arith), tt)
    ] refl)
    (by-row P table row (n + 1) us (λ i columns e full m is. each (suc i) columns e full m (omega (arith, is))))

-- ---- no key twice

abbrev pub IsNot : Key → Key → Type 0
IsNot k l = l ≡ k → ⊥

abbrev pub Apart : List Key → Type 0
Apart [] = Unit {0}
Apart (k ∷ ks) = AllByRecursion (IsNot k) ks × Apart ks

pub apart-back : (xs ys : List Key) → Apart (xs ++ ys) → Apart ys
apart-back [] ys a = a
apart-back (x ∷ xs) ys a = apart-back xs ys a.1

pub apart-across : (xs ys : List Key) → Apart (xs ++ ys) → AllByRecursion (λ k. AllByRecursion (IsNot k) ys) xs
apart-across [] ys a = tt
apart-across (x ∷ xs) ys a = (all-back (IsNot x) xs ys a.0, apart-across xs ys a.1)

pub apart-two : (xs ys : List Key) → Apart xs → Apart ys → AllByRecursion (λ k. AllByRecursion (IsNot k) ys) xs → Apart (xs ++ ys)
apart-two [] ys a b c = b
apart-two (x ∷ xs) ys a b c = (all-two (IsNot x) xs ys a.0 c.0, apart-two xs ys a.1 b c.1)

-- ---- the set of those that were seen

in-insert : (p : Key → Bool) (k : Key) (seen : List Key) → list_any p seen ≡ true → list_any p (insert_key key_cmp seen k) ≡ true
in-insert p k [] e = absurd (cc)
in-insert p k (x ∷ xs) e = elim (key_cmp k x) as (λ o.
    list_any p (match_ordering o (k ∷ x ∷ xs) (x ∷ xs) (x ∷ insert_key key_cmp xs k)) ≡ true) [
      | Less ↦ or-right (p k) (list_any p (x ∷ xs)) e
      | Equal ↦ e
      | Greater ↦ elim (p x) as (λ b. (b || list_any p xs) ≡ true → (b || list_any p (insert_key key_cmp xs k)) ≡ true) [
        | true ↦ λ given. refl
        | false ↦ λ given. in-insert p k xs given
      ] e
    ]

self-insert : (k : Key) (seen : List Key) → list_any (is_at (key_cmp k)) (insert_key key_cmp seen k) ≡ true
self-insert k [] = or-left (is_eq (key_cmp k k)) false (key_self k)
self-insert k (x ∷ xs) = elim (key_cmp k x) as (λ o. key_cmp k x ≡ o →
    list_any (is_at (key_cmp k)) (match_ordering o (k ∷ x ∷ xs) (x ∷ xs) (x ∷ insert_key key_cmp xs k)) ≡ true) [
      | Less ↦ λ is. or-left (is_eq (key_cmp k k)) (list_any (is_at (key_cmp k)) (x ∷ xs)) (key_self k)
      | Equal ↦ λ is. or-left (is_eq (key_cmp k x)) (list_any (is_at (key_cmp k)) xs) (ap is_eq is)
      | Greater ↦ λ is. or-right (is_eq (key_cmp k x)) (list_any (is_at (key_cmp k)) (insert_key key_cmp xs k)) (self-insert k xs)
    ] refl

out-insert : (p : Key → Bool) (k : Key) (seen : List Key) → p k ≡ false → list_any p seen ≡ false →
    list_any p (insert_key key_cmp seen k) ≡ false
out-insert p k [] e f = neither-of (p k) false e refl
out-insert p k (x ∷ xs) e f = elim (key_cmp k x) as (λ o.
    list_any p (match_ordering o (k ∷ x ∷ xs) (x ∷ xs) (x ∷ insert_key key_cmp xs k)) ≡ false) [
      | Less ↦ neither-of (p k) (list_any p (x ∷ xs)) e f
      | Equal ↦ f
      | Greater ↦ neither-of (p x) (list_any p (insert_key key_cmp xs k)) (first-out (p x) (list_any p xs) f)
          (out-insert p k xs e (second-out (p x) (list_any p xs) f))
    ]

-- what was seen is not among those that differ
seen-not : (k : Key) (seen ks : List Key) → list_any (is_at (key_cmp k)) seen ≡ true → keys_differ seen ks ≡ true →
    AllByRecursion (IsNot k) ks
seen-not k seen [] there e = tt
seen-not k seen (l ∷ ls) there e = (
  (λ is.
      let free : not (list_any (is_at (key_cmp l)) seen) ≡ true =
      left_true (not (list_any (is_at (key_cmp l)) seen)) (keys_differ (insert_key key_cmp seen l) ls) e in
      not-both (list_any (is_at (key_cmp l)) seen) (ap (λ j. list_any (is_at (key_cmp j)) seen) is ∙ there) free),
  seen-not k (insert_key key_cmp seen l) ls (in-insert (is_at (key_cmp k)) l seen there)
      (right_true (not (list_any (is_at (key_cmp l)) seen)) (keys_differ (insert_key key_cmp seen l) ls) e),
)

pub apart-of : (seen ks : List Key) → keys_differ seen ks ≡ true → Apart ks
apart-of seen [] e = tt
apart-of seen (k ∷ ks) e =
    let later = right_true (not (list_any (is_at (key_cmp k)) seen)) (keys_differ (insert_key key_cmp seen k) ks) e in (
      seen-not k (insert_key key_cmp seen k) ks (self-insert k seen) later,
      apart-of (insert_key key_cmp seen k) ks later,
    )

abbrev IsUnseen : List Key → Key → Type 0
IsUnseen seen k = list_any (is_at (key_cmp k)) seen ≡ false

unseen-on : (k : Key) (seen ks : List Key) → AllByRecursion (IsUnseen seen) ks → AllByRecursion (IsNot k) ks →
    AllByRecursion (IsUnseen (insert_key key_cmp seen k)) ks
unseen-on k seen [] free apart = tt
unseen-on k seen (l ∷ ls) free apart = (
  out-insert (is_at (key_cmp l)) k seen (is_not (is_eq (key_cmp l k)) (λ tie. apart.0 (key_is l k tie))) free.0,
  unseen-on k seen ls free.1 apart.1,
)

pub differ-by : (seen ks : List Key) → Apart ks → AllByRecursion (IsUnseen seen) ks → keys_differ seen ks ≡ true
differ-by seen [] apart free = refl
differ-by seen (k ∷ ks) apart free =
    both (not (list_any (is_at (key_cmp k)) seen)) (keys_differ (insert_key key_cmp seen k) ks) (ap not free.0)
    (differ-by (insert_key key_cmp seen k) ks apart.1 (unseen-on k seen ks free.1 apart.0))

pub none-seen : (ks : List Key) → AllByRecursion (IsUnseen []) ks
none-seen [] = tt
none-seen (k ∷ ks) = (refl, none-seen ks)

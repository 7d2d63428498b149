-- What holds of each element, and what a filter leaves, when a list is filtered, changed, cut or joined.
use Rattle.std.proofs.Common.{◌≡◌, ℕ, suc, zero, ◌+◌, ◌≤◌, List, [], ◌∷◌, ◌++◌, take, drop, length, map, filter, sym, ap, ◌∙◌, refl, Bool, true, false, cond, not, ◌||◌, arith}
use Rattle.std.specs.List.{AllByRecursion, list_any, sum_by, flat_map}
use Rattle.std.proofs.lemmas.List.Sums.{sum_by-cons}
use Rattle.std.proofs.lemmas.List.Elements.{filter-append}
use Rattle.rl_value.specs.Outcome.{is_empty}

-- ---- each element

pub all_append : {A : Type 0} (P : A → Type 0) (xs ys : List A) → AllByRecursion P xs → AllByRecursion P ys →
    AllByRecursion P (xs ++ ys)
all_append P [] ys a b = b
all_append P (x ∷ xs) ys a b = (a.0, all_append P xs ys a.1 b)

all_cond : {A : Type 0} (P : A → Type 0) (b : Bool) (x : A) (xs : List A) → P x → AllByRecursion P xs →
    AllByRecursion P (cond b (x ∷ xs) xs)
all_cond P true x xs here later = (here, later)
all_cond P false x xs here later = later

pub all_filter : {A : Type 0} (P : A → Type 0) (p : A → Bool) (xs : List A) → AllByRecursion P xs → AllByRecursion P (filter p xs)
all_filter P p [] a = tt
all_filter P p (x ∷ xs) a = all_cond P (p x) x (filter p xs) a.0 (all_filter P p xs a.1)

pub all_map : {A B : Type 0} (P : A → Type 0) (Q : B → Type 0) (f : A → B) → ((x : A) → P x → Q (f x)) → (xs : List A) →
    AllByRecursion P xs → AllByRecursion Q (map f xs)
all_map P Q f each [] a = tt
all_map P Q f each (x ∷ xs) a = (each x a.0, all_map P Q f each xs a.1)

pub all_drop : {A : Type 0} (P : A → Type 0) (n : ℕ) (xs : List A) → AllByRecursion P xs → AllByRecursion P (drop n xs)
all_drop P zero xs a = a
all_drop P (suc n) [] a = tt
all_drop P (suc n) (x ∷ xs) a = all_drop P n xs a.1

pub all_take : {A : Type 0} (P : A → Type 0) (n : ℕ) (xs : List A) → AllByRecursion P xs → AllByRecursion P (take n xs)
all_take P zero xs a = tt
all_take P (suc n) [] a = tt
all_take P (suc n) (x ∷ xs) a = (a.0, all_take P n xs a.1)

pub all_weaker : {A : Type 0} (P Q : A → Type 0) → ((x : A) → P x → Q x) → (xs : List A) → AllByRecursion P xs →
    AllByRecursion Q xs
all_weaker P Q each [] a = tt
all_weaker P Q each (x ∷ xs) a = (each x a.0, all_weaker P Q each xs a.1)

-- what changes no element of these
pub map_same : {A : Type 0} (P : A → Type 0) (f : A → A) → ((x : A) → P x → f x ≡ x) → (xs : List A) →
    AllByRecursion P xs → map f xs ≡ xs
map_same P f each [] a = refl
map_same P f each (x ∷ xs) a = λ i. each x a.0 i ∷ map_same P f each xs a.1 i

-- ---- a filter

pub filter_all : {A : Type 0} (p : A → Bool) (xs : List A) → AllByRecursion (λ x. p x ≡ true) xs → filter p xs ≡ xs
filter_all p [] a = refl
filter_all p (x ∷ xs) a = ap (λ b. cond b (x ∷ filter p xs) (filter p xs)) a.0 ∙ ap (λ ys. x ∷ ys) (filter_all p xs a.1)

pub filter_no : {A : Type 0} (p : A → Bool) (xs : List A) → AllByRecursion (λ x. p x ≡ false) xs → filter p xs ≡ []
filter_no p [] a = refl
filter_no p (x ∷ xs) a = ap (λ b. cond b (x ∷ filter p xs) (filter p xs)) a.0 ∙ filter_no p xs a.1

filter_cond : {A : Type 0} (p : A → Bool) (b : Bool) (x : A) (xs : List A) →
    filter p (cond b (x ∷ xs) xs) ≡ cond b (cond (p x) (x ∷ filter p xs) (filter p xs)) (filter p xs)
filter_cond p true x xs = refl
filter_cond p false x xs = refl

cond_swap : {A : Type 0} (a b : Bool) (x : A) (xs : List A) → cond b (cond a (x ∷ xs) xs) xs ≡ cond a (cond b (x ∷ xs) xs) xs
cond_swap true true x xs = refl
cond_swap true false x xs = refl
cond_swap false true x xs = refl
cond_swap false false x xs = refl

pub filter_swap : {A : Type 0} (p q : A → Bool) (xs : List A) → filter p (filter q xs) ≡ filter q (filter p xs)
filter_swap p q [] = refl
filter_swap p q (x ∷ xs) =
    filter_cond p (q x) x (filter q xs)
    ∙ ap (λ ys. cond (q x) (cond (p x) (x ∷ ys) ys) ys) (filter_swap p q xs)
    ∙ cond_swap (p x) (q x) x (filter q (filter p xs))
    ∙ sym (filter_cond q (p x) x (filter p xs))

pub filter_push : {A : Type 0} (p : A → Bool) (xs : List A) (x : A) → p x ≡ true → filter p (xs ++ x ∷ []) ≡ filter p xs ++ x ∷ []
filter_push p xs x is = filter-append p xs (x ∷ []) ∙ ap (λ b. filter p xs ++ cond b (x ∷ []) []) is

fewer_cond : {A : Type 0} (b : Bool) (x : A) (xs : List A) (n : ℕ) → length xs ≤ n → length (cond b (x ∷ xs) xs) ≤ suc n
fewer_cond true x xs n few = omega (arith, few)
fewer_cond false x xs n few = omega (arith, few)

pub filter_fewer : {A : Type 0} (p : A → Bool) (xs : List A) → length (filter p xs) ≤ length xs
filter_fewer p [] = omega arith
filter_fewer p (x ∷ xs) = fewer_cond (p x) x (filter p xs) (length xs) (filter_fewer p xs)

head_cond : {A : Type 0} (p : A → Bool) (b : Bool) (x y : A) (xs ys : List A) → p x ≡ b → (xs ≡ y ∷ ys → p y ≡ true) →
    cond b (x ∷ xs) xs ≡ y ∷ ys → p y ≡ true
head_cond p true x y xs ys is later e = let same : x ≡ y = cc in ap p (sym same) ∙ is
head_cond p false x y xs ys is later e = later e

-- what stands first in a filtered list passes
pub filter_head : {A : Type 0} (p : A → Bool) (xs : List A) (y : A) (ys : List A) → filter p xs ≡ y ∷ ys → p y ≡ true
filter_head p [] y ys e = absurd (cc)
filter_head p (x ∷ xs) y ys e = head_cond p (p x) x y (filter p xs) ys refl (filter_head p xs y ys) e

-- ---- a test of some element

or_first : (a b : Bool) → (a || b) ≡ false → a ≡ false
or_first false b e = refl
or_first true b e = absurd (cc)

or_second : (a b : Bool) → (a || b) ≡ false → b ≡ false
or_second false b e = e
or_second true b e = absurd (cc)

any_cond : {A : Type 0} (r : A → Bool) (b : Bool) (x : A) (xs : List A) → r x ≡ false → list_any r xs ≡ false →
    list_any r (cond b (x ∷ xs) xs) ≡ false
any_cond r true x xs here later = ap (λ c. c || list_any r xs) here ∙ later
any_cond r false x xs here later = later

-- where no element passes, none of fewer does
pub any_filter : {A : Type 0} (r p : A → Bool) (xs : List A) → list_any r xs ≡ false → list_any r (filter p xs) ≡ false
any_filter r p [] e = refl
any_filter r p (x ∷ xs) e = any_cond r (p x) x (filter p xs) (or_first (r x) _ e) (any_filter r p xs (or_second (r x) _ e))

pub any_map : {A B : Type 0} (r : B → Bool) (f : A → B) (xs : List A) → list_any r (map f xs) ≡ list_any (λ x. r (f x)) xs
any_map r f [] = refl
any_map r f (x ∷ xs) = ap (λ b. r (f x) || b) (any_map r f xs)

any_step : {A : Type 0} (b : Bool) (x : A) (xs : List A) → (b || not (is_empty xs)) ≡ not (is_empty (cond b (x ∷ xs) xs))
any_step true x xs = refl
any_step false x xs = refl

-- an element passes where the filter leaves one
pub any_left : {A : Type 0} (p : A → Bool) (xs : List A) → list_any p xs ≡ not (is_empty (filter p xs))
any_left p [] = refl
any_left p (x ∷ xs) = ap (λ b. p x || b) (any_left p xs) ∙ any_step (p x) x (filter p xs)

-- ---- sums and flat maps

sum_cond : {A : Type 0} (f : A → ℕ) (b : Bool) (x : A) (xs : List A) (n : ℕ) → sum_by f xs ≤ n →
    sum_by f (cond b (x ∷ xs) xs) ≤ f x + n
sum_cond f true x xs n few = omega (arith, few, sum_by-cons f x xs)
sum_cond f false x xs n few = omega (arith, few)

-- fewer elements have no greater sum
pub sum_filter : {A : Type 0} (f : A → ℕ) (p : A → Bool) (xs : List A) → sum_by f (filter p xs) ≤ sum_by f xs
sum_filter f p [] = omega arith
sum_filter f p (x ∷ xs) = let few = sum_cond f (p x) x (filter p xs) (sum_by f xs) (sum_filter f p xs) in
    omega (arith, few, sum_by-cons f x xs)

append_none : {A : Type 0} (xs ys : List A) → xs ++ ys ≡ [] → (xs ≡ []) × (ys ≡ [])
append_none [] ys e = (refl, e)
append_none (x ∷ xs) ys e = absurd (cc)

flat_cond : {A B : Type 0} (f : A → List B) (r : B → Bool) (b : Bool) (x : A) (xs : List A) → filter r (f x) ≡ [] →
    filter r (flat_map f xs) ≡ [] →
    filter r (flat_map f (cond b (x ∷ xs) xs)) ≡ []
flat_cond f r true x xs here later = filter-append r (f x) (flat_map f xs) ∙ (λ i. here i ++ later i)
flat_cond f r false x xs here later = later

-- where nothing passes of what the elements give, nothing does of what fewer elements give
pub flat_filter : {A B : Type 0} (f : A → List B) (r : B → Bool) (p : A → Bool) (xs : List A) → filter r (flat_map f xs) ≡ [] →
    filter r (flat_map f (filter p xs)) ≡ []
flat_filter f r p [] e = refl
flat_filter f r p (x ∷ xs) e =
    let parts = append_none (filter r (f x)) (filter r (flat_map f xs)) (sym (filter-append r (f x) (flat_map f xs)) ∙ e) in
    flat_cond f r (p x) x (filter p xs) parts.0 (flat_filter f r p xs parts.1)

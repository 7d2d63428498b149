-- Lists of printed words: they are read up to the word that stops, and each stands whole.
use Rattle.std.proofs.Common.{◌≡◌, ℕ, ◌≤◌, Bool, true, false, List, [], ◌∷◌, ◌++◌, length, Ok, refl, sym, ap, ◌∙◌, arith}
use Rattle.std.specs.Prelude.{map, not, ◌&&◌, ◌==◌}
use Rattle.std.specs.List.{list_all, AllByRecursion}
use Rattle.std.proofs.lemmas.Bool.{and_parts}
use Rattle.std.proofs.lemmas.List.{append-nil}
use Rattle.rl_value.specs.Order.{same_bytes}
use Rattle.line_fields.specs.Fields.{Said}
use Rattle.redo_lines.specs.Reading.{Line, items_until}
use Rattle.line_fields.specs.Words.{split, joined}
use Rattle.line_fields.proofs.Splitting.{closes, split-joined}

-- ---- facts of each element

pub each-append : {A : Type 0} (P : A → Type 0) (xs ys : List A) → AllByRecursion P xs → AllByRecursion P ys →
    AllByRecursion P (xs ++ ys)
each-append P [] ys p q = q
each-append P (x ∷ xs) ys p q = (p.0, each-append P xs ys p.1 q)

pub each-map : {A B : Type 0} (P : A → Type 0) (Q : B → Type 0) (f : A → B) → ((x : A) → P x → Q (f x)) → (xs : List A) →
    AllByRecursion P xs → AllByRecursion Q (map f xs)
each-map P Q f h [] p = tt
each-map P Q f h (x ∷ xs) p = (h x p.0, each-map P Q f h xs p.1)

pub each-then : {A : Type 0} (P Q : A → Type 0) → ((x : A) → P x → Q x) → (xs : List A) → AllByRecursion P xs →
    AllByRecursion Q xs
each-then P Q h [] p = tt
each-then P Q h (x ∷ xs) p = (h x p.0, each-then P Q h xs p.1)

pub each-both : {A : Type 0} (P Q : A → Type 0) → (xs : List A) → AllByRecursion P xs → AllByRecursion Q xs →
    AllByRecursion (λ x. P x × Q x) xs
each-both P Q [] p q = tt
each-both P Q (x ∷ xs) p q = ((p.0, q.0), each-both P Q xs p.1 q.1)

-- ---- items up to a word that stops

-- an item that is printed as a word is read from it, and the word does not stop
pub record IsRead {A : Type 0} (stops : List ℕ → Bool) (item : List ℕ → Said A) (word : A → List ℕ) (x : A) : Type 0 where
  pub goes : stops (word x) ≡ false
  pub read : item (word x) ≡ Ok x

pub items_printed : {A : Type 0} (stops : List ℕ → Bool) (item : List ℕ → Said A) (word : A →
    List ℕ) (xs : List A) (rest : Line) →
    AllByRecursion (IsRead stops item word) xs → items_until stops item rest ≡ Ok ([], rest) →
    items_until stops item (map word xs ++ rest) ≡ Ok (xs, rest)
items_printed stops item word [] rest each stop = stop
items_printed stops item word (x ∷ xs) rest each stop =
    rw (each.0.goes, each.0.read, items_printed stops item word xs rest each.1 stop) refl

-- up to the end
pub all_printed : {A : Type 0} (stops : List ℕ → Bool) (item : List ℕ → Said A) (word : A → List ℕ) (xs : List A) →
    AllByRecursion (IsRead stops item word) xs → items_until stops item (map word xs) ≡ Ok (xs, [])
all_printed stops item word xs each =
    ap (items_until stops item) (sym (append-nil (map word xs))) ∙ items_printed stops item word xs [] each refl

-- ---- words of a line

pub split-all : (between : ℕ) (words : List (List ℕ)) → 1 ≤ length words →
    AllByRecursion (λ w. closes between false w ≡ true) words → split between (joined between words) ≡ words
split-all between [] some each = absurd (omega arith)
split-all between (w ∷ ws) some each = split-joined between w ws each.0 each.1

-- ---- keywords

ends_false : (a b : Bool) → b ≡ false → (a && b) ≡ false
ends_false true b e = e
ends_false false b e = refl

not_true : (a : Bool) → not a ≡ true → a ≡ false
not_true true e = cc
not_true false e = refl

-- bytes with one among them that the keyword has not
pub no_keyword : (k : ℕ) (front rest keyword : List ℕ) → list_all (λ b. not (k == b)) keyword ≡ true →
    same_bytes (front ++ k ∷ rest) keyword ≡ false
no_keyword k [] rest [] e = refl
no_keyword k [] rest (b ∷ keyword) e =
    let other : (k == b) ≡ false = not_true _ (and_parts _ _ e).0 in rw other refl
no_keyword k (c ∷ front) rest [] e = refl
no_keyword k (c ∷ front) rest (b ∷ keyword) e =
    ends_false (c == b) _ (no_keyword k front rest keyword (and_parts _ _ e).1)

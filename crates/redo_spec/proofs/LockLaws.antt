-- What follows from a change that no other open transaction keeps out.
use Rattle.std.proofs.Common.{◌≡◌, List, [], ◌∷◌, filter, refl, Bool, true, false, cond, not, ◌&&◌, Option, Some, None}
use Rattle.std.specs.List.{AllByRecursion, list_any}
use Rattle.std.specs.Option.{option_map}
use Rattle.std.specs.Ordering.{eq_by_cmp}
use Rattle.rl_value.specs.declared.key.Key.{Key}
use Rattle.rl_value.specs.declared.xid.Xid.{Xid}
use Rattle.rl_value.specs.Order.{key_cmp}
use Rattle.redo_vec.specs.declared.change.Change.{Change}
use Rattle.redo_spec.specs.History.{same_xid}
use Rattle.redo_spec.specs.ConflictKeys.{conflict_keys}
use Rattle.redo_spec.specs.Standing.{Standing}
use Rattle.redo_spec.specs.Locks.{held_keys, least, contended, lock_fault}

pub least_none : (ks : List (Key × Xid)) → least ks ≡ None → ks ≡ []
least_none [] e = refl
least_none (k ∷ ks) e = absurd (cc)

filter_case : {A : Type 0} (p : A → Bool) (x : A) (xs : List A) (b : Bool) → p x ≡ b →
    cond b (x ∷ filter p xs) (filter p xs) ≡ [] →
    (filter p xs ≡ [] → AllByRecursion (λ y. p y ≡ false) xs) → (p x ≡ false) × AllByRecursion (λ y. p y ≡ false) xs
filter_case p x xs true is none later = absurd (cc)
filter_case p x xs false is none later = (is, later none)

filter_none : {A : Type 0} (p : A → Bool) (xs : List A) → filter p xs ≡ [] → AllByRecursion (λ x. p x ≡ false) xs
filter_none p [] e = tt
filter_none p (x ∷ xs) e = filter_case p x xs (p x) refl e (filter_none p xs)

pub option_map_none : {A B : Type 0} (f : A → B) (o : Option A) → option_map f o ≡ None → o ≡ None
option_map_none f None e = refl
option_map_none f (Some x) e = absurd (cc)

-- a key that another open transaction holds is none that the change touches
pub not_held : (s : Standing) (c : Change) → lock_fault s c ≡ None →
    AllByRecursion (λ h. (not (same_xid h.1 c.xid) && list_any (eq_by_cmp key_cmp h.0) (conflict_keys s.dictionary.tables c)) ≡
    false) (held_keys s.active)
not_held s c e =
    filter_none (λ h. not (same_xid h.1 c.xid) && list_any (eq_by_cmp key_cmp h.0) (conflict_keys s.dictionary.tables c))
    (held_keys s.active)
    (least_none (contended s c) (option_map_none _ (least (contended s c)) e))

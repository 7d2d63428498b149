-- What a write makes of a list of parts: its entries, and that it stays sound.
use Rattle.std.proofs.Common.{◌≡◌, ℕ, ◌+◌, ◌<◌, List, [], ◌∷◌, ◌++◌, length, get_or, slice_set, suc, append_assoc, append-nil, take, drop, refl, sym, ap, ◌∙◌, Bool, true, false, not, subst, Option, IfSome, T, Result, Ok, Err, OnOk, arith, take-append-drop, length-take, length-drop}
use Rattle.std.proofs.Math.Seq.{take-suc-set, take-length, drop-length}
use Rattle.std.proofs.lemmas.List.{length-set, drop-set-lt}
use Rattle.std.specs.Ordering.{eq_by_cmp}
use Rattle.std.specs.FinMap.Entries as entries
use Rattle.std.specs.List.{flat_map, AllByRecursion, remove}
use Rattle.rl_value.specs.declared.value.Value.{Value}
use Rattle.rl_value.specs.Order.{row_cmp, row_total}
use Rattle.row_tree.specs.Entries.{Entries, without, and_more, option_list}
use Rattle.row_tree.specs.Sound.{AreSound, IsPlace}
use Rattle.row_tree.proofs.Placing.{flat_append, put_at, without_at, removed_take, removed_drop, all_append, all_take, all_drop, all_option, sorted_left, sorted_right}

is_true : (b : Bool) → T b → b ≡ true
is_true true h = refl
is_true false h = absurd h

holds : (b : Bool) → b ≡ true → T b
holds b e = subst T (sym e) tt

pub on_ok : {A E : Type 0} {P Q : Type 0} (r : Result A E) → OnOk r P → (P → Q) → OnOk r Q
on_ok (Ok x) p h = h p
on_ok (Err e) p h = tt

some_in : {K : Type 0} (xs : List K) (y : K) (zs : List K) → 0 < length (xs ++ y ∷ zs)
some_in [] y zs = omega arith
some_in (x ∷ xs) y zs = omega arith

-- a list that is written through a slice of all of it has the slice's elements
pub written_back : {K : Type 0} (items slice : List K) (size at : ℕ) (y : K) → slice ≡ items → length slice ≡ size →
    take size (slice_set slice at y ++ drop (length (slice_set slice at y)) items) ≡ slice_set items at y
written_back items slice size at y same count =
    let kept : length (slice_set slice at y) ≡ length items = length-set slice at y ∙ ap length same in
    let none : drop (length (slice_set slice at y)) items ≡ [] = ap (λ n. drop n items) kept ∙ drop-length items in
    ap (λ ks. take size (slice_set slice at y ++ ks)) none ∙ ap (take size) (append-nil (slice_set slice at y)) ∙
    ap (λ n. take n (slice_set slice at y)) (sym count ∙ sym (length-set slice at y)) ∙ take-length (slice_set slice at y) ∙
    ap (λ ks. slice_set ks at y) same

module _ {K : Type 0} (f : K → Entries) (S : K → Type 0) where
  -- the parts after one was written in its place, and another one came behind it, if one did
  written_parts : (children : List K) (at : ℕ) (y : K) (more : Option K) (written new : List K) → at < length children
      → written ≡ slice_set children at y → new ≡ take (at + 1) written ++ (option_list more ++ drop (at + 1) written)
      → new ≡ take at children ++ y ∷ (option_list more ++ drop (at + 1) children)
  written_parts children at y more written new l is e =
      let next : at + 1 ≡ suc at = omega arith in
      let front : take (at + 1) (slice_set children at y) ≡ take at children ++ y ∷ [] =
      ap (λ n. take n (slice_set children at y)) next ∙ take-suc-set children at y l in
      let end : drop (at + 1) (slice_set children at y) ≡ drop (at + 1) children =
      drop-set-lt (at + 1) children at y (omega arith) in
      e ∙ ap (λ ks. take (at + 1) ks ++ (option_list more ++ drop (at + 1) ks)) is
      ∙ (λ i. front i ++ (option_list more ++ end i))
      ∙ append_assoc (take at children) (y ∷ []) (option_list more ++ drop (at + 1) children)

  pub put_in : (k v : List Value) (children : List K) (at : ℕ) (x y : K) (more : Option K) (written new : List K)
      → AreSound f S children → at < length children → x ≡ get_or children at x → IsPlace f k children at
      → written ≡ slice_set children at y
      → f y ++ and_more f more ≡ entries.put row_cmp k v (f x) → S y → IfSome more S
      → new ≡ take (at + 1) written ++ (option_list more ++ drop (at + 1) written)
      → (flat_map f new ≡ entries.put row_cmp k v (flat_map f children)) × AreSound f S new
  put_in k v children at x y more written new sound l e p wrote is one two e2 =
      let parts = written_parts children at y more written new l wrote e2 in
      let same : flat_map f new ≡ entries.put row_cmp k v (flat_map f children) = ap (flat_map f) parts ∙
      put_at f k v children at x y more l e p is in (
        same,
        record {
          rising = ap (entries.is_sorted row_cmp) same ∙
              is_true _ (entries.is_sorted-put row_cmp row_total k v (flat_map f children) (holds _ sound.rising));
          each = subst (AllByRecursion S) (sym parts)
              (all_append S (take at children) _ (all_take S at children sound.each)
              (one, all_append S (option_list more) _ (all_option S more two) (all_drop S (at + 1) children sound.each)));
          some = subst (λ ks. 0 < length ks) (sym parts) (some_in (take at children) y _);
        },
      )

  pub removed_in : (k : List Value) (children : List K) (at : ℕ) (x : K) (left : Option K) (removed new : List K)
      → AreSound f S children → at < length children → x ≡ get_or children at x → IsPlace f k children at → removed ≡
      remove children at
      → and_more f left ≡ without k (f x) → IfSome left S
      → new ≡ take at removed ++ (option_list left ++ drop at removed)
      → (flat_map f new ≡ without k (flat_map f children)) × (0 < length new → AreSound f S new)
  removed_in k children at x left removed new sound l e p gone is two e2 =
      let parts : new ≡ take at children ++ (option_list left ++ drop (at + 1) children) =
      e2 ∙ ap (λ ks. take at ks ++ (option_list left ++ drop at ks)) gone
      ∙ ap (λ ks. ks ++ (option_list left ++ drop at (remove children at))) (removed_take f children at l)
      ∙ ap (λ ks. take at children ++ (option_list left ++ ks)) (removed_drop f children at l) in
      let same : flat_map f new ≡ without k (flat_map f children) = ap (flat_map f) parts ∙
      without_at f k children at x left l e p is in (
        same,
        λ some. record {
          rising = ap (entries.is_sorted row_cmp) same ∙
              is_true _ (entries.is_sorted-where_key row_cmp (λ q. not (eq_by_cmp row_cmp k q)) (flat_map f children)
              (holds _ sound.rising));
          each = subst (AllByRecursion S) (sym parts)
              (all_append S (take at children) _ (all_take S at children sound.each)
              (all_append S (option_list left) _ (all_option S left two) (all_drop S (at + 1) children sound.each)));
          some = some;
        },
      )

  halves : (n : ℕ) (children : List K) → flat_map f (take n children) ++ flat_map f (drop n children) ≡ flat_map f children
  halves n children = sym (flat_append f (take n children) (drop n children)) ∙ ap (flat_map f) (take-append-drop n children)

  pub sound_take : (n : ℕ) (children : List K) → 0 < n → n < length children → AreSound f S children →
      AreSound f S (take n children)
  sound_take n children p l s = record {
    rising = sorted_left (flat_map f (take n children)) (flat_map f (drop n children))
        (ap (entries.is_sorted row_cmp) (halves n children) ∙ s.rising);
    each = all_take S n children s.each;
    some = subst (λ m. 0 < m) (sym (length-take n children)) (omega arith);
  }

  pub sound_drop : (n : ℕ) (children : List K) → n < length children → AreSound f S children → AreSound f S (drop n children)
  sound_drop n children l s = record {
    rising = sorted_right (flat_map f (take n children)) (flat_map f (drop n children))
        (ap (entries.is_sorted row_cmp) (halves n children) ∙ s.rising);
    each = all_drop S n children s.each;
    some = subst (λ m. 0 < m) (sym (length-drop n children)) (omega arith);
  }

  pub cut_in : (n : ℕ) (children first last : List K) → 0 < n → n < length children → AreSound f S children → first ≡
      take n children → last ≡ drop n children → AreSound f S first × AreSound f S last
  cut_in n children first last p l s a b = (
    subst (AreSound f S) (sym a) (sound_take n children p l s),
    subst (AreSound f S) (sym b) (sound_drop n children l s),
  )

-- Areas of one key: what is applied, and the mark. A pair behind the first is a bad one.
use Rattle.std.proofs.Common.{◌≡◌, ℕ, ◌^◌, ◌<◌, List, [], ◌∷◌, length, drop, Bool, true, false, refl, sym, ap, ◌∙◌, subst, Option, Some, None, Ok, Err, Result}
use Rattle.std.specs.Prelude.{◌&&◌, ◌||◌, ◌==◌, nat_lt, if◌then◌else◌, IsTrue}
use Rattle.std.specs.Int.{w64}
use Rattle.rl_value.specs.Order.{same_bytes}
use Rattle.rl_value.specs.Outcome.{◌>>=◌, or_err}
use Rattle.rl_ports.specs.declared.batch.Pair.{Pair}
use Rattle.rl_ports.specs.Faults.{Told}
use Rattle.rl_ports.specs.Store.{Store, is_store}
use Rattle.redo_vec.specs.Cutting.{number_in}
use Rattle.redo_vec.specs.Ranges.{AreBytes}
use Rattle.log_registry.specs.declared.entry.LogEntry.{LogEntry}
use Rattle.standby_spec.specs.declared.mark.Mark.{Mark}
use Rattle.standby_spec.specs.HasLayout.{IsMark}
use Rattle.standby_spec.specs.Layout.{applied_key, mark_key}
use Rattle.standby_spec.specs.Loading.{StorePlace, KeyValue, Applied, of_area, has_key, read_area, when_true, byte_in, applied_step, applied_in, mark_in, is_mark_in, mark_step, marks_in}
use Rattle.redo_spec.proofs.FieldLaws.{bytes_fit, drop_fits, below32, below64}
use Rattle.standby_spec.proofs.SpellLaws.{when-given}
use Rattle.standby_spec.proofs.StoreLaws.{and-left, and-right, bytes_is}
use Rattle.checkpoint.specs.Areas.{is_above, pairs_above, IsNext}
use Rattle.checkpoint.proofs.Numbers.{lt_of}
use Rattle.checkpoint.proofs.Walking.{not_itself, all_first}

-- ---- one pair or two

one_refused : {A : Type 0} (a : ℕ) (step : A → KeyValue → Option A) (first : A) (p : KeyValue) (ps rest : List KeyValue) →
    ps ≡ p ∷ rest → step first p ≡ None → read_area a step first ps ≡ Err (a, p.0)
one_refused a step first p ps rest is refused =
    ap (read_area a step first) is ∙ ap (λ o. or_err o (a, p.0) >>= λ x. read_area a step x rest) refused

one_taken : {A : Type 0} (a : ℕ) (step : A → KeyValue → Option A) (first x : A) (p : KeyValue) (ps : List KeyValue) →
    ps ≡ p ∷ [] → step first p ≡ Some x → read_area a step first ps ≡ Ok x
one_taken a step first x p ps is taken =
    ap (read_area a step first) is ∙ ap (λ o. or_err o (a, p.0) >>= λ y. read_area a step y []) taken

two_refused : {A : Type 0} (a : ℕ) (step : A → KeyValue → Option A) (first x : A) (p q : KeyValue) (ps rest : List KeyValue) →
    ps ≡ p ∷ q ∷ rest → step first p ≡ Some x → step x q ≡ None → read_area a step first ps ≡ Err (a, q.0)
two_refused a step first x p q ps rest is taken refused =
    ap (read_area a step first) is
    ∙ ap (λ o. or_err o (a, p.0) >>= λ y. read_area a step y (q ∷ rest)) taken
    ∙ ap (λ o. or_err o (a, q.0) >>= λ y. read_area a step y rest) refused

-- a key above one is another one
other_at : (named key other : List ℕ) → same_bytes key named ≡ true → is_above key other ≡ true → (b : Bool) →
    same_bytes other named ≡ b → b ≡ false
other_at named key other is up true same =
    let one : other ≡ key = bytes_is other named same ∙ sym (bytes_is key named is) in
    let up_itself : is_above key key ≡ true = ap (is_above key) (sym one) ∙ up in
    let itself : is_above key key ≡ false = not_itself key in
    absurd (cc)
other_at named key other is up false same = refl

other_key : (named key other : List ℕ) → same_bytes key named ≡ true → is_above key other ≡ true → same_bytes other named ≡ false
other_key named key other is up = other_at named key other is up (same_bytes other named) refl

-- the pairs of an area, the first of which is known
first_is : (a : ℕ) (s : Store) (p : Pair) → is_store s ≡ true → IsNext (of_area a s) [] (Some p) →
    of_area a s ≡ (p.key, p.value) ∷ pairs_above p.key (of_area a s)
first_is a s p store next = sym (all_first a s store) ∙ next

none_is : (a : ℕ) (s : Store) → is_store s ≡ true → IsNext (of_area a s) [] None → of_area a s ≡ []
none_is a s store next = sym (all_first a s store) ∙ next

-- ---- what is applied

applied_named : (so_far x : Applied) (key value : List ℕ) → applied_step so_far (key, value) ≡ Some x →
    same_bytes key applied_key ≡ true
applied_named so_far x key value e =
    let a = when-given (same_bytes key applied_key && (length value == 16) && nat_lt (number_in w64 0 value) (2 ^ 62))
    (number_in w64 0 value, number_in w64 8 value) x e in
    and-left (same_bytes key applied_key) (length value == 16)
    (and-left (same_bytes key applied_key && (length value == 16)) (nat_lt (number_in w64 0 value) (2 ^ 62)) a.0)

pub applied_few : (so_far x : Applied) (key value : List ℕ) → applied_step so_far (key, value) ≡ Some x → x.0 < 2 ^ 62
applied_few so_far x key value e =
    let a = when-given (same_bytes key applied_key && (length value == 16) && nat_lt (number_in w64 0 value) (2 ^ 62))
    (number_in w64 0 value, number_in w64 8 value) x e in
    let test : nat_lt (number_in w64 0 value) (2 ^ 62) ≡ true =
    and-right (same_bytes key applied_key && (length value == 16)) (nat_lt (number_in w64 0 value) (2 ^ 62)) a.0 in
    subst (λ (y : Applied). y.0 < 2 ^ 62) a.1 (lt_of (number_in w64 0 value) (2 ^ 62) test)

applied_other : (so_far : Applied) (key : List ℕ) (q : KeyValue) → same_bytes key applied_key ≡ true → is_above key q.0 ≡ true →
    applied_step so_far q ≡ None
applied_other so_far key (other, value) is up =
    ap (λ b. when_true (b && (length value == 16) && nat_lt (number_in w64 0 value) (2 ^ 62))
    (number_in w64 0 value, number_in w64 8 value)) (other_key applied_key key other is up)

abbrev applied_if : Bool → List KeyValue → Result Applied StorePlace
applied_if b ps = if b then read_area 6 applied_step (0, 0) ps else Err (6, [])

has_first : (named : List ℕ) (p : KeyValue) (ps rest : List KeyValue) → ps ≡ p ∷ rest → same_bytes p.0 named ≡ true →
    has_key named ps ≡ true
has_first named p ps rest is same = ap (has_key named) is ∙ ap (λ b. b || has_key named rest) same

-- where it is not there, the key of no bytes is told
pub applied_none : (known : Option Store) (key : List ℕ) → key ≡ [] → Told known (λ s. IsTrue (is_store s)) →
    Told known (λ s. IsNext (of_area 6 s) [] None) →
    Told known (λ s. applied_in s ≡ Err (6, key))
applied_none None key empty store next = tt
applied_none (Some s) key empty store next =
    ap (λ ps. applied_if (has_key applied_key ps) ps) (none_is 6 s store next) ∙ ap (λ k. Err (6, k)) (sym empty)

pub applied_one : (known : Option Store) (p : Pair) (x : Applied) → Told known (λ s. IsTrue (is_store s)) →
    Told known (λ s. IsNext (of_area 6 s) [] (Some p)) → applied_step (0, 0) (p.key, p.value) ≡ Some x →
    Told known (λ s. IsNext (of_area 6 s) p.key None) → Told known (λ s. applied_in s ≡ Ok x)
applied_one None p x store next taken behind = tt
applied_one (Some s) p x store next taken behind =
    let ps = of_area 6 s in
    let is : ps ≡ (p.key, p.value) ∷ [] = first_is 6 s p store next ∙ ap (λ qs. (p.key, p.value) ∷ qs) behind in
    ap (λ b. applied_if b ps) (has_first applied_key (p.key, p.value) ps [] is (applied_named (0, 0) x p.key p.value taken))
    ∙ one_taken 6 applied_step (0, 0) x (p.key, p.value) ps is taken

pub applied_two : (known : Option Store) (p q : Pair) (x : Applied) → Told known (λ s. IsTrue (is_store s)) →
    Told known (λ s. IsNext (of_area 6 s) [] (Some p)) → applied_step (0, 0) (p.key, p.value) ≡ Some x →
    Told known (λ s. IsNext (of_area 6 s) p.key (Some q)) → is_above p.key q.key ≡ true →
    Told known (λ s. applied_in s ≡ Err (6, q.key))
applied_two None p q x store next taken behind up = tt
applied_two (Some s) p q x store next taken behind up =
    let ps = of_area 6 s in
    let rest = pairs_above q.key ps in
    let is : ps ≡ (p.key, p.value) ∷ (q.key, q.value) ∷ rest = first_is 6 s p store next
    ∙ ap (λ qs. (p.key, p.value) ∷ qs) behind in
    let named = applied_named (0, 0) x p.key p.value taken in
    ap (λ b. applied_if b ps) (has_first applied_key (p.key, p.value) ps ((q.key, q.value) ∷ rest) is named)
    ∙ two_refused 6 applied_step (0, 0) x (p.key, p.value) (q.key, q.value) ps rest is taken
    (applied_other x p.key (q.key, q.value) named up)

pub applied_bad : (known : Option Store) (p : Pair) → Told known (λ s. IsTrue (is_store s)) →
    Told known (λ s. IsNext (of_area 6 s) [] (Some p)) → applied_step (0, 0) (p.key, p.value) ≡ None →
    Told known (λ s. true ≡ has_key applied_key (of_area 6 s)) → Told known (λ s. applied_in s ≡ Err (6, p.key))
applied_bad None p store next refused there = tt
applied_bad (Some s) p store next refused there =
    let ps = of_area 6 s in
    ap (λ b. applied_if b ps) (sym there)
    ∙ one_refused 6 applied_step (0, 0) (p.key, p.value) ps (pairs_above p.key ps) (first_is 6 s p store next) refused

pub applied_missing : (known : Option Store) (key : List ℕ) → key ≡ [] →
    Told known (λ s. false ≡ has_key applied_key (of_area 6 s)) → Told known (λ s. applied_in s ≡ Err (6, key))
applied_missing None key empty none = tt
applied_missing (Some s) key empty none = ap (λ b. applied_if b (of_area 6 s)) (sym none) ∙ ap (λ k. Err (6, k)) (sym empty)

-- ---- the mark

mark_passed : (logs : List LogEntry) (n : ℕ) (so_far x : Option Mark) (key value : List ℕ) →
    mark_step logs n so_far (key, value) ≡ Some x →
    (same_bytes key mark_key ≡ true) × ((is_mark_in logs n (mark_in n value) ≡ true) × (Some (mark_in n value) ≡ x))
mark_passed logs n so_far x key value e =
    let a = when-given (same_bytes key mark_key && (length value == 65) && (byte_in 0 value == 1) &&
    is_mark_in logs n (mark_in n value)) (Some (mark_in n value)) x e in
    let three = and-left (same_bytes key mark_key && (length value == 65) && (byte_in 0 value == 1))
    (is_mark_in logs n (mark_in n value)) a.0 in
    let placed = and-right (same_bytes key mark_key && (length value == 65) && (byte_in 0 value == 1))
    (is_mark_in logs n (mark_in n value)) a.0 in
    let two = and-left (same_bytes key mark_key && (length value == 65)) (byte_in 0 value == 1) three in
    (and-left (same_bytes key mark_key) (length value == 65) two, (placed, a.1))

mark_other : (logs : List LogEntry) (n : ℕ) (so_far : Option Mark) (key : List ℕ) (q : KeyValue) →
    same_bytes key mark_key ≡ true → is_above key q.0 ≡ true → mark_step logs n so_far q ≡ None
mark_other logs n so_far key (other, value) is up =
    ap (λ b. when_true (b && (length value == 65) && (byte_in 0 value == 1) && is_mark_in logs n (mark_in n value))
    (Some (mark_in n value))) (other_key mark_key key other is up)

mark_fits : (n : ℕ) (value : List ℕ) → AreBytes value → IsMark (mark_in n value)
mark_fits n value f =
    let fits = bytes_fit value f in
    record {
      seq = below32 (drop 25 value) (drop_fits 25 value fits);
      done = below32 (drop 37 value) (drop_fits 37 value fits);
      rec = refl;
      q_scn = below64 (drop 41 value) (drop_fits 41 value fits);
      m_scn = below64 (drop 49 value) (drop_fits 49 value fits);
      commit_scn = below64 (drop 57 value) (drop_fits 57 value fits);
    }

-- a mark that is taken fits its fields, and lies in its log
pub mark_is : (logs : List LogEntry) (n : ℕ) (k : Mark) (key value : List ℕ) → AreBytes value →
    mark_step logs n None (key, value) ≡ Some (Some k) → IsMark k × IsTrue (is_mark_in logs n k)
mark_is logs n k key value f e =
    let a = mark_passed logs n None (Some k) key value e in
    let given : Some (mark_in n value) ≡ Some k = a.1.1 in
    let same : mark_in n value ≡ k = cc in
    subst (λ (x : Mark). IsMark x × IsTrue (is_mark_in logs n x)) same (mark_fits n value f, a.1.0)

pub mark_none : (known : Option Store) (logs : List LogEntry) (n : ℕ) → Told known (λ s. IsTrue (is_store s)) →
    Told known (λ s. IsNext (of_area 7 s) [] None) → Told known (λ s. marks_in logs n s ≡ Ok None)
mark_none None logs n store next = tt
mark_none (Some s) logs n store next = ap (read_area 7 (mark_step logs n) None) (none_is 7 s store next)

pub mark_one : (known : Option Store) (logs : List LogEntry) (n : ℕ) (p : Pair) (x : Option Mark) →
    Told known (λ s. IsTrue (is_store s)) → Told known (λ s. IsNext (of_area 7 s) [] (Some p)) →
    mark_step logs n None (p.key, p.value) ≡ Some x → Told known (λ s. IsNext (of_area 7 s) p.key None) →
    Told known (λ s. marks_in logs n s ≡ Ok x)
mark_one None logs n p x store next taken behind = tt
mark_one (Some s) logs n p x store next taken behind =
    one_taken 7 (mark_step logs n) None x (p.key, p.value) (of_area 7 s)
    (first_is 7 s p store next ∙ ap (λ qs. (p.key, p.value) ∷ qs) behind) taken

pub mark_two : (known : Option Store) (logs : List LogEntry) (n : ℕ) (p q : Pair) (x : Option Mark) →
    Told known (λ s. IsTrue (is_store s)) → Told known (λ s. IsNext (of_area 7 s) [] (Some p)) →
    mark_step logs n None (p.key, p.value) ≡ Some x → Told known (λ s. IsNext (of_area 7 s) p.key (Some q)) →
    is_above p.key q.key ≡ true → Told known (λ s. marks_in logs n s ≡ Err (7, q.key))
mark_two None logs n p q x store next taken behind up = tt
mark_two (Some s) logs n p q x store next taken behind up =
    two_refused 7 (mark_step logs n) None x (p.key, p.value) (q.key, q.value) (of_area 7 s) (pairs_above q.key (of_area 7 s))
    (first_is 7 s p store next ∙ ap (λ qs. (p.key, p.value) ∷ qs) behind) taken
    (mark_other logs n x p.key (q.key, q.value) (mark_passed logs n None x p.key p.value taken).0 up)

pub mark_bad : (known : Option Store) (logs : List LogEntry) (n : ℕ) (p : Pair) → Told known (λ s. IsTrue (is_store s)) →
    Told known (λ s. IsNext (of_area 7 s) [] (Some p)) → mark_step logs n None (p.key, p.value) ≡ None →
    Told known (λ s. marks_in logs n s ≡ Err (7, p.key))
mark_bad None logs n p store next refused = tt
mark_bad (Some s) logs n p store next refused =
    one_refused 7 (mark_step logs n) None (p.key, p.value) (of_area 7 s) (pairs_above p.key (of_area 7 s))
    (first_is 7 s p store next)
    refused

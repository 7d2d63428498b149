-- The map of the registered logs, as the list of its values.
use Rattle.std.proofs.Common.{◌≡◌, ℕ, ◌<◌, ◌≤◌, ◌+◌, ◌-◌, ◌^◌, List, [], ◌∷◌, Bool, true, false, cond, Option, None, Some, is_some, refl, sym, ap, ◌∙◌, arith, subst}
use Rattle.std.specs.Prelude.{◌==◌, nat_lt, ◌&&◌, not}
use Rattle.std.specs.declared.cmp.Ordering.{Ordering}
use Rattle.std.specs.declared.cmp.Ordering.TheVariants.{Less, Equal, Greater}
use Rattle.std.specs.Ordering.{nat_cmp, match_ordering, is_le}
use Rattle.std.specs.Cmp.{ranked, unsigned_tied}
use Rattle.std.specs.List.{AllByRecursion}
use Rattle.std.specs.List.Sorted.{IsStrictlySortedBy}
use Rattle.std.specs.Map.{lookup, keys_of, values_of}
use Rattle.std.specs.BTreeMap.{insert_entry, is_at}
use Rattle.std.specs.BTreeMap.Range.{entries_between, range_contains}
use Rattle.std.specs.declared.ops.Bound.TheVariants.{Included, Unbounded}
use Rattle.std.proofs.lemmas.Bool.Decides.{nat_tests}
use Rattle.log_registry.specs.declared.entry.LogEntry.{LogEntry}
use Rattle.log_registry.specs.Keyed.{AreUnderSequences, IsUnderSequence}
use Rattle.log_registry.specs.Registered.{entry_of, entries_from, with_log, count_of, IsToldBy, AreToldBy, RiseFrom, IsRising, AreBelow, next_in, Log, Gap}

turned : (a b : ℕ) → (a == b) ≡ (b == a)
turned a b = grind (arith, nat_tests)

same_key : (seq key : ℕ) (e : LogEntry) → key ≡ e.head.seq → is_at (nat_cmp seq) key ≡ (e.head.seq == seq)
same_key seq key e is = unsigned_tied seq key ∙ turned seq key ∙ ap (λ (n : ℕ). n == seq) is

-- a look-up finds the entry of the sequence
pub lookup-entry_of : (seq : ℕ) (ps : List (ℕ × LogEntry)) → AreUnderSequences ps →
    lookup (is_at (nat_cmp seq)) ps ≡ entry_of seq (values_of ps)
lookup-entry_of seq [] k = refl
lookup-entry_of seq (p ∷ ps) k =
    ap (λ (b : Bool). cond b (Some p.1) (lookup (is_at (nat_cmp seq)) ps)) (same_key seq p.0 p.1 k.0.same)
    ∙ ap (λ (o : Option LogEntry). cond (p.1.head.seq == seq) (Some p.1) o) (lookup-entry_of seq ps k.1)

pub none_there : {X : Type 0} (o : Option X) → is_some o ≡ false → o ≡ None
none_there None e = refl
none_there (Some x) e = absurd (cc)

-- ---- an insert

abbrev Puts : LogEntry → List (ℕ × LogEntry) → List (ℕ × LogEntry) → Type 0
Puts e before after = AreUnderSequences after × (values_of after ≡ with_log e (values_of before))

absent_head : (b : Bool) (e : LogEntry) (o : Option LogEntry) → cond b (Some e) o ≡ None → (b ≡ false) × (o ≡ None)
absent_head true e o is = absurd (cc)
absent_head false e o is = (refl, is)

puts_at : (o : Ordering) (e : LogEntry) (p : ℕ × LogEntry) (ps rest : List (ℕ × LogEntry)) → e.head.seq < 2 ^ 32 →
    o ≡ nat_cmp e.head.seq p.0 → AreUnderSequences (p ∷ ps) → (p.1.head.seq == e.head.seq) ≡ false → Puts e ps rest →
    Puts e (p ∷ ps) (match_ordering o ((e.head.seq, e) ∷ p ∷ ps) ((p.0, e) ∷ ps) (p ∷ rest))
puts_at Less e p ps rest fits is k other later =
    let below : e.head.seq < p.0 = ranked e.head.seq p.0 Less is in
    let key = k.0.same in
    let before : nat_lt e.head.seq p.1.head.seq ≡ true = grind (arith, nat_tests, below, key) in (
      (record { same = refl; fits = fits }, k),
      sym (ap (λ (b : Bool). cond b (e ∷ p.1 ∷ values_of ps)
          (p.1 ∷ with_log e (values_of ps))) before),
    )
puts_at Equal e p ps rest fits is k other later =
    let same : e.head.seq ≡ p.0 = ranked e.head.seq p.0 Equal is in
    let key = k.0.same in
    let equal : (p.1.head.seq == e.head.seq) ≡ true = grind (arith, nat_tests, same, key) in
    absurd (cc)
puts_at Greater e p ps rest fits is k other later =
    let above : p.0 < e.head.seq = ranked e.head.seq p.0 Greater is in
    let key = k.0.same in
    let behind : nat_lt e.head.seq p.1.head.seq ≡ false = grind (arith, nat_tests, above, key) in (
      (k.0, later.0),
      ap (λ (es : List LogEntry). p.1 ∷ es) later.1 ∙
          sym (ap (λ (b : Bool). cond b (e ∷ p.1 ∷ values_of ps) (p.1 ∷ with_log e (values_of ps))) behind),
    )

pub insert_puts : (e : LogEntry) (ps : List (ℕ × LogEntry)) → e.head.seq < 2 ^ 32 → AreUnderSequences ps →
    entry_of e.head.seq (values_of ps) ≡ None →
    Puts e ps (insert_entry nat_cmp ps e.head.seq e)
insert_puts e [] fits k absent = ((record { same = refl; fits = fits }, tt), refl)
insert_puts e (p ∷ ps) fits k absent =
    let head = absent_head (p.1.head.seq == e.head.seq) p.1 (entry_of e.head.seq (values_of ps)) absent in
    puts_at (nat_cmp e.head.seq p.0) e p ps (insert_entry nat_cmp ps e.head.seq e) fits refl k head.0
    (insert_puts e ps fits k.1 head.1)

pub keyed_insert : (e : LogEntry) (ps after : List (ℕ × LogEntry)) → e.head.seq < 2 ^ 32 → AreUnderSequences ps →
    entry_of e.head.seq (values_of ps) ≡ None → after ≡ insert_entry nat_cmp ps e.head.seq e → AreUnderSequences after
keyed_insert e ps after fits k absent is = subst AreUnderSequences (sym is) (insert_puts e ps fits k absent).0

pub values_insert : (e : LogEntry) (ps after : List (ℕ × LogEntry)) → e.head.seq < 2 ^ 32 → AreUnderSequences ps →
    entry_of e.head.seq (values_of ps) ≡ None → after ≡ insert_entry nat_cmp ps e.head.seq e →
    values_of after ≡ with_log e (values_of ps)
values_insert e ps after fits k absent is = ap values_of is ∙ (insert_puts e ps fits k absent).1

-- ---- what is found after an insert

abbrev Found : LogEntry → ℕ → List LogEntry → List LogEntry → Type 0
Found e seq before after = entry_of seq after ≡ cond (e.head.seq == seq) (Some e) (entry_of seq before)

behind_other : (b c : Bool) (e first : LogEntry) (o before : Option LogEntry) → (b ≡ true → c ≡ true → ⊥) →
    o ≡ cond b (Some e) before → cond c (Some first) o ≡ cond b (Some e) (cond c (Some first) before)
behind_other true true e first o before apart h = absurd (apart refl refl)
behind_other true false e first o before apart h = h
behind_other false true e first o before apart h = refl
behind_other false false e first o before apart h = h

found_at : (b : Bool) (e : LogEntry) (first : LogEntry) (es : List LogEntry) (seq : ℕ) → (first.head.seq == e.head.seq) ≡ false →
    Found e seq es (with_log e es) →
    Found e seq (first ∷ es) (cond b (e ∷ first ∷ es) (first ∷ with_log e es))
found_at true e first es seq other later = refl
found_at false e first es seq other later =
    behind_other (e.head.seq == seq) (first.head.seq == seq) e first (entry_of seq (with_log e es)) (entry_of seq es)
    (λ p q. let clash : (first.head.seq == e.head.seq) ≡ true = grind (arith, nat_tests, p, q) in cc) later

pub found_with : (e : LogEntry) (es : List LogEntry) (seq : ℕ) → entry_of e.head.seq es ≡ None → Found e seq es (with_log e es)
found_with e [] seq absent = refl
found_with e (first ∷ es) seq absent =
    let head = absent_head (first.head.seq == e.head.seq) first (entry_of e.head.seq es) absent in
    found_at (nat_lt e.head.seq first.head.seq) e first es seq head.0 (found_with e es seq head.1)

-- ---- what holds of the entries after an insert

count_at : (b : Bool) (e first : LogEntry) (es : List LogEntry) → count_of (with_log e es) ≡ e.head.count + count_of es →
    count_of (cond b (e ∷ first ∷ es) (first ∷ with_log e es)) ≡ e.head.count + (first.head.count + count_of es)
count_at true e first es later = refl
count_at false e first es later = omega (arith, later)

pub count_with : (e : LogEntry) (es : List LogEntry) → count_of (with_log e es) ≡ e.head.count + count_of es
count_with e [] = refl
count_with e (first ∷ es) = count_at (nat_lt e.head.seq first.head.seq) e first es (count_with e es)

are_at : (b : Bool) (logs : ℕ → Option (List ℕ)) (e first : LogEntry) (es : List LogEntry) → AreToldBy logs (first ∷ es) →
    IsToldBy logs e → AreToldBy logs (with_log e es) → AreToldBy logs (cond b (e ∷ first ∷ es) (first ∷ with_log e es))
are_at true logs e first es are of later = (of, are)
are_at false logs e first es are of later = (are.0, later)

-- the logs of an archive stay so
pub are_with : (logs : ℕ → Option (List ℕ)) (e : LogEntry) (es : List LogEntry) → AreToldBy logs es → IsToldBy logs e →
    AreToldBy logs (with_log e es)
are_with logs e [] are of = (of, tt)
are_with logs e (first ∷ es) are of = are_at (nat_lt e.head.seq first.head.seq) logs e first es are
    of (are_with logs e es are.1 of)

-- ---- in order

rises_from : (key least : ℕ) (ps : List (ℕ × LogEntry)) → least ≤ key + 1 → AreUnderSequences ps →
    AllByRecursion (λ y. nat_cmp key y ≡ Less) (keys_of ps) → IsStrictlySortedBy nat_cmp (keys_of ps) →
    RiseFrom least (values_of ps)
unfolding IsStrictlySortedBy
rises_from key least [] is k h s = tt
rises_from key least (p ∷ ps) is k h s =
    let below : key < p.0 = ranked key p.0 Less (sym h.0) in
    let its = k.0.same in
    (omega (arith, below, its, is), rises_from p.0 (p.1.head.seq + 1) ps (omega (arith, its)) k.1 s.0 s.1)

pub rises : (ps : List (ℕ × LogEntry)) → AreUnderSequences ps → IsStrictlySortedBy nat_cmp (keys_of ps) → IsRising (values_of ps)
unfolding IsStrictlySortedBy
rises [] k h = tt
rises (p ∷ ps) k h = let its = k.0.same in (omega arith, rises_from p.0 (p.1.head.seq + 1) ps (omega (arith, its)) k.1 h.0 h.1)

pub fits_all : (ps : List (ℕ × LogEntry)) → AreUnderSequences ps → AreBelow (2 ^ 32) (values_of ps)
fits_all [] k = tt
fits_all (p ∷ ps) k = (k.0.fits, fits_all ps k.1)

-- ---- a range

abbrev from_seq : ℕ → List (ℕ × LogEntry) → List (ℕ × LogEntry)
from_seq seq ps = entries_between nat_cmp (Included seq) Unbounded ps

kept : (o : Ordering) (seq key : ℕ) → o ≡ nat_cmp seq key → nat_lt key seq ≡ false → (is_le o && not false) ≡ true
kept Less seq key is e = refl
kept Equal seq key is e = refl
kept Greater seq key is e = let below : key < seq = ranked seq key Greater is in absurd (grind (arith, nat_tests, below, e))

left_out : (o : Ordering) (seq key : ℕ) → o ≡ nat_cmp seq key → nat_lt key seq ≡ true → (is_le o && not false) ≡ false
left_out Less seq key is e = let above : seq < key = ranked seq key Less is in absurd (grind (arith, nat_tests, above, e))
left_out Equal seq key is e = let same : seq ≡ key = ranked seq key Equal is in absurd (grind (arith, nat_tests, same, e))
left_out Greater seq key is e = refl

chosen : (b : Bool) (p : ℕ × LogEntry) (kept others : List (ℕ × LogEntry)) → b ≡ true → cond b (p ∷ kept) others ≡ p ∷ kept
chosen b p kept others is = ap (λ (c : Bool). cond c (p ∷ kept) others) is

passed : (b : Bool) (p : ℕ × LogEntry) (kept others : List (ℕ × LogEntry)) → b ≡ false → cond b (p ∷ kept) others ≡ others
passed b p kept others is = ap (λ (c : Bool). cond c (p ∷ kept) others) is

-- behind a key of the range all keys are in it
all_kept : (seq key : ℕ) (ps : List (ℕ × LogEntry)) → nat_lt key seq ≡ false →
    AllByRecursion (λ y. nat_cmp key y ≡ Less) (keys_of ps) → from_seq seq ps ≡ ps
all_kept seq key [] e h = refl
all_kept seq key (p ∷ ps) e h =
    let below : key < p.0 = ranked key p.0 Less (sym h.0) in
    let within : nat_lt p.0 seq ≡ false = grind (arith, nat_tests, below, e) in
    chosen (range_contains nat_cmp (Included seq) Unbounded p.0) p (from_seq seq ps) (from_seq seq ps)
    (kept (nat_cmp seq p.0) seq p.0 refl within)
    ∙ ap (λ (es : List (ℕ × LogEntry)). p ∷ es) (all_kept seq key ps e h.1)

from_at : (b : Bool) (seq : ℕ) (p : ℕ × LogEntry) (ps : List (ℕ × LogEntry)) → nat_lt p.0 seq ≡ b → p.0 ≡ p.1.head.seq →
    AllByRecursion (λ y. nat_cmp p.0 y ≡ Less) (keys_of ps) → values_of (from_seq seq ps) ≡ entries_from seq (values_of ps) →
    values_of (from_seq seq (p ∷ ps)) ≡ entries_from seq (p.1 ∷ values_of ps)
from_at true seq p ps e k h later =
    let its : nat_lt p.1.head.seq seq ≡ true = sym (ap (λ (n : ℕ). nat_lt n seq) k) ∙ e in
    ap values_of (passed (range_contains nat_cmp (Included seq) Unbounded p.0) p (from_seq seq ps) (from_seq seq ps)
    (left_out (nat_cmp seq p.0) seq p.0 refl e))
    ∙ later ∙ sym (ap (λ (b : Bool). cond b (entries_from seq (values_of ps)) (p.1 ∷ values_of ps)) its)
from_at false seq p ps e k h later =
    let its : nat_lt p.1.head.seq seq ≡ false = sym (ap (λ (n : ℕ). nat_lt n seq) k) ∙ e in
    ap values_of (chosen (range_contains nat_cmp (Included seq) Unbounded p.0) p (from_seq seq ps) (from_seq seq ps)
    (kept (nat_cmp seq p.0) seq p.0 refl e))
    ∙ ap (λ (es : List (ℕ × LogEntry)). p.1 ∷ values_of es) (all_kept seq p.0 ps e h)
    ∙ sym (ap (λ (b : Bool). cond b (entries_from seq (values_of ps)) (p.1 ∷ values_of ps)) its)

-- the range from a sequence on
pub from_is : (seq : ℕ) (ps : List (ℕ × LogEntry)) → AreUnderSequences ps → IsStrictlySortedBy nat_cmp (keys_of ps) →
    values_of (from_seq seq ps) ≡ entries_from seq (values_of ps)
unfolding IsStrictlySortedBy
from_is seq [] k h = refl
from_is seq (p ∷ ps) k h = from_at (nat_lt p.0 seq) seq p ps refl k.0.same h.0 (from_is seq ps k.1 h.1)

keyed_at : (b : Bool) (p : ℕ × LogEntry) (ps : List (ℕ × LogEntry)) → IsUnderSequence p → AreUnderSequences ps →
    AreUnderSequences (cond b (p ∷ ps) ps)
keyed_at true p ps k later = (k, later)
keyed_at false p ps k later = later

keyed_from : (seq : ℕ) (ps : List (ℕ × LogEntry)) → AreUnderSequences ps → AreUnderSequences (from_seq seq ps)
keyed_from seq [] k = tt
keyed_from seq (p ∷ ps) k = keyed_at (range_contains nat_cmp (Included seq) Unbounded p.0) p (from_seq seq ps) k.0
    (keyed_from seq ps k.1)

-- the first of the range, under its sequence
pub first_from : (seq key : ℕ) (e : LogEntry) (rest ps : List (ℕ × LogEntry)) → AreUnderSequences ps →
    IsStrictlySortedBy nat_cmp (keys_of ps) → from_seq seq ps ≡ (key, e) ∷ rest →
    (key ≡ e.head.seq) × (entries_from seq (values_of ps) ≡ e ∷ values_of rest)
first_from seq key e rest ps k h is =
    let its : AreUnderSequences ((key, e) ∷ rest) = subst AreUnderSequences is (keyed_from seq ps k) in
    (its.0.same, sym (from_is seq ps k h) ∙ ap values_of is)

pub none_from : (seq : ℕ) (ps : List (ℕ × LogEntry)) → AreUnderSequences ps → IsStrictlySortedBy nat_cmp (keys_of ps) →
    from_seq seq ps ≡ [] → entries_from seq (values_of ps) ≡ []
none_from seq ps k h is = sym (from_is seq ps k h) ∙ ap values_of is

-- ---- what comes next

pub is_log : (seq key : ℕ) (e : LogEntry) (es all : List LogEntry) → key ≡ seq → (key ≡ e.head.seq) × (all ≡ e ∷ es) →
    Log e ≡ next_in seq all
is_log seq key e es all is first =
    let its = first.0 in
    let same : (e.head.seq == seq) ≡ true = grind (arith, nat_tests, is, its) in
    sym (ap (next_in seq) first.1 ∙ ap (λ (b : Bool). cond b (Log e) (Gap seq (e.head.seq - 1))) same)

pub is_gap : (seq key : ℕ) (e : LogEntry) (es all : List LogEntry) → (key ≡ seq → ⊥) → (key ≡ e.head.seq) × (all ≡ e ∷ es) →
    Gap seq (key - 1) ≡ next_in seq all
is_gap seq key e es all other first =
    let its = first.0 in
    let differs : (e.head.seq == seq) ≡ false = grind (arith, nat_tests, other, its) in
    ap (λ (n : ℕ). Gap seq (n - 1)) its ∙ sym (ap (next_in seq) first.1 ∙
    ap (λ (b : Bool). cond b (Log e) (Gap seq (e.head.seq - 1))) differs)

-- The standing of a run from a mark is that of the whole redo, without the transactions that began up to record q, and
-- with m known records. Up to record m it has no fault where the whole redo has none; behind m, where no transaction is
-- missing, it has the same.
use Rattle.std.proofs.Common.{◌≡◌, ℕ, ◌+◌, ◌≤◌, ◌<◌, nat_lt, nat_le, List, [], ◌∷◌, length, map, filter, sym, ap, ◌∙◌, refl, Bool, true, false, cond, not, ◌&&◌, ◌||◌, Option, None, arith}
use Rattle.std.specs.List.{list_any, flat_map}
use Rattle.std.specs.Option.{option_or, option_map, option_map_or}
use Rattle.std.proofs.lemmas.Bool.{lt-ltb, le-leb, lt-leb, leb-false}
use Rattle.std.specs.Ordering.{eq_by_cmp}
use Rattle.rl_value.specs.Outcome.{first_fault, is_empty}
use Rattle.rl_value.specs.declared.cause.LawFault.{LawFault}
use Rattle.rl_value.specs.declared.cause.LawFault.TheVariants as faults
use Rattle.rl_value.specs.declared.pos.Pos.{Pos}
use Rattle.rl_value.specs.declared.xid.Xid.{Xid}
use Rattle.rl_value.specs.Order.{key_cmp}
use Rattle.redo_vec.specs.declared.change.Change.{Change}
use Rattle.redo_vec.specs.declared.table.TableRow.{TableRow}
use Rattle.redo_vec.specs.declared.vector.Vector.{Vector}
use Rattle.redo_vec.specs.declared.vector.Vector.TheVariants.{Start, Change as OfChange, Undo, Commit, Rollback, Table, DictEnd}
use Rattle.redo_spec.specs.declared.header.Header.{Header}
use Rattle.redo_spec.specs.ChangeForm.{change_fault}
use Rattle.redo_spec.specs.ConflictKeys.{conflict_keys}
use Rattle.redo_spec.specs.History.{Entry, same_xid}
use Rattle.redo_spec.specs.Standing.{OpenTxn, Standing, is_open, survivor_count, with_open, open_txn_after_change, open_txn_after_undo, active_after, standing_after, standing_after_all, standing_at_record, record_after}
use Rattle.redo_spec.specs.Locks.{least, contended, lock_fault}
use Rattle.redo_spec.specs.Law.{open_limit, dictionary_fault, is_passed_over, open_fault, nothing_survives, made_fault, unless, own_fault, vector_fault, vectors_fault, whole_fault, record_fault, left_by_vectors, dictionary_left}
use Rattle.redo_spec.proofs.ListLaws.{filter_push, filter_swap, any_filter, sum_filter, flat_filter}
use Rattle.redo_spec.proofs.LockLaws.{least_none, option_map_none}
use Rattle.redo_spec.proofs.StandingLaws.{filter_seen, none_first, none_second, no_fault}

-- ---- what is left of a standing

-- the standing without the transactions that began up to record q, where m records are known
abbrev pub behind : ℕ → ℕ → Standing → Standing
behind q m s = record s { known = m; active = filter (λ t. nat_lt q t.start.rec) s.active }

-- the standing where m records are known
abbrev pub knowing : ℕ → Standing → Standing
knowing m s = record s { known = m }

-- ---- one more vector, and one more record

open_start : (q : ℕ) (f : OpenTxn → OpenTxn) → ((t : OpenTxn) → (f t).start ≡ t.start) → (b : Bool) (t : OpenTxn) →
    nat_lt q (cond b (f t) t).start.rec ≡ nat_lt q t.start.rec
open_start q f same true t = ap (λ (p : Pos). nat_lt q p.rec) (same t)
open_start q f same false t = refl

with_open_behind : (q : ℕ) (f : OpenTxn → OpenTxn) → ((t : OpenTxn) → (f t).start ≡ t.start) → (x : Xid) (ts : List OpenTxn) →
    with_open f x (filter (λ t. nat_lt q t.start.rec) ts) ≡ filter (λ t. nat_lt q t.start.rec) (with_open f x ts)
with_open_behind q f same x ts =
    sym (filter_seen (λ t. cond (same_xid t.xid x) (f t) t) (λ t. nat_lt q t.start.rec) (λ t. nat_lt q t.start.rec)
    (λ t. open_start q f same (same_xid t.xid x) t) ts)

active_behind : (q : ℕ) (tables : List TableRow) (at : Pos) (v : Vector) (ts : List OpenTxn) → q < at.rec →
    active_after tables at v (filter (λ t. nat_lt q t.start.rec) ts) ≡
    filter (λ t. nat_lt q t.start.rec) (active_after tables at v ts)
active_behind q tables at (Start x) ts past =
    sym (filter_push (λ t. nat_lt q t.start.rec) ts (record { start = at; xid = x; keys = [] }) (lt-ltb q at.rec past))
active_behind q tables at (OfChange c) ts past = with_open_behind q (open_txn_after_change (conflict_keys tables c))
    (λ t. refl) c.xid ts
active_behind q tables at (Undo x) ts past = with_open_behind q open_txn_after_undo (λ t. refl) x ts
active_behind q tables at (Commit x) ts past = filter_swap (λ t. not (same_xid t.xid x)) (λ t. nat_lt q t.start.rec) ts
active_behind q tables at (Rollback x) ts past = filter_swap (λ t. not (same_xid t.xid x)) (λ t. nat_lt q t.start.rec) ts
active_behind q tables at (Table t) ts past = refl
active_behind q tables at DictEnd ts past = refl

pub behind_after : (q m vec : ℕ) (v : Vector) (s : Standing) → q < s.rec →
    standing_after vec v (behind q m s) ≡ behind q m (standing_after vec v s)
behind_after q m vec v s past =
    let at : Pos = record { rec = s.rec; vec = vec } in
    ap (λ (ts : List OpenTxn). record (standing_after vec v s) { known = m; active = ts })
    (active_behind q s.dictionary.tables at v s.active past)

behind_after_all : (q m vec : ℕ) (vs : List Vector) (s : Standing) → q < s.rec →
    standing_after_all vec vs (behind q m s) ≡ behind q m (standing_after_all vec vs s)
behind_after_all q m vec [] s past = refl
behind_after_all q m vec (v ∷ vs) s past =
    ap (standing_after_all (vec + 1) vs) (behind_after q m vec v s past) ∙
    behind_after_all q m (vec + 1) vs (standing_after vec v s) past

pub behind_after_record : (q m : ℕ) (e : Entry) (s : Standing) → q ≤ s.rec →
    record_after e (behind q m s) ≡ behind q m (record_after e s)
behind_after_record q m (h, r) s past = behind_after_all q m 1 r.vectors (standing_at_record (h, r) s) (omega (arith, past))

-- ---- up to the known record

pub none_both : {A : Type 0} (o p : Option A) → o ≡ None → p ≡ None → option_or o p ≡ None
none_both o p a b = ap (λ u. option_or u p) a ∙ b

passes : (test : Bool) (fault : LawFault) → test ≡ false → first_fault ((test, fault) ∷ []) ≡ None
passes test fault is = ap (λ b. first_fault ((b, fault) ∷ [])) is

unless_none : (b : Bool) (o : Option LawFault) → o ≡ None → unless b o ≡ None
unless_none true o e = refl
unless_none false o e = e

unless_was : (b : Bool) (o : Option LawFault) → b ≡ false → unless b o ≡ None → o ≡ None
unless_was false o is e = e
unless_was true o is e = absurd (cc)

passed_over : (known live : Bool) → known ≡ true → not (live || (known && not live)) ≡ false
passed_over true true is = refl
passed_over true false is = refl
passed_over false live is = absurd (cc)

-- no transaction that is not open keeps a known record out
open_passes : (q m : ℕ) (s : Standing) (x : Xid) → s.rec ≤ m → open_fault (behind q m s) x ≡ None
open_passes q m s x within = passes _ faults.NotOpen (passed_over (nat_le s.rec m) (is_open (behind q m s) x)
    (le-leb s.rec m within))

-- from the first record on nothing is passed over
pub never_passed : (s : Standing) (x : Xid) → s.known < s.rec → is_passed_over s x ≡ false
never_passed s x past = ap (λ b. b && not (is_open s x)) (lt-leb s.rec s.known past)

lock_behind : (q m : ℕ) (s : Standing) (c : Change) → lock_fault s c ≡ None → lock_fault (behind q m s) c ≡ None
lock_behind q m s c e =
    let none : contended s c ≡ [] = least_none (contended s c) (option_map_none _ (least (contended s c)) e) in
    let fewer : contended (behind q m s) c ≡ [] =
    flat_filter (λ (t : OpenTxn). flat_map (λ keys. map (λ k. (k, t.xid)) keys) t.keys)
    (λ k. not (same_xid k.1 c.xid) && list_any (eq_by_cmp key_cmp k.0) (conflict_keys s.dictionary.tables c))
    (λ t. nat_lt q t.start.rec) s.active none in
    ap (λ ks. option_map (λ k. faults.Lock k.0 k.1) (least ks)) fewer

below_limit : (limit a b : ℕ) → a ≤ b → nat_le limit b ≡ false → nat_le limit a ≡ false
below_limit limit a b fewer is = lt-leb limit a (omega (arith, fewer, leb-false limit b is))

made_behind : (q m : ℕ) (s : Standing) (c : Change) → made_fault s c ≡ None → made_fault (behind q m s) c ≡ None
made_behind q m s c e =
    let rest = none_second (change_fault s.dictionary.tables c) _ e in
    none_both _ _ (none_first (change_fault s.dictionary.tables c) _ e)
    (none_both _ _ (lock_behind q m s c (none_first (lock_fault s c) _ rest))
    (passes _ faults.OpenLimit (below_limit open_limit (survivor_count (behind q m s)) (survivor_count s)
    (sum_filter (λ (t : OpenTxn). length t.keys) (λ t. nat_lt q t.start.rec) s.active)
    (no_fault _ _ (none_second (lock_fault s c) _ rest)))))

own_behind : (q m : ℕ) (s : Standing) (v : Vector) → s.known < s.rec → s.rec ≤ m → own_fault s v ≡ None →
    own_fault (behind q m s) v ≡ None
own_behind q m s (Start x) begun within e = passes _ faults.OpenTwice
    (any_filter (λ t. same_xid t.xid x) (λ t. nat_lt q t.start.rec) s.active (no_fault _ _ e))
own_behind q m s (OfChange c) begun within e =
    none_both _ _ (open_passes q m s c.xid within)
    (unless_none (is_passed_over (behind q m s) c.xid) _
    (made_behind q m s c (unless_was (is_passed_over s c.xid) _ (never_passed s c.xid begun)
    (none_second (open_fault s c.xid) _ e))))
own_behind q m s (Undo x) begun within e =
    none_both _ _ (open_passes q m s x within)
    (passes _ faults.Nothing (any_filter (λ t. same_xid t.xid x && is_empty t.keys) (λ t. nat_lt q t.start.rec) s.active
    (no_fault _ _ (none_second (open_fault s x) _ e))))
own_behind q m s (Commit x) begun within e = none_both _ _ (open_passes q m s x within) (none_second (open_fault s x) _ e)
own_behind q m s (Rollback x) begun within e = open_passes q m s x within
own_behind q m s (Table t) begun within e = e
own_behind q m s DictEnd begun within e = refl

vectors_behind : (q m : ℕ) (h : Header) (vec : ℕ) (vs : List Vector) (s : Standing) → s.known < s.rec → s.rec ≤ m → q < s.rec →
    vectors_fault h vec vs s ≡ None →
    vectors_fault h vec vs (behind q m s) ≡ None
vectors_behind q m h vec [] s begun within past e = refl
vectors_behind q m h vec (v ∷ vs) s begun within past e =
    let here = none_first (vector_fault h s v) _ e in
    none_both _ _ (none_both _ _ (none_first (dictionary_fault h s v) _ here)
    (own_behind q m s v begun within (none_second (dictionary_fault h s v) _ here)))
    (ap (vectors_fault h (vec + 1) vs) (behind_after q m vec v s past)
    ∙ vectors_behind q m h (vec + 1) vs (standing_after vec v s) begun within past (none_second (vector_fault h s v) _ e))

-- a known record that fits in the whole redo fits behind the mark
pub record_behind : (q m : ℕ) (e : Entry) (s : Standing) → s.known ≤ s.rec → s.rec + 1 ≤ m → q ≤ s.rec → record_fault s e ≡ None →
    record_fault (behind q m s) e ≡ None
record_behind q m (h, r) s begun within past e =
    none_both _ _ (none_first (whole_fault s (h, r)) _ e)
    (vectors_behind q m h 1 r.vectors (standing_at_record (h, r) s) (omega (arith, begun)) within (omega (arith, past))
    (none_second (whole_fault s (h, r)) _ e))

-- ---- behind the known record

own_known : (k : ℕ) (s : Standing) (v : Vector) → nat_le s.rec k ≡ nat_le s.rec s.known →
    own_fault (knowing k s) v ≡ own_fault s v
own_known k s (Start x) same = refl
own_known k s (OfChange c) same =
    ap (λ known. option_or (first_fault ((not (is_open s c.xid || (known && not (is_open s c.xid))), faults.NotOpen) ∷ []))
    (unless (known && not (is_open s c.xid)) (made_fault s c))) same
own_known k s (Undo x) same =
    ap (λ known. option_or (first_fault ((not (is_open s x || (known && not (is_open s x))), faults.NotOpen) ∷ []))
    (first_fault ((nothing_survives s x, faults.Nothing) ∷ []))) same
own_known k s (Commit x) same =
    ap (λ known. option_or (first_fault ((not (is_open s x || (known && not (is_open s x))), faults.NotOpen) ∷ []))
    (first_fault ((nat_le s.scn s.commit_scn, faults.Scn) ∷ []))) same
own_known k s (Rollback x) same = ap (λ known. first_fault
    ((not (is_open s x || (known && not (is_open s x))), faults.NotOpen) ∷ [])) same
own_known k s (Table t) same = refl
own_known k s DictEnd same = refl

vector_known : (k : ℕ) (h : Header) (s : Standing) (v : Vector) → s.known < s.rec → k < s.rec →
    vector_fault h (knowing k s) v ≡ vector_fault h s v
vector_known k h s v begun past = ap (option_or (dictionary_fault h s v))
    (own_known k s v (lt-leb s.rec k past ∙ sym (lt-leb s.rec s.known begun)))

vectors_known : (k : ℕ) (h : Header) (vec : ℕ) (vs : List Vector) (s : Standing) → s.known < s.rec → k < s.rec →
    vectors_fault h vec vs (knowing k s) ≡ vectors_fault h vec vs s
vectors_known k h vec [] s begun past = refl
vectors_known k h vec (v ∷ vs) s begun past =
    λ i. option_or (vector_known k h s v begun past i) (vectors_known k h (vec + 1) vs (standing_after vec v s) begun past i)

left_known : (k : ℕ) (h : Header) (vec : ℕ) (vs : List Vector) (s : Standing) → s.known < s.rec → k < s.rec →
    left_by_vectors h vec vs (knowing k s) ≡ left_by_vectors h vec vs s
left_known k h vec [] s begun past = refl
left_known k h vec (v ∷ vs) s begun past =
    λ i. option_map_or (λ fault. s.dictionary) (vector_known k h s v begun past i)
    (left_known k h (vec + 1) vs (standing_after vec v s) begun past i)

-- behind the known records they make no difference
pub record_known : (k : ℕ) (e : Entry) (s : Standing) → s.known ≤ s.rec → k ≤ s.rec →
    record_fault (knowing k s) e ≡ record_fault s e
record_known k (h, r) s begun past =
    ap (option_or (whole_fault s (h, r))) (vectors_known k h 1 r.vectors (standing_at_record (h, r) s) (omega (arith, begun))
    (omega (arith, past)))

pub dictionary_known : (k : ℕ) (e : Entry) (s : Standing) → s.known ≤ s.rec → k ≤ s.rec →
    dictionary_left (knowing k s) e ≡ dictionary_left s e
dictionary_known k (h, r) s begun past =
    ap (option_map_or (λ fault. s.dictionary) (whole_fault s (h, r)))
    (left_known k h 1 r.vectors (standing_at_record (h, r) s) (omega (arith, begun)) (omega (arith, past)))

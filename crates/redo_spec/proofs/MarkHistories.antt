-- The history of a run from a mark is that of the whole redo, without the transactions that began up to record q and the
-- commits up to that record; of a later commit of such a transaction it knows the COMMIT alone.
use Rattle.std.proofs.Common.{◌≡◌, ℕ, ◌+◌, ◌≤◌, ◌<◌, nat_lt, nat_le, ◌==◌, List, [], ◌∷◌, ◌++◌, drop, length, map, filter, sym, ap, ◌∙◌, refl, Bool, true, false, cond, not, ◌&&◌, ◌||◌, None, arith}
use Rattle.std.specs.List.{list_any}
use Rattle.std.proofs.lemmas.Bool.{lt-ltb, lt-leb, eqb-true, and_parts}
use Rattle.std.proofs.lemmas.List.{map-append, length-map, length-append, append-nil, drop-append-le}
use Rattle.rl_value.specs.Outcome.{is_empty}
use Rattle.rl_value.specs.declared.pos.Pos.{Pos}
use Rattle.rl_value.specs.declared.xid.Xid.{Xid}
use Rattle.redo_vec.specs.declared.vector.Vector.{Vector}
use Rattle.redo_vec.specs.declared.vector.Vector.TheVariants.{Start, Change as OfChange, Undo, Commit, Rollback, Table, DictEnd}
use Rattle.redo_spec.specs.declared.header.Header.{Header}
use Rattle.redo_spec.specs.History.{Entry, Txn, Committed, History, same_xid, of_xid, but_xid, has_xid, with_xid, txn_after_change, txn_after_undo, txn_known_by_commit, txns_ended_by, after_vector, after_vectors, history_after}
use Rattle.redo_spec.specs.Standing.{Standing, OpenTxn, is_open, open_txn, standing_after, standing_after_all, standing_at_record, record_after}
use Rattle.redo_spec.specs.Law.{dictionary_fault, open_fault, own_fault, vector_fault, vectors_fault, whole_fault, record_fault}
use Rattle.redo_spec.proofs.ListLaws.{filter_push, filter_swap, filter_fewer, filter_head, any_map, any_left}
use Rattle.std.proofs.lemmas.List.Elements.{filter-append}
use Rattle.redo_spec.proofs.StandingLaws.{Agrees, agrees_after, filter_seen, none_first, none_second, no_fault}

-- ---- what is left of a history

-- a commit as a run sees it that does not know the transactions begun up to record q
abbrev pub seen : ℕ → Committed → Committed
seen q c = cond (nat_lt q c.txn.start.rec) c (record { txn = txn_known_by_commit c.at c.txn.xid; at = c.at; scn = c.scn })

-- the history as it sees it, behind b commits
abbrev pub history_behind : ℕ → ℕ → History → History
history_behind q b h = record {
  active = filter (λ t. nat_lt q t.start.rec) h.active;
  commits = record { before = b; made = map (seen q) (drop b h.commits.made) };
  rolled_back = filter (λ t. nat_lt q t.start.rec) h.rolled_back;
}

-- ---- one id is open once

-- The standing and the history of a redo from its first record on: nothing is passed over, they agree, and at most one open
-- transaction has an id.
pub record Sound (s : Standing) (h : History) : Type 0 where
  pub known : s.known ≡ 0
  pub agrees : Agrees s h
  pub before : h.commits.before ≡ 0
  pub one : (x : Xid) → length (of_xid x h.active) ≤ 1

same_is : (x y : Xid) → same_xid x y ≡ true → x ≡ y
same_is x y e =
    let parts = and_parts ((x.usn == y.usn) && (x.slot == y.slot)) (x.sqn == y.sqn) e in
    let front = and_parts (x.usn == y.usn) (x.slot == y.slot) parts.0 in
    let usn : x.usn ≡ y.usn = eqb-true x.usn y.usn front.0 in
    let slot : x.slot ≡ y.slot = eqb-true x.slot y.slot front.1 in
    let sqn : x.sqn ≡ y.sqn = eqb-true x.sqn y.sqn parts.1 in
    λ i. record { usn = usn i; slot = slot i; sqn = sqn i }

open_agrees : (s : Standing) (h : History) (x : Xid) → Agrees s h → is_open s x ≡ has_xid x h.active
open_agrees s h x a = ap (λ (ts : List OpenTxn). list_any (λ t. same_xid t.xid x) ts) a.same ∙
    any_map (λ t. same_xid t.xid x) (open_txn s.dictionary.tables) h.active

empty_is : {A : Type 0} (xs : List A) → not (is_empty xs) ≡ false → xs ≡ []
empty_is [] e = refl
empty_is (x ∷ xs) e = absurd (cc)

started_one : (at : Pos) (x y : Xid) (ts : List Txn) (b : Bool) → same_xid y x ≡ b → has_xid y ts ≡ false →
    length (of_xid x ts) ≤ 1 →
    length (of_xid x ts ++ cond b (record { start = at; xid = y; survivors = [] } ∷ []) []) ≤ 1
started_one at x y ts true is none one =
    let same = same_is y x is in
    let gone : of_xid x ts ≡ [] = empty_is (of_xid x ts)
    (sym (any_left (λ t. same_xid t.xid x) ts) ∙ ap (λ z. has_xid z ts) (sym same) ∙ none) in
    let new : Txn = record { start = at; xid = y; survivors = [] } in
    let long : length (of_xid x ts ++ new ∷ []) ≡ 1 = ap (λ (us : List Txn). length (us ++ new ∷ [])) gone in
    omega (arith, long)
started_one at x y ts false is none one =
    let same : length (of_xid x ts ++ []) ≡ length (of_xid x ts) = ap (λ (us : List Txn). length us) (append-nil (of_xid x ts)) in
    omega (arith, same, one)

xid_kept : (x : Xid) (f : Txn → Txn) → ((t : Txn) → (f t).xid ≡ t.xid) → (b : Bool) (t : Txn) →
    same_xid (cond b (f t) t).xid x ≡ same_xid t.xid x
xid_kept x f same true t = ap (λ (y : Xid). same_xid y x) (same t)
xid_kept x f same false t = refl

with_one : (x y : Xid) (f : Txn → Txn) → ((t : Txn) → (f t).xid ≡ t.xid) → (ts : List Txn) → length (of_xid x ts) ≤ 1 →
    length (of_xid x (with_xid f y ts)) ≤ 1
with_one x y f same ts one =
    let view : Txn → Txn = λ t. cond (same_xid t.xid y) (f t) t in
    let moved : of_xid x (with_xid f y ts) ≡ map view (of_xid x ts) =
    filter_seen view (λ t. same_xid t.xid x) (λ t. same_xid t.xid x) (λ t. xid_kept x f same (same_xid t.xid y) t) ts in
    let long : length (of_xid x (with_xid f y ts)) ≡ length (of_xid x ts) =
    ap (λ (us : List Txn). length us) moved ∙ length-map (of_xid x ts) view in
    omega (arith, long, one)

but_one : (x y : Xid) (ts : List Txn) → length (of_xid x ts) ≤ 1 → length (of_xid x (but_xid y ts)) ≤ 1
but_one x y ts one =
    let swapped = filter_swap (λ t. same_xid t.xid x) (λ t. not (same_xid t.xid y)) ts in
    let long : length (of_xid x (but_xid y ts)) ≡ length (but_xid y (of_xid x ts)) = ap (λ (us : List Txn). length us) swapped in
    omega (arith, long, one, filter_fewer (λ t. not (same_xid t.xid y)) (of_xid x ts))

one_after : (scn : ℕ) (at : Pos) (v : Vector) (s : Standing) (h : History) → Agrees s h → own_fault s v ≡ None → (x : Xid) →
    length (of_xid x h.active) ≤ 1 →
    length (of_xid x (after_vector scn at v h).active) ≤ 1
one_after scn at (Start y) s h a fits x one =
    let new : Txn = record { start = at; xid = y; survivors = [] } in
    let moved : of_xid x (h.active ++ new ∷ []) ≡ of_xid x h.active ++ of_xid x (new ∷ []) =
    filter-append (λ t. same_xid t.xid x) h.active (new ∷ []) in
    let long : length (of_xid x (h.active ++ new ∷ [])) ≡ length (of_xid x h.active ++ of_xid x (new ∷ [])) =
    ap (λ (us : List Txn). length us) moved in
    omega (arith, long, started_one at x y h.active (same_xid y x) refl (sym (open_agrees s h y a) ∙ no_fault _ _ fits) one)
one_after scn at (OfChange c) s h a fits x one = with_one x c.xid (txn_after_change (at, c)) (λ t. refl) h.active one
one_after scn at (Undo y) s h a fits x one = with_one x y txn_after_undo (λ t. refl) h.active one
one_after scn at (Commit y) s h a fits x one = but_one x y h.active one
one_after scn at (Rollback y) s h a fits x one = but_one x y h.active one
one_after scn at (Table t) s h a fits x one = one
one_after scn at DictEnd s h a fits x one = one

before_after : (scn : ℕ) (at : Pos) (v : Vector) (h : History) → (after_vector scn at v h).commits.before ≡ h.commits.before
before_after scn at (Start y) h = refl
before_after scn at (OfChange c) h = refl
before_after scn at (Undo y) h = refl
before_after scn at (Commit y) h = refl
before_after scn at (Rollback y) h = refl
before_after scn at (Table t) h = refl
before_after scn at DictEnd h = refl

sound_after : (head : Header) (vec : ℕ) (v : Vector) (s : Standing) (h : History) → Sound s h → vector_fault head s v ≡ None →
    Sound (standing_after vec v s) (after_vector s.scn (record { rec = s.rec; vec = vec }) v h)
sound_after head vec v s h sound fits = record {
  known = sound.known;
  agrees = agrees_after head vec v s h sound.agrees (none_first (dictionary_fault head s v) _ fits);
  before = before_after s.scn (record { rec = s.rec; vec = vec }) v h ∙ sound.before;
  one = λ x. one_after s.scn (record { rec = s.rec; vec = vec }) v s h sound.agrees
      (none_second (dictionary_fault head s v) _ fits) x (sound.one x);
}

sound_after_all : (head : Header) (vec : ℕ) (vs : List Vector) (s : Standing) (h : History) → Sound s h →
    vectors_fault head vec vs s ≡ None →
    Sound (standing_after_all vec vs s) (after_vectors s.scn s.rec vec vs h)
sound_after_all head vec [] s h sound fits = sound
sound_after_all head vec (v ∷ vs) s h sound fits =
    sound_after_all head (vec + 1) vs (standing_after vec v s) (after_vector s.scn (record { rec = s.rec; vec = vec }) v h)
    (sound_after head vec v s h sound (none_first (vector_fault head s v) _ fits))
    (none_second (vector_fault head s v) _ fits)

sound_entered : (e : Entry) (s : Standing) (h : History) → Sound s h → Sound (standing_at_record e s) h
sound_entered (head, r) s h sound = record {
  known = sound.known;
  agrees = record { same = sound.agrees.same; none = sound.agrees.none };
  before = sound.before;
  one = sound.one;
}

pub sound_after_record : (e : Entry) (s : Standing) (h : History) → Sound s h → record_fault s e ≡ None →
    Sound (record_after e s) (history_after (s.rec + 1) e h)
sound_after_record (head, r) s h sound fits =
    sound_after_all head 1 r.vectors (standing_at_record (head, r) s) h (sound_entered (head, r) s h sound)
    (none_second (whole_fault s (head, r)) _ fits)

-- ---- one more vector

-- a transaction as a commit at this position and SCN
abbrev pub committed : Pos → ℕ → Txn → Committed
committed at scn t = record { txn = t; at = at; scn = scn }

-- this many commits stay, whatever comes
pub made_more : (scn : ℕ) (at : Pos) (v : Vector) (h : History) (b : ℕ) → b ≤ length h.commits.made →
    b ≤ length (after_vector scn at v h).commits.made
made_more scn at (Start y) h b few = few
made_more scn at (OfChange c) h b few = few
made_more scn at (Undo y) h b few = few
made_more scn at (Commit y) h b few =
    omega (arith, few, length-append h.commits.made (map (committed at scn) (txns_ended_by at y h.active)))
made_more scn at (Rollback y) h b few = few
made_more scn at (Table t) h b few = few
made_more scn at DictEnd h b few = few

txn_start : (q : ℕ) (f : Txn → Txn) → ((t : Txn) → (f t).start ≡ t.start) → (b : Bool) (t : Txn) →
    nat_lt q (cond b (f t) t).start.rec ≡ nat_lt q t.start.rec
txn_start q f same true t = ap (λ (p : Pos). nat_lt q p.rec) (same t)
txn_start q f same false t = refl

with_xid_behind : (q : ℕ) (f : Txn → Txn) → ((t : Txn) → (f t).start ≡ t.start) → (x : Xid) (ts : List Txn) →
    with_xid f x (filter (λ t. nat_lt q t.start.rec) ts) ≡ filter (λ t. nat_lt q t.start.rec) (with_xid f x ts)
with_xid_behind q f same x ts =
    sym (filter_seen (λ t. cond (same_xid t.xid x) (f t) t) (λ t. nat_lt q t.start.rec) (λ t. nat_lt q t.start.rec)
    (λ t. txn_start q f same (same_xid t.xid x) t) ts)

one_case : (at : Pos) (scn : ℕ) (x : Xid) (t : Txn) (b : Bool) → x ≡ t.xid →
    map (committed at scn) (cond (not (is_empty (cond b (t ∷ []) []))) (cond b (t ∷ []) []) (txn_known_by_commit at x ∷ []))
    ≡ cond b (committed at scn t) (record { txn = txn_known_by_commit at t.xid; at = at; scn = scn }) ∷ []
one_case at scn x t true same = refl
one_case at scn x t false same = ap (λ (y : Xid). committed at scn (txn_known_by_commit at y) ∷ []) same

one_seen : (q : ℕ) (at : Pos) (scn : ℕ) (x : Xid) (ts : List Txn) → not (is_empty ts) ≡ true → length ts ≤ 1 →
    ((t : Txn) (us : List Txn) → ts ≡ t ∷ us → same_xid t.xid x ≡ true) →
    map (committed at scn) (cond (not (is_empty (filter (λ t. nat_lt q t.start.rec) ts))) (filter (λ t. nat_lt q t.start.rec) ts)
    (txn_known_by_commit at x ∷ []))
    ≡ map (seen q) (map (committed at scn) ts)
one_seen q at scn x [] some one named = absurd (cc)
one_seen q at scn x (t ∷ []) some one named = one_case at scn x t (nat_lt q t.start.rec) (sym (same_is t.xid x (named t [] refl)))
one_seen q at scn x (t ∷ u ∷ us) some one named = absurd (omega (arith, one))

-- A commit of a transaction begun behind record q is seen whole, and of another the COMMIT alone.
ended_behind : (q : ℕ) (at : Pos) (scn : ℕ) (x : Xid) (ts : List Txn) → has_xid x ts ≡ true → length (of_xid x ts) ≤ 1 →
    map (committed at scn) (txns_ended_by at x (filter (λ t. nat_lt q t.start.rec) ts)) ≡
    map (seen q) (map (committed at scn) (txns_ended_by at x ts))
ended_behind q at scn x ts live one =
    let is : Txn → Bool = λ t. same_xid t.xid x in
    let late : Txn → Bool = λ t. nat_lt q t.start.rec in
    let left = any_left is (filter late ts) in
    let swapped = filter_swap is late ts in
    let whole : txns_ended_by at x ts ≡ of_xid x ts = ap (λ b. cond b (of_xid x ts) (txn_known_by_commit at x ∷ [])) live in
    ap (λ b. map (committed at scn) (cond b (of_xid x (filter late ts)) (txn_known_by_commit at x ∷ []))) left
    ∙ ap (λ (us : List Txn). map (committed at scn) (cond (not (is_empty us)) us (txn_known_by_commit at x ∷ []))) swapped
    ∙ one_seen q at scn x (of_xid x ts) (sym (any_left is ts) ∙ live) one (λ t us e. filter_head is ts t us e)
    ∙ ap (λ (us : List Txn). map (seen q) (map (committed at scn) us)) (sym whole)

made_behind : (q b : ℕ) (more : List Committed) (made : List Committed) → b ≤ length made →
    map (seen q) (drop b (made ++ more)) ≡ map (seen q) (drop b made) ++ map (seen q) more
made_behind q b more made few = ap (map (seen q)) (drop-append-le b made more few) ∙ map-append (seen q) (drop b made) more

history_vector : (q b scn : ℕ) (at : Pos) (v : Vector) (h : History) → q < at.rec → b ≤ length h.commits.made →
    ((x : Xid) → length (of_xid x h.active) ≤ 1) →
    ((x : Xid) → v ≡ Commit x → has_xid x h.active ≡ true) →
    after_vector scn at v (history_behind q b h) ≡ history_behind q b (after_vector scn at v h)
history_vector q b scn at (Start x) h past few one live =
    ap (λ (ts : List Txn). record (history_behind q b h) { active = ts })
    (sym (filter_push (λ t. nat_lt q t.start.rec) h.active (record { start = at; xid = x; survivors = [] })
    (lt-ltb q at.rec past)))
history_vector q b scn at (OfChange c) h past few one live =
    ap (λ (ts : List Txn). record (history_behind q b h) { active = ts })
    (with_xid_behind q (txn_after_change (at, c)) (λ t. refl) c.xid h.active)
history_vector q b scn at (Undo x) h past few one live =
    ap (λ (ts : List Txn). record (history_behind q b h) { active = ts })
    (with_xid_behind q txn_after_undo (λ t. refl) x h.active)
history_vector q b scn at (Commit x) h past few one live =
    let rest = filter_swap (λ t. not (same_xid t.xid x)) (λ t. nat_lt q t.start.rec) h.active in
    let made =
    ap (λ (cs : List Committed). map (seen q) (drop b h.commits.made) ++ cs)
    (ended_behind q at scn x h.active (live x refl) (one x))
    ∙ sym (made_behind q b (map (committed at scn) (txns_ended_by at x h.active)) h.commits.made few) in
    λ i. record {
      active = rest i;
      commits = record { before = b; made = made i };
      rolled_back = filter (λ t. nat_lt q t.start.rec) h.rolled_back;
    }
history_vector q b scn at (Rollback x) h past few one live =
    let late : Txn → Bool = λ t. nat_lt q t.start.rec in
    let rest = filter_swap (λ t. not (same_xid t.xid x)) late h.active in
    let gone =
    ap (λ (ts : List Txn). filter late h.rolled_back ++ ts) (filter_swap (λ t. same_xid t.xid x) late h.active)
    ∙ sym (filter-append late h.rolled_back (of_xid x h.active)) in
    λ i. record { active = rest i; commits = (history_behind q b h).commits; rolled_back = gone i }
history_vector q b scn at (Table t) h past few one live = refl
history_vector q b scn at DictEnd h past few one live = refl

-- ---- one more record

open_is : (known live : Bool) → known ≡ false → not (live || (known && not live)) ≡ false → live ≡ true
open_is false true is e = refl
open_is false false is e = absurd (cc)
open_is true live is e = absurd (cc)

-- what ends is open, where nothing is passed over
ended_open : (s : Standing) (h : History) (v : Vector) → Sound s h → s.known < s.rec → own_fault s v ≡ None → (x : Xid) →
    v ≡ Commit x → has_xid x h.active ≡ true
ended_open s h v sound begun fits x is =
    let ends = ap (own_fault s) (sym is) ∙ fits in
    sym (open_agrees s h x sound.agrees)
    ∙ open_is (nat_le s.rec s.known) (is_open s x) (lt-leb s.rec s.known begun)
    (no_fault _ _ (none_first (open_fault s x) _ ends))

history_vectors : (q b : ℕ) (head : Header) (vec : ℕ) (vs : List Vector) (s : Standing) (h : History) → q < s.rec →
    b ≤ length h.commits.made → Sound s h → s.known < s.rec →
    vectors_fault head vec vs s ≡ None → after_vectors s.scn s.rec vec vs (history_behind q b h) ≡
    history_behind q b (after_vectors s.scn s.rec vec vs h)
history_vectors q b head vec [] s h past few sound begun fits = refl
history_vectors q b head vec (v ∷ vs) s h past few sound begun fits =
    let at : Pos = record { rec = s.rec; vec = vec } in
    let here = none_first (vector_fault head s v) _ fits in
    let own = none_second (dictionary_fault head s v) _ here in
    ap (after_vectors s.scn s.rec (vec + 1) vs) (history_vector q b s.scn at v h past few sound.one
    (ended_open s h v sound begun own))
    ∙ history_vectors q b head (vec + 1) vs (standing_after vec v s) (after_vector s.scn at v h) past
    (made_more s.scn at v h b few) (sound_after head vec v s h sound here) begun
    (none_second (vector_fault head s v) _ fits)

-- a record that fits in the whole redo leaves the same behind the mark
pub history_behind_record : (q b : ℕ) (e : Entry) (s : Standing) (h : History) → q ≤ s.rec → b ≤ length h.commits.made →
    Sound s h → record_fault s e ≡ None →
    history_after (s.rec + 1) e (history_behind q b h) ≡ history_behind q b (history_after (s.rec + 1) e h)
history_behind_record q b (head, r) s h past few sound fits =
    let none = sound.known in
    history_vectors q b head 1 r.vectors (standing_at_record (head, r) s) h (omega (arith, past)) few
    (sound_entered (head, r) s h sound) (omega (arith, none)) (none_second (whole_fault s (head, r)) _ fits)

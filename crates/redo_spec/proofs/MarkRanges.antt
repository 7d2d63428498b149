-- Where the transactions of a history begin: what holds of the record of each START, and of each record that comes, holds
-- of the transactions that are open and of those that have ended.
use Rattle.std.proofs.Common.{◌≡◌, ℕ, zero, suc, ◌+◌, ◌≤◌, List, [], ◌∷◌, ◌++◌, take, drop, length, map, sym, refl, subst, Bool, true, false, cond, not, arith}
use Rattle.std.specs.List.{AllByRecursion}
use Rattle.std.proofs.lemmas.List.{take-append-le}
use Rattle.rl_value.specs.declared.pos.Pos.{Pos}
use Rattle.rl_value.specs.declared.xid.Xid.{Xid}
use Rattle.redo_vec.specs.declared.vector.Vector.{Vector}
use Rattle.redo_vec.specs.declared.vector.Vector.TheVariants.{Start, Change as OfChange, Undo, Commit, Rollback, Table, DictEnd}
use Rattle.redo_spec.specs.History.{Entry, Txn, Committed, History, same_xid, has_xid, of_xid, with_xid, txn_after_change, txn_after_undo, txn_known_by_commit, txns_ended_by, after_vector, after_vectors, history_after}
use Rattle.redo_spec.proofs.ListLaws.{all_append, all_filter, all_map, all_drop, all_weaker}
use Rattle.redo_spec.proofs.MarkHistories.{committed, made_more}

-- ---- what holds of a record number

-- each open transaction, and each commit from this one on, began at such a record
pub record Began (R : ℕ → Type 0) (n : ℕ) (h : History) : Type 0 where
  pub active : AllByRecursion (λ t. R t.start.rec) h.active
  pub made : AllByRecursion (λ c. R c.txn.start.rec) (drop n h.commits.made)

all_drop_append : {A : Type 0} (P : A → Type 0) (n : ℕ) (xs ys : List A) → AllByRecursion P (drop n xs) → AllByRecursion P ys →
    AllByRecursion P (drop n (xs ++ ys))
all_drop_append P zero xs ys a b = all_append P xs ys a b
all_drop_append P (suc n) [] ys a b = all_drop P (suc n) ys b
all_drop_append P (suc n) (x ∷ xs) ys a b = all_drop_append P n xs ys a b

with_start : (R : ℕ → Type 0) (f : Txn → Txn) → ((t : Txn) → t.start ≡ (f t).start) → (b : Bool) (t : Txn) → R t.start.rec →
    R (cond b (f t) t).start.rec
with_start R f same true t is = subst (λ (p : Pos). R p.rec) (same t) is
with_start R f same false t is = is

with_began : (R : ℕ → Type 0) (f : Txn → Txn) → ((t : Txn) → t.start ≡ (f t).start) → (x : Xid) (ts : List Txn) →
    AllByRecursion (λ t. R t.start.rec) ts →
    AllByRecursion (λ t. R t.start.rec) (with_xid f x ts)
with_began R f same x ts a =
    all_map (λ (t : Txn). R t.start.rec) (λ (t : Txn). R t.start.rec) (λ t. cond (same_xid t.xid x) (f t) t)
    (λ t is. with_start R f same (same_xid t.xid x) t is) ts a

all_either : {A : Type 0} (P : A → Type 0) (b : Bool) (xs ys : List A) → AllByRecursion P xs → AllByRecursion P ys →
    AllByRecursion P (cond b xs ys)
all_either P true xs ys a c = a
all_either P false xs ys a c = c

ended_began : (R : ℕ → Type 0) (at : Pos) (x : Xid) (ts : List Txn) → R at.rec → AllByRecursion (λ t. R t.start.rec) ts →
    AllByRecursion (λ t. R t.start.rec) (txns_ended_by at x ts)
ended_began R at x ts here a =
    all_either (λ (t : Txn). R t.start.rec) (has_xid x ts) (of_xid x ts) (txn_known_by_commit at x ∷ [])
    (all_filter (λ (t : Txn). R t.start.rec) (λ t. same_xid t.xid x) ts a) (here, tt)

pub began_after : (R : ℕ → Type 0) (n scn : ℕ) (at : Pos) (v : Vector) (h : History) → R at.rec → Began R n h →
    Began R n (after_vector scn at v h)
began_after R n scn at (Start x) h here b = record {
  active = all_append (λ (t : Txn). R t.start.rec) h.active (record { start = at; xid = x; survivors = [] } ∷ [])
      b.active (here, tt);
  made = b.made;
}
began_after R n scn at (OfChange c) h here b = record {
  active = with_began R (txn_after_change (at, c)) (λ t. refl) c.xid
      h.active b.active;
  made = b.made;
}
began_after R n scn at (Undo x) h here b = record {
  active = with_began R txn_after_undo (λ t. refl) x h.active b.active;
  made = b.made;
}
began_after R n scn at (Commit x) h here b =
    let ended = txns_ended_by at x h.active in
    record {
      active = all_filter (λ (t : Txn). R t.start.rec) (λ t. not (same_xid t.xid x)) h.active b.active;
      made = all_drop_append (λ (c : Committed). R c.txn.start.rec) n h.commits.made (map (committed at scn) ended) b.made
          (all_map (λ (t : Txn). R t.start.rec) (λ (c : Committed). R c.txn.start.rec) (committed at scn) (λ t is. is) ended
          (ended_began R at x h.active here b.active));
    }
began_after R n scn at (Rollback x) h here b = record {
  active = all_filter (λ (t : Txn). R t.start.rec)
      (λ t. not (same_xid t.xid x)) h.active b.active;
  made = b.made;
}
began_after R n scn at (Table t) h here b = b
began_after R n scn at DictEnd h here b = b

began_after_all : (R : ℕ → Type 0) (n scn rec vec : ℕ) (vs : List Vector) (h : History) → R rec → Began R n h →
    Began R n (after_vectors scn rec vec vs h)
began_after_all R n scn rec vec [] h here b = b
began_after_all R n scn rec vec (v ∷ vs) h here b =
    let at : Pos = record { rec = rec; vec = vec } in
    began_after_all R n scn rec (vec + 1) vs (after_vector scn at v h) here (began_after R n scn at v h here b)

pub began_after_record : (R : ℕ → Type 0) (n rec : ℕ) (e : Entry) (h : History) → R rec → Began R n h →
    Began R n (history_after rec e h)
began_after_record R n rec (head, r) h here b = began_after_all R n r.scn rec 1 r.vectors h here b

pub began_weaker : (P R : ℕ → Type 0) (n : ℕ) (h : History) → ((k : ℕ) → P k → R k) → Began P n h → Began R n h
began_weaker P R n h each b = record {
  active = all_weaker (λ (t : Txn). P t.start.rec) (λ (t : Txn). R t.start.rec) (λ t. each t.start.rec) h.active b.active;
  made = all_weaker (λ (c : Committed). P c.txn.start.rec) (λ (c : Committed). R c.txn.start.rec) (λ c. each c.txn.start.rec)
      (drop n h.commits.made) b.made;
}

-- ---- those rolled back

rolled_after : (R : ℕ → Type 0) (scn : ℕ) (at : Pos) (v : Vector) (h : History) → AllByRecursion (λ t. R t.start.rec) h.active →
    AllByRecursion (λ t. R t.start.rec) h.rolled_back →
    AllByRecursion (λ t. R t.start.rec) (after_vector scn at v h).rolled_back
rolled_after R scn at (Start x) h a b = b
rolled_after R scn at (OfChange c) h a b = b
rolled_after R scn at (Undo x) h a b = b
rolled_after R scn at (Commit x) h a b = b
rolled_after R scn at (Rollback x) h a b =
    all_append (λ (t : Txn). R t.start.rec) h.rolled_back (of_xid x h.active) b
    (all_filter (λ (t : Txn). R t.start.rec) (λ t. same_xid t.xid x) h.active a)
rolled_after R scn at (Table t) h a b = b
rolled_after R scn at DictEnd h a b = b

rolled_after_all : (R : ℕ → Type 0) (scn rec vec : ℕ) (vs : List Vector) (h : History) → R rec → Began R 0 h →
    AllByRecursion (λ t. R t.start.rec) h.rolled_back →
    AllByRecursion (λ t. R t.start.rec) (after_vectors scn rec vec vs h).rolled_back
rolled_after_all R scn rec vec [] h here a b = b
rolled_after_all R scn rec vec (v ∷ vs) h here a b =
    let at : Pos = record { rec = rec; vec = vec } in
    rolled_after_all R scn rec (vec + 1) vs (after_vector scn at v h) here (began_after R 0 scn at v h here a)
    (rolled_after R scn at v h a.active b)

-- no transaction of this history began behind this record
pub record Within (rec : ℕ) (h : History) : Type 0 where
  pub began : Began (λ k. k ≤ rec) 0 h
  pub rolled_back : AllByRecursion (λ t. t.start.rec ≤ rec) h.rolled_back

within_later : (rec : ℕ) (h : History) → Within rec h → Within (rec + 1) h
within_later rec h w = record {
  began = began_weaker (λ k. k ≤ rec) (λ k. k ≤ rec + 1) 0 h (λ k is. omega (arith, is)) w.began;
  rolled_back = all_weaker (λ (t : Txn). t.start.rec ≤ rec) (λ (t : Txn). t.start.rec ≤ rec + 1) (λ t is. omega (arith, is))
      h.rolled_back w.rolled_back;
}

pub within_after_record : (rec : ℕ) (e : Entry) (h : History) → Within rec h → Within (rec + 1) (history_after (rec + 1) e h)
within_after_record rec (head, r) h w =
    let later = within_later rec h w in
    let here : rec + 1 ≤ rec + 1 = omega arith in
    record {
      began = began_after_record (λ k. k ≤ rec + 1) 0 (rec + 1) (head, r) h here later.began;
      rolled_back = rolled_after_all (λ k. k ≤ rec + 1) r.scn (rec + 1) 1 r.vectors h here later.began later.rolled_back;
    }

-- ---- the commits so far

-- the first b commits began at record q or before
pub record Old (q b : ℕ) (h : History) : Type 0 where
  pub few : b ≤ length h.commits.made
  pub old : AllByRecursion (λ c. c.txn.start.rec ≤ q) (take b h.commits.made)

old_after : (q b scn : ℕ) (at : Pos) (v : Vector) (h : History) → Old q b h → Old q b (after_vector scn at v h)
old_after q b scn at (Start x) h o = record { few = o.few; old = o.old }
old_after q b scn at (OfChange c) h o = record { few = o.few; old = o.old }
old_after q b scn at (Undo x) h o = record { few = o.few; old = o.old }
old_after q b scn at (Commit x) h o =
    let same = take-append-le b h.commits.made (map (committed at scn) (txns_ended_by at x h.active)) o.few in
    record {
      few = made_more scn at (Commit x) h b o.few;
      old = subst (λ (cs : List Committed). AllByRecursion (λ c. c.txn.start.rec ≤ q) cs) (sym same) o.old;
    }
old_after q b scn at (Rollback x) h o = record { few = o.few; old = o.old }
old_after q b scn at (Table t) h o = o
old_after q b scn at DictEnd h o = o

old_after_all : (q b scn rec vec : ℕ) (vs : List Vector) (h : History) → Old q b h → Old q b (after_vectors scn rec vec vs h)
old_after_all q b scn rec vec [] h o = o
old_after_all q b scn rec vec (v ∷ vs) h o =
    let at : Pos = record { rec = rec; vec = vec } in old_after_all q b scn rec (vec + 1) vs (after_vector scn at v h)
    (old_after q b scn at v h o)

pub old_after_record : (q b rec : ℕ) (e : Entry) (h : History) → Old q b h → Old q b (history_after rec e h)
old_after_record q b rec (head, r) h o = old_after_all q b r.scn rec 1 r.vectors h o

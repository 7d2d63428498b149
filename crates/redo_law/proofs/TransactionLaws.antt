-- The open transactions stay consistent in each call: their list is what the standing says, and their parts fit each other.
use Rattle.std.proofs.Common.{◌≡◌, ℕ, ◌+◌, ◌-◌, ◌≤◌, List, [], ◌∷◌, ◌++◌, length, take, refl, sym, ap, ◌∙◌, subst, false, cond, Option, Some, None, arith}
use Rattle.std.proofs.lemmas.List.{length-append}
use Rattle.std.proofs.Math.Seq.{take-append_seam}
use Rattle.std.specs.BTreeMap as tree
use Rattle.std.specs.BTreeMap.{is_at, insert_entry}
use Rattle.std.specs.Map.{set_value, remove_entry}
use Rattle.std.specs.List.{list_any}
use Rattle.std.specs.Option.{option_map, is_some}
use Rattle.redo_spec.specs.History.{same_xid}
use Rattle.rl_value.specs.declared.key.Key.{Key}
use Rattle.rl_value.specs.declared.pos.Pos.{Pos}
use Rattle.rl_value.specs.declared.xid.Xid.{Xid}
use Rattle.rl_value.specs.Order.{key_cmp, pos_cmp, xid_cmp}
use Rattle.redo_spec.specs.Locks.{least}
use Rattle.redo_spec.specs.Standing.{OpenTxn, with_open, without_open, open_txn_after_change, open_txn_after_undo}
use Rattle.redo_law.specs.declared.hold.Hold.{Hold}
use Rattle.redo_law.specs.declared.survivors.Open.{Open}
use Rattle.redo_law.specs.declared.open_transactions.OpenTransactions.TheInside.{Inside}
use Rattle.redo_law.specs.Calls.{open_of}
use Rattle.redo_law.specs.Held.{Holds, hold_after_take, hold_after_undo, hold_after_end, contended_keys}
use Rattle.redo_law.specs.OpenTransactions.{entry_txn, entry_txns, BeganBefore, GivesBack}
use Rattle.redo_law.specs.Consistency.{txns_by_start, Keeps, IsConsistent}
use Rattle.redo_law.proofs.OpenList.{any_open, found_id, apart_push, apart_changed, apart_closed}
use Rattle.redo_law.proofs.HoldLaws.{holds_start, holds_touch, holds_undo, holds_bare, holds_close}
use Rattle.redo_law.proofs.LeastLaws.{least_blocked, free_of_blocked}
use Rattle.redo_law.proofs.EntryLaws.{kept_at, set_changed, removed_closed, inserted_last, count_push, count_changed, count_closed, starts_push, starts_changed, starts_closed}

pub some_is : {A : Type 0} (x y : A) → Some x ≡ Some y → x ≡ y
some_is x y e = cc

pub some_none : {A C : Type 0} (x : A) (o : Option A) → o ≡ Some x → o ≡ None → C
some_none x None e n = absurd (cc)
some_none x (Some y) e n = absurd (cc)

-- ---- where a transaction is kept

pub record Located (t : Inside) (x : Xid) (start : Pos) : Type 0 where
  pub txn : Open
  pub kept : tree.get pos_cmp t.txns start ≡ Some txn
  pub found : open_of x (txns_by_start t) ≡ Some (entry_txn (start, txn))
  pub id : txn.xid ≡ x

located_as : (t : Inside) (x : Xid) (start : Pos) → IsConsistent t → (o : Option OpenTxn) → open_of x (txns_by_start t) ≡ o →
    option_map (λ u. u.start) o ≡ Some start → Located t x start
located_as t x start h None e is = absurd (cc)
located_as t x start h (Some u) e is =
    let at : u.start ≡ start = some_is u.start start is in
    record {
      txn = record { xid = u.xid; keys = u.keys };
      kept = ap (tree.get pos_cmp t.txns) (sym at) ∙ kept_at x t.txns.entries u h.ordered e;
      found = e ∙ ap (λ p. Some (entry_txn (p, record { xid = u.xid; keys = u.keys }))) at;
      id = found_id x (txns_by_start t) u e;
    }

pub located : (t : Inside) (x : Xid) (start : Pos) → IsConsistent t → tree.get xid_cmp t.xids x ≡ Some start → Located t x start
located t x start h is = located_as t x start h (open_of x (txns_by_start t)) refl (sym (h.ids x) ∙ is)

none_from_map : (o : Option OpenTxn) → option_map (λ u. u.start) o ≡ None → o ≡ None
none_from_map None e = refl
none_from_map (Some u) e = absurd (cc)

pub absent : (t : Inside) (x : Xid) → IsConsistent t → tree.get xid_cmp t.xids x ≡ None → open_of x (txns_by_start t) ≡ None
absent t x h is = none_from_map (open_of x (txns_by_start t)) (sym (h.ids x) ∙ is)

some_mapped : (o : Option OpenTxn) → is_some (option_map (λ u. u.start) o) ≡ is_some o
some_mapped None = refl
some_mapped (Some u) = refl

pub is_there : (t : Inside) (x : Xid) → IsConsistent t →
    is_some (tree.get xid_cmp t.xids x) ≡ list_any (λ u. same_xid u.xid x) (txns_by_start t)
is_there t x h = ap is_some (h.ids x) ∙ some_mapped (open_of x (txns_by_start t)) ∙ sym (any_open x (txns_by_start t))

none_is : {A : Type 0} (o : Option A) → is_some o ≡ false → o ≡ None
none_is None e = refl
none_is (Some x) e = absurd (cc)

pub not_there : (x : Xid) (ts : List OpenTxn) → list_any (λ u. same_xid u.xid x) ts ≡ false → open_of x ts ≡ None
not_there x ts e = none_is (open_of x ts) (sym (any_open x ts) ∙ e)

-- ---- one more transaction

pub start_list : (t : Inside) (es : List (Pos × Open)) (at : Pos) (o : Open) → BeganBefore at (txns_by_start t) →
    es ≡ insert_entry pos_cmp t.txns.entries at o → entry_txns es ≡ txns_by_start t ++ entry_txn (at, o) ∷ []
start_list t es at o before is = ap entry_txns is ∙ inserted_last at o t.txns.entries before

pub start_consistent : (t u : Inside) (at : Pos) (o : Open) → o.keys ≡ [] → IsConsistent t → BeganBefore at (txns_by_start t) →
    open_of o.xid (txns_by_start t) ≡ None → u.txns.entries ≡ insert_entry pos_cmp t.txns.entries at o →
    tree.IsOrdered pos_cmp u.txns → ((y : Xid) → tree.get xid_cmp u.xids y ≡
    cond (is_at (xid_cmp o.xid) y) (Some at) (tree.get xid_cmp t.xids y)) → u.locks ≡ t.locks →
    u.survivors ≡ t.survivors → IsConsistent u
start_consistent t u at o bare h before fresh is ordered ids locks survivors =
    let ts = txns_by_start t in
    let new = entry_txn (at, o) in
    subst (Keeps u) (sym (start_list t u.txns.entries at o before is)) (record {
      ids = λ y. ids y ∙ ap (λ p. cond (is_at (xid_cmp o.xid) y) (Some at) p) (h.ids y) ∙ starts_push ts new fresh y;
      apart = apart_push ts new h.apart fresh;
      ordered = ordered;
      holds = subst (λ (l : tree.BTreeMap Key Hold). Holds (tree.get key_cmp l) (ts ++ new ∷ [])) (sym locks)
          (holds_start (tree.get key_cmp t.locks) ts new bare h.holds fresh);
      count =
          let none : length o.keys ≡ 0 = ap length bare in
          let more = count_push ts new in
          let was = h.count in
          omega (arith, none, more, was, survivors);
    })

-- ---- one more change

-- the transaction with the keys of one more change
abbrev pub more_keys : List Key → Open → Open
more_keys ks o = record o { keys = o.keys ++ ks ∷ [] }

pub touch_list : (t : Inside) (es : List (Pos × Open)) (x : Xid) (ks : List Key) (start : Pos) → IsConsistent t →
    (l : Located t x start) → es ≡ set_value (is_at (pos_cmp start)) t.txns.entries (more_keys ks l.txn) →
    entry_txns es ≡ with_open (open_txn_after_change ks) x (txns_by_start t)
touch_list t es x ks start h l is =
    ap entry_txns is ∙ set_changed (open_txn_after_change ks) x t.txns.entries (entry_txn (start, l.txn)) (more_keys ks l.txn)
    h.ordered h.apart l.found refl

pub touch_consistent : (t u : Inside) (x : Xid) (ks : List Key) (start : Pos) → IsConsistent t → (l : Located t x start) →
    least (contended_keys x ks (txns_by_start t)) ≡ None →
    u.txns.entries ≡ set_value (is_at (pos_cmp start)) t.txns.entries (more_keys ks l.txn) → tree.IsOrdered pos_cmp u.txns →
    u.xids ≡ t.xids →
    ((q : Key) → tree.get key_cmp u.locks q ≡ hold_after_take (tree.get key_cmp t.locks) ks
    (record { holder = l.txn.xid; change = length l.txn.keys }) q) → u.survivors ≡ t.survivors + 1 → IsConsistent u
touch_consistent t u x ks start h l free is ordered ids locks survivors =
    let ts = txns_by_start t in
    let was = entry_txn (start, l.txn) in
    let holds = tree.get key_cmp t.locks in
    subst (Keeps u) (sym (touch_list t u.txns.entries x ks start h l is)) (record {
      ids = λ y. ap (λ m. tree.get xid_cmp m y) ids ∙ h.ids y ∙
          starts_changed (open_txn_after_change ks) (λ v. refl) (λ v. refl) x ts y;
      apart = apart_changed (open_txn_after_change ks) (λ v. refl) x ts h.apart;
      ordered = ordered;
      holds = holds_touch holds (tree.get key_cmp u.locks) x ks ts was l.found h.holds
          (λ k g. free_of_blocked holds x ks (least_blocked holds x ks ts h.holds h.apart ∙ free) k g)
          (λ q. locks q ∙ ap (λ i. hold_after_take holds ks (record { holder = i; change = length l.txn.keys }) q) l.id);
      count =
          let one : length (l.txn.keys ++ ks ∷ []) ≡ length l.txn.keys + 1 = length-append l.txn.keys (ks ∷ []) in
          let more = count_changed (open_txn_after_change ks) x ts was h.apart l.found in
          let before = h.count in
          omega (arith, one, more, before, survivors);
    })

-- ---- the latest change is taken back

pub undo_list : (t : Inside) (es : List (Pos × Open)) (x : Xid) (start : Pos) (w : Open) → IsConsistent t →
    (l : Located t x start) → w.xid ≡ l.txn.xid → w.keys ≡ take (length l.txn.keys - 1) l.txn.keys →
    es ≡ set_value (is_at (pos_cmp start)) t.txns.entries w → entry_txns es ≡ with_open open_txn_after_undo x (txns_by_start t)
undo_list t es x start w h l id keys is =
    ap entry_txns is ∙ set_changed open_txn_after_undo x t.txns.entries (entry_txn (start, l.txn)) w h.ordered h.apart l.found
    (λ i. record { start = start; xid = id i; keys = keys i })

pub undo_consistent : (t u : Inside) (x : Xid) (start : Pos) (w : Open) (count : ℕ) → IsConsistent t → (l : Located t x start) →
    GivesBack l.txn w (tree.get key_cmp t.locks) (tree.get key_cmp u.locks) count →
    u.txns.entries ≡ set_value (is_at (pos_cmp start)) t.txns.entries w → tree.IsOrdered pos_cmp u.txns → u.xids ≡ t.xids →
    u.survivors + count ≡ t.survivors → IsConsistent u
undo_consistent t u x start w count h l g is ordered ids survivors =
    let ts = txns_by_start t in
    let was = entry_txn (start, l.txn) in
    subst (Keeps u) (sym (undo_list t u.txns.entries x start w h l g.xid g.keys is)) (record {
      ids = λ y. ap (λ m. tree.get xid_cmp m y) ids ∙ h.ids y ∙ starts_changed open_txn_after_undo (λ v. refl) (λ v. refl) x ts y;
      apart = apart_changed open_txn_after_undo (λ v. refl) x ts h.apart;
      ordered = ordered;
      holds = subst (λ (i : Xid). Holds (tree.get key_cmp u.locks) (with_open open_txn_after_undo i ts)) l.id
          (g.freed ts start (ap (λ i. open_of i ts) l.id ∙ l.found) h.holds);
      count =
          let left : length w.keys ≡ length (take (length l.txn.keys - 1) l.txn.keys) = ap length g.keys in
          let more = count_changed open_txn_after_undo x ts was h.apart l.found in
          let before = h.count in
          let counted = g.counted in
          omega (arith, left, more, before, survivors, counted);
    })

-- so many changes are there at least
pub count_least : (t : Inside) (x : Xid) (start : Pos) (w : Open) (count : ℕ) → IsConsistent t → (l : Located t x start) →
    length w.keys + count ≡ length l.txn.keys → count ≤ t.survivors
count_least t x start w count h l e =
    let all = count_closed x (txns_by_start t) (entry_txn (start, l.txn)) h.apart l.found in
    let before = h.count in
    omega (arith, all, before, e)

-- ---- a transaction ends

pub close_list : (t : Inside) (es : List (Pos × Open)) (x : Xid) (start : Pos) → IsConsistent t → (l : Located t x start) →
    es ≡ remove_entry (is_at (pos_cmp start)) t.txns.entries → entry_txns es ≡ without_open x (txns_by_start t)
close_list t es x start h l is = ap entry_txns is ∙ removed_closed x t.txns.entries (entry_txn (start, l.txn)) h.ordered
    h.apart l.found

pub close_consistent : (t u : Inside) (x : Xid) (start : Pos) → IsConsistent t → (l : Located t x start) →
    u.txns.entries ≡ remove_entry (is_at (pos_cmp start)) t.txns.entries → tree.IsOrdered pos_cmp u.txns →
    ((y : Xid) → tree.get xid_cmp u.xids y ≡ cond (is_at (xid_cmp x) y) None (tree.get xid_cmp t.xids y)) →
    ((q : Key) → tree.get key_cmp u.locks q ≡ hold_after_end (tree.get key_cmp t.locks) l.txn.keys q) →
    u.survivors + length l.txn.keys ≡ t.survivors → IsConsistent u
close_consistent t u x start h l is ordered ids locks survivors =
    let ts = txns_by_start t in
    let was = entry_txn (start, l.txn) in
    subst (Keeps u) (sym (close_list t u.txns.entries x start h l is)) (record {
      ids = λ y. ids y ∙ ap (λ p. cond (is_at (xid_cmp x) y) None p) (h.ids y) ∙ starts_closed x ts y;
      apart = apart_closed x ts h.apart;
      ordered = ordered;
      holds = holds_close (tree.get key_cmp t.locks) (tree.get key_cmp u.locks) x ts was l.found h.holds locks;
      count =
          let left = count_closed x ts was h.apart l.found in
          let before = h.count in
          omega (arith, left, before, survivors);
    })

-- ---- one transaction's keys

-- without a change, nothing is given back
pub gives_none : (old new : Open) (holds : Key → Option Hold) → old.keys ≡ [] → new ≡ old → GivesBack old new holds holds 0
gives_none old new holds bare same = record {
  xid = ap (λ o. o.xid) same;
  keys = ap (λ o. o.keys) same ∙ bare ∙ sym (ap (λ kss. take (length kss - 1) kss) bare);
  counted = let e : length new.keys ≡ length old.keys = ap (λ o. length o.keys) same in omega (arith, e);
  freed = λ ts start found h. holds_bare holds old.xid ts (entry_txn (start, old)) found bare h;
}

-- the latest change is given back
pub gives_one : (old new : Open) (ks : List Key) (holds after : Key → Option Hold) → old.keys ≡ new.keys ++ ks ∷ [] →
    new.xid ≡ old.xid →
    ((q : Key) → after q ≡ hold_after_undo holds ks old.xid (length new.keys) q) → GivesBack old new holds after 1
gives_one old new ks holds after split id locks =
    let size : length old.keys ≡ length new.keys + 1 = ap length split ∙ length-append new.keys (ks ∷ []) in
    let less : length old.keys - 1 ≡ length new.keys = omega (arith, size) in
    let back : take (length old.keys - 1) old.keys ≡ new.keys =
    ap (λ n. take n old.keys) less ∙ ap (take (length new.keys)) split ∙ take-append_seam new.keys (ks ∷ []) in
    record {
      xid = id;
      keys = sym back;
      counted = sym size;
      freed = λ ts start found h. holds_undo holds after old.xid new.keys ks ts (entry_txn (start, old)) found split back h locks;
    }

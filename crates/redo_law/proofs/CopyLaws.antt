-- A map copied entry by entry, in the order of its keys: each goes behind those before it.
use Rattle.std.proofs.Common.{◌≡◌, ℕ, List, [], ◌∷◌, ◌++◌, refl, sym, ap, subst, ◌∙◌, Ordering, Less, Greater}
use Rattle.std.proofs.lemmas.Map.Keys.{sorted_head, sorted_tail}
use Rattle.std.specs.Cmp.{IsTotalOrder}
use Rattle.std.specs.List.{AllByRecursion}
use Rattle.std.specs.List.Sorted.{IsStrictlySortedBy}
use Rattle.std.specs.Map.{keys_of, lookup}
use Rattle.std.specs.BTreeMap.{is_at, insert_entry}
use Rattle.std.specs.Ordering.{ordering_reverse, match_ordering}
use Rattle.rl_value.specs.declared.key.Key.{Key}
use Rattle.rl_value.specs.declared.pos.Pos.{Pos}
use Rattle.rl_value.specs.declared.xid.Xid.{Xid}
use Rattle.rl_value.specs.Order.{key_cmp, pos_cmp, xid_cmp}
use Rattle.redo_spec.specs.Standing.{OpenTxn}
use Rattle.redo_law.specs.declared.hold.Hold.{Hold}
use Rattle.redo_law.specs.declared.survivors.Open.{Open}
use Rattle.redo_law.specs.declared.open_transactions.OpenTransactions.TheInside.{Inside}
use Rattle.redo_law.specs.Held.{own_change}
use Rattle.redo_law.specs.OpenTransactions.{entry_txns}
use Rattle.redo_law.specs.Consistency.{Keeps, IsConsistent}
use Rattle.redo_law.specs.States.{BeganBy}

turned : {K : Type 0} (cmp : K → K → Ordering) → IsTotalOrder cmp → (k l : K) → cmp l k ≡ Less → cmp k l ≡ Greater
turned cmp o k l e = o.antisymm k l ∙ ap ordering_reverse e

in_middle : {K V : Type 0} (cmp : K → K → Ordering) (k : K) (es : List (K × V)) (e : K × V) (rest : List (K × V)) →
    AllByRecursion (λ l. cmp k l ≡ Less) (keys_of (es ++ e ∷ rest)) → cmp k e.0 ≡ Less
in_middle cmp k [] e rest h = h.0
in_middle cmp k (f ∷ es) e rest h = in_middle cmp k es e rest h.1

inserted_behind : {K V : Type 0} (cmp : K → K → Ordering) → IsTotalOrder cmp →
    (es : List (K × V)) (e : K × V) (rest : List (K × V)) → IsStrictlySortedBy cmp (keys_of (es ++ e ∷ rest)) →
    insert_entry cmp es e.0 e.1 ++ rest ≡ es ++ e ∷ rest
inserted_behind cmp o [] e rest s = refl
inserted_behind cmp o (f ∷ es) e rest s =
    let after = turned cmp o e.0 f.0 (in_middle cmp f.0 es e rest (sorted_head cmp f.0 (keys_of (es ++ e ∷ rest)) s)) in
    ap (λ r. match_ordering r (e ∷ f ∷ es) ((f.0, e.1) ∷ es) (f ∷ insert_entry cmp es e.0 e.1) ++ rest) after
    ∙ ap (λ l. f ∷ l) (inserted_behind cmp o es e rest (sorted_tail cmp f.0 (keys_of (es ++ e ∷ rest)) s))

-- with the next entry the copies and those that are left are still all
pub copied_step : {K V : Type 0} (cmp : K → K → Ordering) → IsTotalOrder cmp →
    (es rest left all new : List (K × V)) (k : K) (v : V) → IsStrictlySortedBy cmp (keys_of all) → es ++ rest ≡ all →
    rest ≡ (k, v) ∷ left →
    new ≡ insert_entry cmp es k v → new ++ left ≡ all
copied_step {K = K} {V = V} cmp o es rest left all new k v s whole first is =
    let before : es ++ (k, v) ∷ left ≡ all = ap (λ (r : List (K × V)). es ++ r) (sym first) ∙ whole in
    ap (λ (n : List (K × V)). n ++ left) is ∙ inserted_behind cmp o es (k, v) left
    (subst (λ (a : List (K × V)). IsStrictlySortedBy cmp (keys_of a)) (sym before) s) ∙ before

-- what has the entries of consistent open transactions is consistent
pub copied_consistent : (t u : Inside) → IsConsistent t → u.xids.entries ≡ t.xids.entries → u.txns.entries ≡ t.txns.entries →
    u.locks.entries ≡ t.locks.entries → u.survivors ≡ t.survivors → IsConsistent u
copied_consistent t u h xids txns locks survivors =
    subst (Keeps u) (sym (ap entry_txns txns)) (record {
      ids = λ x. ap (λ (es : List (Xid × Pos)). lookup (is_at (xid_cmp x)) es) xids ∙ h.ids x;
      apart = h.apart;
      ordered = subst (λ (es : List (Pos × Open)). IsStrictlySortedBy pos_cmp (keys_of es)) (sym txns) h.ordered;
      holds = λ k x. h.holds k x ∙ ap (λ (es : List (Key × Hold)). own_change x (lookup (is_at (key_cmp k)) es)) (sym locks);
      count = survivors ∙ h.count;
    })

pub began_too : (rec : ℕ) (ts us : List OpenTxn) → us ≡ ts → BeganBy rec ts → BeganBy rec us
began_too rec ts us same began = subst (BeganBy rec) (sym same) began

-- When the open transactions began: before the next vector, in whichever record it stands.
use Rattle.std.proofs.Common.{◌≡◌, ℕ, ◌+◌, ◌≤◌, ◌<◌, List, [], ◌∷◌, ◌++◌, refl, ap, ◌∙◌, Bool, true, false, cond, not, Less, Equal, Greater, nat_lt, ◌==◌, arith}
use Rattle.std.proofs.lemmas.Bool.Decides.{nat_tests}
use Rattle.std.proofs.lemmas.Map.Lookups.{exact_unsigned}
use Rattle.std.specs.Ordering.{nat_cmp, ordering_then}
use Rattle.rl_value.specs.declared.pos.Pos.{Pos}
use Rattle.rl_value.specs.declared.xid.Xid.{Xid}
use Rattle.rl_value.specs.Order.{pos_cmp}
use Rattle.redo_vec.specs.declared.table.TableRow.{TableRow}
use Rattle.redo_vec.specs.declared.vector.Vector.{Vector}
use Rattle.redo_vec.specs.declared.vector.Vector.TheVariants.{Start, Change as OfChange, Undo, Commit, Rollback, Table, DictEnd}
use Rattle.redo_spec.specs.ConflictKeys.{conflict_keys}
use Rattle.redo_spec.specs.History.{same_xid}
use Rattle.redo_spec.specs.Standing.{OpenTxn, with_open, without_open, open_txn_after_change, open_txn_after_undo, active_after}
use Rattle.redo_law.specs.OpenTransactions.{BeganBefore}
use Rattle.redo_law.specs.States.{BeganBy}

nat_less : (a b : ℕ) → a < b → nat_cmp a b ≡ Less
nat_less a b e = let test : nat_lt a b ≡ true = grind (arith, nat_tests, e) in
    ap (λ t. cond t Less (cond (a == b) Equal Greater)) test

less_nat : (a b : ℕ) → nat_cmp a b ≡ Less → a < b
less_nat a b e = elim (nat_lt a b) as (λ t. nat_lt a b ≡ t → cond t Less (cond (a == b) Equal Greater) ≡ Less → a < b) [
  | true ↦ λ is h. grind (arith, nat_tests, is)
  | false ↦ λ is h. elim (a == b) as (λ t. cond t Equal Greater ≡ Less → a < b) [
    | true ↦ λ g. absurd (cc)
    | false ↦ λ g. absurd (cc)
  ] h
] refl e

nat_equal : (a : ℕ) → nat_cmp a a ≡ Equal
nat_equal a =
    let below : nat_lt a a ≡ false = grind (arith, nat_tests) in
    let same : (a == a) ≡ true = grind (arith, nat_tests) in
    ap (λ t. cond t Less (cond (a == a) Equal Greater)) below ∙ ap (λ t. cond t Equal Greater) same

abbrev at : ℕ → ℕ → Pos
at rec vec = record { rec = rec; vec = vec }

-- ---- one position

earlier_rec : (p : Pos) (rec vec : ℕ) → pos_cmp p (at rec vec) ≡ Less → p.rec ≤ rec
earlier_rec p rec vec e = elim (nat_cmp p.rec rec) as (λ o. nat_cmp p.rec rec ≡ o →
    ordering_then o (nat_cmp p.vec vec) ≡ Less → p.rec ≤ rec) [
      | Less ↦ λ is h. let less = less_nat p.rec rec is in omega (arith, less)
      | Equal ↦ λ is h. let same = exact_unsigned p.rec rec is in omega (arith, same)
      | Greater ↦ λ is h. absurd (cc)
    ] refl e

earlier_later : (p : Pos) (rec vec : ℕ) → pos_cmp p (at rec vec) ≡ Less → pos_cmp p (at rec (vec + 1)) ≡ Less
earlier_later p rec vec e = elim (nat_cmp p.rec rec) as (λ o. ordering_then o (nat_cmp p.vec vec) ≡ Less →
    ordering_then o (nat_cmp p.vec (vec + 1)) ≡ Less) [
      | Less ↦ λ h. refl
      | Equal ↦ λ h. let less = less_nat p.vec vec h in nat_less p.vec (vec + 1) (omega (arith, less))
      | Greater ↦ λ h. absurd (cc)
    ] e

here_later : (rec vec : ℕ) → pos_cmp (at rec vec) (at rec (vec + 1)) ≡ Less
here_later rec vec = ap (λ o. ordering_then o (nat_cmp vec (vec + 1))) (nat_equal rec) ∙ nat_less vec (vec + 1) (omega arith)

-- ---- all of them

pub began_by : (rec vec : ℕ) (ts : List OpenTxn) → BeganBefore (at rec vec) ts → BeganBy rec ts
began_by rec vec [] all = tt
began_by rec vec (t ∷ ts) all = (earlier_rec t.start rec vec all.0, began_by rec vec ts all.1)

pub began_from : (rec vec : ℕ) (ts : List OpenTxn) → BeganBy rec ts → BeganBefore (at (rec + 1) vec) ts
began_from rec vec [] all = tt
began_from rec vec (t ∷ ts) all =
    let here = all.0 in (
      ap (λ o. ordering_then o (nat_cmp t.start.vec vec)) (nat_less t.start.rec (rec + 1) (omega (arith, here))),
      began_from rec vec ts all.1,
    )

began_later : (rec vec : ℕ) (ts : List OpenTxn) → BeganBefore (at rec vec) ts → BeganBefore (at rec (vec + 1)) ts
began_later rec vec [] all = tt
began_later rec vec (t ∷ ts) all = (earlier_later t.start rec vec all.0, began_later rec vec ts all.1)

began_push : (p : Pos) (ts : List OpenTxn) (t : OpenTxn) → BeganBefore p ts → pos_cmp t.start p ≡ Less →
    BeganBefore p (ts ++ t ∷ [])
began_push p [] t all e = (e, tt)
began_push p (u ∷ us) t all e = (all.0, began_push p us t all.1 e)

start_kept : (f : OpenTxn → OpenTxn) → ((t : OpenTxn) → (f t).start ≡ t.start) → (b : Bool) (t : OpenTxn) →
    (cond b (f t) t).start ≡ t.start
start_kept f keeps true t = keeps t
start_kept f keeps false t = refl

began_changed : (f : OpenTxn → OpenTxn) → ((t : OpenTxn) → (f t).start ≡ t.start) → (p : Pos) (x : Xid) (ts : List OpenTxn) →
    BeganBefore p ts → BeganBefore p (with_open f x ts)
began_changed f keeps p x [] all = tt
began_changed f keeps p x (t ∷ ts) all = (
  ap (λ s. pos_cmp s p) (start_kept f keeps (same_xid t.xid x) t) ∙ all.0,
  began_changed f keeps p x ts all.1,
)

began_closed : (p : Pos) (x : Xid) (ts : List OpenTxn) → BeganBefore p ts → BeganBefore p (without_open x ts)
began_closed p x [] all = tt
began_closed p x (t ∷ ts) all = elim (same_xid t.xid x) as (λ b. BeganBefore p
    (cond (not b) (t ∷ without_open x ts) (without_open x ts))) [
      | true ↦ began_closed p x ts all.1
      | false ↦ (all.0, began_closed p x ts all.1)
    ]

-- also after one more vector
pub began_next : (tables : List TableRow) (rec vec : ℕ) (v : Vector) (ts : List OpenTxn) → BeganBefore (at rec vec) ts →
    BeganBefore (at rec (vec + 1)) (active_after tables (at rec vec) v ts)
began_next tables rec vec (Start x) ts all = began_push (at rec (vec + 1)) ts _ (began_later rec vec ts all) (here_later rec vec)
began_next tables rec vec (OfChange c) ts all = began_changed (open_txn_after_change (conflict_keys tables c)) (λ t. refl)
    (at rec (vec + 1)) c.xid ts (began_later rec vec ts all)
began_next tables rec vec (Undo x) ts all = began_changed open_txn_after_undo (λ t. refl) (at rec (vec + 1)) x ts
    (began_later rec vec ts all)
began_next tables rec vec (Commit x) ts all = began_closed (at rec (vec + 1)) x ts (began_later rec vec ts all)
began_next tables rec vec (Rollback x) ts all = began_closed (at rec (vec + 1)) x ts (began_later rec vec ts all)
began_next tables rec vec (Table t) ts all = began_later rec vec ts all
began_next tables rec vec DictEnd ts all = began_later rec vec ts all

-- Who holds a key: the open transaction of which a surviving change touches it, and the first such change.
-- The changes of a transaction are counted from 0, the oldest first.
use Rattle.std.specs.Prelude.{◌≡◌, ℕ, ◌+◌, List, [], ◌∷◌, Bool, false, cond, ◌&&◌, ◌==◌, Option, Some, None, filter, not, ⊤}
use Rattle.std.specs.List.{list_any}
use Rattle.std.specs.Option.{option_or}
use Rattle.std.specs.Ordering.{eq_by_cmp}
use Rattle.rl_value.specs.declared.key.Key.{Key}
use Rattle.rl_value.specs.declared.xid.Xid.{Xid}
use Rattle.rl_value.specs.Order.{key_cmp}
use Rattle.redo_spec.specs.History.{same_xid}
use Rattle.redo_spec.specs.Locks.{held_keys}
use Rattle.redo_spec.specs.Standing.{OpenTxn}
use Rattle.redo_law.specs.declared.hold.Hold.{Hold}
use Rattle.redo_law.specs.Calls.{open_of}

-- the key is in the list
abbrev pub has_key : Key → List Key → Bool
has_key k ks = list_any (eq_by_cmp key_cmp k) ks

-- the first of these changes that touches the key, where the first of them has this number
abbrev pub first_from : Key → ℕ → List (List Key) → Option ℕ
first_from k n [] = None
first_from k n (ks ∷ more) = cond (has_key k ks) (Some n) (first_from k (n + 1) more)

-- the first change of a transaction that touches the key, if it is open
abbrev pub change_in : Key → Option OpenTxn → Option ℕ
change_in k None = None
change_in k (Some t) = first_from k 0 t.keys

-- the change of the hold, where it is this transaction's
abbrev pub own_change : Xid → Option Hold → Option ℕ
own_change x None = None
own_change x (Some h) = cond (same_xid h.holder x) (Some h.change) None

-- Each key is held by the one open transaction of which a surviving change touches it, from the first such change on,
-- and by none where there is none.
abbrev pub Holds : (Key → Option Hold) → List OpenTxn → Type 0
Holds holds ts = (k : Key) (x : Xid) → change_in k (open_of x ts) ≡ own_change x (holds k)

-- it is the hold of this transaction from this change on
abbrev pub is_hold : Xid → ℕ → Option Hold → Bool
is_hold x n None = false
is_hold x n (Some h) = same_xid h.holder x && (h.change == n)

-- the key in front, where another than this transaction holds it
abbrev pub if_blocked : Xid → Key → Option Hold → List (Key × Xid) → List (Key × Xid)
if_blocked x k None rest = rest
if_blocked x k (Some h) rest = cond (same_xid h.holder x) rest ((k, h.holder) ∷ rest)

-- those of the keys that another than this transaction holds, each with its holder
abbrev pub blocked_keys : (Key → Option Hold) → Xid → List Key → List (Key × Xid)
blocked_keys holds x [] = []
blocked_keys holds x (k ∷ ks) = if_blocked x k (holds k) (blocked_keys holds x ks)

-- the held keys that a change of this transaction with these keys touches, and that another transaction holds
abbrev pub contended_keys : Xid → List Key → List OpenTxn → List (Key × Xid)
contended_keys x keys ts = filter (λ k. not (same_xid k.1 x) && list_any (eq_by_cmp key_cmp k.0) keys) (held_keys ts)

-- no two of the transactions have one id
abbrev pub Apart : List OpenTxn → Type 0
Apart [] = ⊤
Apart (t ∷ ts) = (open_of t.xid ts ≡ None) × Apart ts

-- ---- what becomes of the locks, key by key

-- these keys are taken by this hold, as far as they are free
abbrev pub hold_after_take : (Key → Option Hold) → List Key → Hold → Key → Option Hold
hold_after_take holds ks h q = option_or (holds q) (cond (has_key q ks) (Some h) None)

-- these keys are free that this transaction took with this change
abbrev pub hold_after_undo : (Key → Option Hold) → List Key → Xid → ℕ → Key → Option Hold
hold_after_undo holds ks x n q = cond (has_key q ks && is_hold x n (holds q)) None (holds q)

-- these keys are free
abbrev pub hold_after_free : (Key → Option Hold) → List Key → Key → Option Hold
hold_after_free holds ks q = cond (has_key q ks) None (holds q)

-- the keys of these changes are free
abbrev pub hold_after_end : (Key → Option Hold) → List (List Key) → Key → Option Hold
hold_after_end holds kss q = cond (list_any (has_key q) kss) None (holds q)

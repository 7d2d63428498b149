-- The list of the open transactions, in order of START, as the entries of a map by the position of START give it; and what a
-- transaction gives back with its latest change.
use Rattle.std.specs.Prelude.{◌≡◌, ℕ, ◌+◌, ◌-◌, List, length, map, take, Option, Some, sum_by}
use Rattle.std.specs.List.{AllByRecursion}
use Rattle.std.specs.declared.cmp.Ordering.TheVariants.{Less}
use Rattle.rl_value.specs.declared.key.Key.{Key}
use Rattle.rl_value.specs.declared.pos.Pos.{Pos}
use Rattle.rl_value.specs.Order.{pos_cmp}
use Rattle.redo_spec.specs.Standing.{OpenTxn, with_open, open_txn_after_undo}
use Rattle.redo_law.specs.declared.hold.Hold.{Hold}
use Rattle.redo_law.specs.declared.survivors.Open.{Open}
use Rattle.redo_law.specs.Calls.{open_of}
use Rattle.redo_law.specs.Held.{Holds}

-- the transaction of an entry, which stands by the position of its START
abbrev pub entry_txn : Pos × Open → OpenTxn
entry_txn e = record { start = e.0; xid = e.1.xid; keys = e.1.keys }

-- the transactions of the entries, in their order
abbrev pub entry_txns : List (Pos × Open) → List OpenTxn
entry_txns es = map entry_txn es

-- how many surviving changes they have
abbrev pub change_count : List OpenTxn → ℕ
change_count ts = sum_by (λ t. length t.keys) ts

-- each of them began before this position
abbrev pub BeganBefore : Pos → List OpenTxn → Type 0
BeganBefore at ts = AllByRecursion (λ t. pos_cmp t.start at ≡ Less) ts

-- the transaction gave its latest change back, if it had one, and with it the keys that this change took; the count says how
-- many changes those are
pub record GivesBack (old new : Open) (holds after : Key → Option Hold) (count : ℕ) : Type 0 where
  pub xid : new.xid ≡ old.xid
  pub keys : new.keys ≡ take (length old.keys - 1) old.keys
  pub counted : length new.keys + count ≡ length old.keys
  pub freed : (ts : List OpenTxn) (start : Pos) → open_of old.xid ts ≡ Some (entry_txn (start, old)) → Holds holds ts →
      Holds after (with_open open_txn_after_undo old.xid ts)

-- The open transactions as they are kept: by the position of their START, with their ids beside them and a table of locks.
-- In the order of START they are the list `active` of a standing.
use Rattle.std.specs.Prelude.{◌≡◌, List}
use Rattle.std.specs.Option.{option_map}
use Rattle.std.specs.BTreeMap as tree
use Rattle.rl_value.specs.declared.xid.Xid.{Xid}
use Rattle.rl_value.specs.Order.{key_cmp, pos_cmp, xid_cmp}
use Rattle.redo_spec.specs.Standing.{OpenTxn}
use Rattle.redo_law.specs.declared.open_transactions.OpenTransactions.TheInside.{Inside}
use Rattle.redo_law.specs.Calls.{open_of}
use Rattle.redo_law.specs.Held.{Holds, Apart}
use Rattle.redo_law.specs.OpenTransactions.{entry_txns, change_count}

-- the open transactions in order of START
abbrev pub txns_by_start : Inside → List OpenTxn
txns_by_start t = entry_txns t.txns.entries

-- these transactions are kept, and the parts fit each other
pub record Keeps (t : Inside) (ts : List OpenTxn) : Type 0 where
  pub ids : (x : Xid) → tree.get xid_cmp t.xids x ≡ option_map (λ u. u.start) (open_of x ts)
  pub apart : Apart ts
  pub ordered : tree.IsOrdered pos_cmp t.txns
  pub holds : Holds (tree.get key_cmp t.locks) ts
  pub count : t.survivors ≡ change_count ts

-- the parts agree with what they are in order of START
abbrev pub IsConsistent : Inside → Type 0
IsConsistent t = Keeps t (txns_by_start t)

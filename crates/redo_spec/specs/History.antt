-- The history of the redo: its transactions, each open, committed or rolled back, with their surviving changes.
-- A live transaction is named by the position of its START, since a transaction id is used again.
-- A commit's number is its place in the order of the COMMIT records, from 1 over the whole redo.
use Rattle.std.specs.Prelude.{ℕ, ◌+◌, ◌-◌, List, [], ◌∷◌, ◌++◌, drop, length, map, filter, Bool, not, ◌&&◌, ◌==◌, if◌then◌else◌}
use Rattle.std.specs.List.{list_any}
use Rattle.rl_value.specs.declared.pos.Pos.{Pos}
use Rattle.rl_value.specs.declared.xid.Xid.{Xid}
use Rattle.redo_vec.specs.declared.change.Change.{Change}
use Rattle.redo_vec.specs.declared.redo_rec.RedoRec.{RedoRec}
use Rattle.redo_vec.specs.declared.vector.Vector.{Vector}
use Rattle.redo_vec.specs.declared.vector.Vector.TheVariants.{Start, Change as OfChange, Undo, Commit, Rollback, Table, DictEnd}
use Rattle.redo_spec.specs.declared.header.Header.{Header}
use Rattle.redo_spec.specs.Survivors.{after_change, after_undo}

-- a record, and the header of its log
abbrev pub Entry : Type 0
Entry = Header × RedoRec

-- a change by its position
abbrev pub Placed : Type 0
Placed = Pos × Change

-- a transaction by the position of its START, and its surviving changes in order
pub record Txn : Type 0 where
  pub start : Pos
  pub xid : Xid
  pub survivors : List Placed

-- a committed transaction, with the position of its COMMIT and its SCN
pub record Committed : Type 0 where
  pub txn : Txn
  pub at : Pos
  pub scn : ℕ

-- commits in their order; the first of them has the number after `before`
pub record Commits : Type 0 where
  pub before : ℕ
  pub made : List Committed

-- the commits numbered above n
abbrev pub commits_after : Commits → ℕ → List Committed
commits_after cs n = drop (n - cs.before) cs.made

-- the number of the last commit
abbrev pub commit_count : Commits → ℕ
commit_count cs = cs.before + length cs.made

-- the transactions that are open, in order of START; those committed, in order of COMMIT; and those rolled back
pub record History : Type 0 where
  pub active : List Txn
  pub commits : Commits
  pub rolled_back : List Txn

-- no transaction yet, behind this many commits
abbrev pub no_history : ℕ → History
no_history before = record { active = []; commits = record { before = before; made = [] }; rolled_back = [] }

-- two transaction ids are equal
abbrev pub same_xid : Xid → Xid → Bool
same_xid x y = (x.usn == y.usn) && (x.slot == y.slot) && (x.sqn == y.sqn)

-- those of this transaction id
abbrev pub of_xid : Xid → List Txn → List Txn
of_xid x ts = filter (λ t. same_xid t.xid x) ts

-- those of other transaction ids
abbrev pub but_xid : Xid → List Txn → List Txn
but_xid x ts = filter (λ t. not (same_xid t.xid x)) ts

-- one of these has the transaction id
abbrev pub has_xid : Xid → List Txn → Bool
has_xid x ts = list_any (λ t. same_xid t.xid x) ts

-- the transactions, with the one of this id changed so
abbrev pub with_xid : (Txn → Txn) → Xid → List Txn → List Txn
with_xid f x ts = map (λ t. if same_xid t.xid x then f t else t) ts

-- a transaction after one more change
abbrev pub txn_after_change : Placed → Txn → Txn
txn_after_change p t = record t { survivors = after_change t.survivors p }

-- a transaction after an UNDO
abbrev pub txn_after_undo : Txn → Txn
txn_after_undo t = record t { survivors = after_undo t.survivors }

-- A transaction of which only the COMMIT at this position is known, and which so has no changes here. There is none in
-- a redo from its first record on; behind a later record there is one for each transaction that began before it and
-- commits behind it.
abbrev pub txn_known_by_commit : Pos → Xid → Txn
txn_known_by_commit at x = record { start = at; xid = x; survivors = [] }

-- the transactions that a COMMIT at this position ends
abbrev pub txns_ended_by : Pos → Xid → List Txn → List Txn
txns_ended_by at x ts = if has_xid x ts then of_xid x ts else txn_known_by_commit at x ∷ []

-- one more transaction of this id is open
abbrev pub with_started : Pos → Xid → List Txn → List Txn
with_started at x ts = ts ++ record { start = at; xid = x; survivors = [] } ∷ []

-- the commits, with these transactions committed at this position and SCN
abbrev pub with_commits_at : Pos → ℕ → List Txn → Commits → Commits
with_commits_at at scn ts cs = record cs { made = cs.made ++ map (λ t. record { txn = t; at = at; scn = scn }) ts }

-- the history after one more vector, at this position in a record of this SCN
abbrev pub after_vector : ℕ → Pos → Vector → History → History
after_vector scn at (Start x) h = record h { active = with_started at x h.active }
after_vector scn at (OfChange c) h = record h { active = with_xid (txn_after_change (at, c)) c.xid h.active }
after_vector scn at (Undo x) h = record h { active = with_xid txn_after_undo x h.active }
after_vector scn at (Commit x) h = record h {
  active = but_xid x h.active;
  commits = with_commits_at at scn (txns_ended_by at x h.active) h.commits;
}
after_vector scn at (Rollback x) h = record h { active = but_xid x h.active; rolled_back = h.rolled_back ++ of_xid x h.active }
after_vector scn at (Table t) h = h
after_vector scn at DictEnd h = h

-- the history after these vectors of record rec, the first of which has this number in it
abbrev pub after_vectors : ℕ → ℕ → ℕ → List Vector → History → History
after_vectors scn rec vec [] h = h
after_vectors scn rec vec (v ∷ vs) h = after_vectors scn rec (vec + 1) vs (after_vector scn (record { rec = rec; vec = vec }) v h)

-- the history after one more record, of this number
abbrev pub history_after : ℕ → Entry → History → History
history_after rec (h, r) history = after_vectors r.scn rec 1 r.vectors history

-- the history after these records, the first of which follows on record rec
abbrev pub history_at : ℕ → List Entry → History → History
history_at rec [] history = history
history_at rec (e ∷ es) history = history_at (rec + 1) es (history_after (rec + 1) e history)

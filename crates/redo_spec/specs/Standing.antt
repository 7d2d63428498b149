-- Standing: what the records so far leave for judging the next one, and nothing else.
-- Of an open transaction it has the conflict keys of each surviving change, and not the change itself; of a commit it has
-- the SCN and nothing else. The whole history of the transactions stands beside it (`History`), and the two agree: each
-- open transaction has the keys of its survivors there.
use Rattle.std.specs.Prelude.{ℕ, ◌+◌, List, [], ◌∷◌, ◌++◌, length, map, filter, Bool, not, if◌then◌else◌, Option, Some, None, sum_by}
use Rattle.std.specs.List.{list_any}
use Rattle.rl_value.specs.declared.key.Key.{Key}
use Rattle.rl_value.specs.declared.pos.Pos.{Pos}
use Rattle.rl_value.specs.declared.xid.Xid.{Xid}
use Rattle.redo_vec.specs.declared.table.TableRow.{TableRow}
use Rattle.redo_vec.specs.declared.vector.Vector.{Vector}
use Rattle.redo_vec.specs.declared.vector.Vector.TheVariants.{Start, Change as OfChange, Undo, Commit, Rollback, Table, DictEnd}
use Rattle.redo_spec.specs.declared.header.Header.{Header}
use Rattle.redo_spec.specs.Dictionary.{Dictionary, no_dictionary, dictionary_after}
use Rattle.redo_spec.specs.ConflictKeys.{conflict_keys}
use Rattle.redo_spec.specs.History.{Entry, Txn, same_xid}
use Rattle.redo_spec.specs.Survivors.{after_change, after_undo}

-- an open transaction: the position of its START, its id, and the conflict keys of each of its survivors, the oldest first
pub record OpenTxn : Type 0 where
  pub start : Pos
  pub xid : Xid
  pub keys : List (List Key)

-- What the records so far leave: the sequence of the standby's first log, how many records they are, the log of the last
-- of them, its SCN, the SCN of the last commit, the dictionary, and the open transactions in order of START. Up to record
-- `known`, transactions may go on whose START is not among these records.
pub record Standing : Type 0 where
  pub first : ℕ
  pub known : ℕ
  pub rec : ℕ
  pub head : Option Header
  pub scn : ℕ
  pub commit_scn : ℕ
  pub dictionary : Dictionary
  pub active : List OpenTxn

-- before the first record of a standby whose first log has this sequence, and whose base has this SCN
abbrev pub beginning : ℕ → ℕ → Standing
beginning first base = record {
  first = first;
  known = 0;
  rec = 0;
  head = None;
  scn = base;
  commit_scn = base;
  dictionary = no_dictionary;
  active = [];
}

-- a transaction of this id is open
abbrev pub is_open : Standing → Xid → Bool
is_open s x = list_any (λ t. same_xid t.xid x) s.active

-- how many surviving changes the open transactions have
abbrev pub survivor_count : Standing → ℕ
survivor_count s = sum_by (λ t. length t.keys) s.active

-- ---- one more vector

-- the open transactions, with the one of this id changed so
abbrev pub with_open : (OpenTxn → OpenTxn) → Xid → List OpenTxn → List OpenTxn
with_open f x ts = map (λ t. if same_xid t.xid x then f t else t) ts

-- an open transaction after a change that touches these keys
abbrev pub open_txn_after_change : List Key → OpenTxn → OpenTxn
open_txn_after_change keys t = record t { keys = after_change t.keys keys }

-- an open transaction after an UNDO
abbrev pub open_txn_after_undo : OpenTxn → OpenTxn
open_txn_after_undo t = record t { keys = after_undo t.keys }

-- the open transactions of other ids
abbrev pub without_open : Xid → List OpenTxn → List OpenTxn
without_open x ts = filter (λ t. not (same_xid t.xid x)) ts

-- the open transactions after one more vector at this position, where the dictionary has these tables
abbrev pub active_after : List TableRow → Pos → Vector → List OpenTxn → List OpenTxn
active_after tables at (Start x) ts = ts ++ record { start = at; xid = x; keys = [] } ∷ []
active_after tables at (OfChange c) ts = with_open (open_txn_after_change (conflict_keys tables c)) c.xid ts
active_after tables at (Undo x) ts = with_open open_txn_after_undo x ts
active_after tables at (Commit x) ts = without_open x ts
active_after tables at (Rollback x) ts = without_open x ts
active_after tables at (Table t) ts = ts
active_after tables at DictEnd ts = ts

-- the SCN of the last commit after a vector in a record of this SCN
abbrev pub commit_scn_after : ℕ → ℕ → Vector → ℕ
commit_scn_after last scn (Start x) = last
commit_scn_after last scn (OfChange c) = last
commit_scn_after last scn (Undo x) = last
commit_scn_after last scn (Commit x) = scn
commit_scn_after last scn (Rollback x) = last
commit_scn_after last scn (Table t) = last
commit_scn_after last scn DictEnd = last

-- the standing within a record after its vector of this number
abbrev pub standing_after : ℕ → Vector → Standing → Standing
standing_after vec v s = record s {
  commit_scn = commit_scn_after s.commit_scn s.scn v;
  dictionary = dictionary_after s.dictionary v;
  active = active_after s.dictionary.tables (record { rec = s.rec; vec = vec }) v s.active;
}

-- the standing within a record after these vectors, the first of which has this number
abbrev pub standing_after_all : ℕ → List Vector → Standing → Standing
standing_after_all vec [] s = s
standing_after_all vec (v ∷ vs) s = standing_after_all (vec + 1) vs (standing_after vec v s)

-- ---- one more record

-- the standing as a record begins: it counts, and its log and its SCN are the last ones
abbrev pub standing_at_record : Entry → Standing → Standing
standing_at_record (h, r) s = record s { rec = s.rec + 1; head = Some h; scn = r.scn }

-- the standing after one more record
abbrev pub record_after : Entry → Standing → Standing
record_after (h, r) s = standing_after_all 1 r.vectors (standing_at_record (h, r) s)

-- the standing after these records
abbrev pub standing_at : Standing → List Entry → Standing
standing_at s [] = s
standing_at s (e ∷ es) = standing_at (record_after e s) es

-- ---- beside the history

-- a transaction by the conflict keys of its survivors
abbrev pub open_txn : List TableRow → Txn → OpenTxn
open_txn tables t = record { start = t.start; xid = t.xid; keys = map (λ p. conflict_keys tables p.1) t.survivors }

-- the open transactions of a history by the conflict keys of their survivors
abbrev pub open_txns : List TableRow → List Txn → List OpenTxn
open_txns tables ts = map (open_txn tables) ts

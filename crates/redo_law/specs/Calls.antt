-- What the calls of a law say: where it begins, how a record is judged, and which transaction is open.
-- Which record may follow is `record_fault` of redo_spec; want of memory judges nothing.
use Rattle.std.specs.Prelude.{◌≡◌, ⊤, ℕ, ◌+◌, List, [], ◌∷◌, Bool, true, false, ◌&&◌, ◌||◌, Option, Some, None, is_none, Result, Ok, Err}
use Rattle.std.specs.List.{find}
use Rattle.std.specs.Option.{option_map}
use Rattle.rl_value.specs.declared.cause.LawFault.{LawFault}
use Rattle.rl_value.specs.declared.cause.LawFault.TheVariants as laws
use Rattle.rl_value.specs.declared.xid.Xid.{Xid}
use Rattle.redo_vec.specs.declared.vector.Vector.{Vector}
use Rattle.redo_vec.specs.declared.vector.Vector.TheVariants.{Start, Change as OfChange, Undo, Commit, Rollback, Table, DictEnd}
use Rattle.redo_spec.specs.declared.header.Header.{Header}
use Rattle.redo_spec.specs.History.{Entry, same_xid}
use Rattle.redo_spec.specs.Law.{vector_fault, whole_fault}
use Rattle.redo_spec.specs.Standing.{OpenTxn, Standing, is_open, standing_after, standing_at_record}
use Rattle.redo_law.specs.declared.start.LawStart.{LawStart}
use Rattle.redo_law.specs.declared.fault.AdmitFault.{AdmitFault}
use Rattle.redo_law.specs.declared.fault.AdmitFault.TheVariants as faults

-- the standing with which a law begins: no transaction is open
abbrev pub standing_of : LawStart → Standing
standing_of s = record {
  first = s.first;
  known = s.known;
  rec = s.rec;
  head = s.head;
  scn = s.scn;
  commit_scn = s.commit_scn;
  dictionary = s.dict;
  active = [];
}

-- a record is admitted where there is no reason against it, and is else refused for the first
abbrev pub Judges : {T : Type 0} → Option LawFault → Result T AdmitFault → Type 0
Judges fault (Ok done) = fault ≡ None
Judges fault (Err (faults.Law found)) = fault ≡ Some found
Judges fault (Err faults.Memory) = ⊤

-- where a record is refused for a fault of its own, this is what is left
abbrev pub Leaves : {T D : Type 0} → D → D → Result T AdmitFault → Type 0
Leaves want found (Ok done) = ⊤
Leaves want found (Err (faults.Law fault)) = found ≡ want
Leaves want found (Err faults.Memory) = ⊤

-- the open transaction of this id
abbrev pub open_of : Xid → List OpenTxn → Option OpenTxn
open_of x ts = find (λ t. same_xid t.xid x) ts

-- the record of the START of the open transaction of this id
abbrev pub start_rec : Xid → List OpenTxn → Option ℕ
start_rec x ts = option_map (λ t. t.start.rec) (open_of x ts)

-- this refusal tells the first reason, or want of memory
abbrev pub Refuses : Option LawFault → AdmitFault → Type 0
Refuses fault (faults.Law found) = fault ≡ Some found
Refuses fault faults.Memory = ⊤

-- ---- where memory may want

-- the call wants memory only where this holds
abbrev pub OnWant : {T : Type 0} → Result T AdmitFault → Type 0 → Type 0
OnWant (Ok done) P = ⊤
OnWant (Err (faults.Law fault)) P = ⊤
OnWant (Err faults.Memory) P = P

-- A vector that takes memory behind this standing. A change whose transaction is not open takes none: it is refused, or
-- passed over.
abbrev pub takes_memory : Standing → Vector → Bool
takes_memory s (Start x) = true
takes_memory s (OfChange c) = is_open s c.xid
takes_memory s (Undo x) = false
takes_memory s (Commit x) = false
takes_memory s (Rollback x) = false
takes_memory s (Table t) = true
takes_memory s DictEnd = false

-- There is no reason against the vector, or one that is looked for with memory: a table is copied before it is tested, and
-- the keys of a change before its locks and the count of changes are.
abbrev pub may_want : Option LawFault → Bool
may_want None = true
may_want (Some laws.Chain) = false
may_want (Some laws.Scn) = false
may_want (Some laws.Alone) = false
may_want (Some laws.Dictionary) = false
may_want (Some laws.Twice) = true
may_want (Some laws.Names) = true
may_want (Some laws.Keys) = true
may_want (Some laws.Limit) = true
may_want (Some laws.OpenTwice) = false
may_want (Some laws.NotOpen) = false
may_want (Some laws.NoTable) = false
may_want (Some laws.Columns) = false
may_want (Some laws.Types) = false
may_want (Some laws.Supplement) = false
may_want (Some (laws.Lock key holder)) = true
may_want (Some laws.Nothing) = false
may_want (Some laws.OpenLimit) = true

-- memory may want at one of these vectors, the first of which has this number, where none before it is refused
abbrev pub may_want_in : Header → ℕ → List Vector → Standing → Bool
may_want_in h vec [] s = false
may_want_in h vec (v ∷ vs) s =
    (takes_memory s v && may_want (vector_fault h s v)) ||
    (is_none (vector_fault h s v) && may_want_in h (vec + 1) vs (standing_after vec v s))

-- memory may want at a vector of the record, which may follow as a whole
abbrev pub wants_memory : Standing → Entry → Bool
wants_memory s (h, r) = is_none (whole_fault s (h, r)) && may_want_in h 1 r.vectors (standing_at_record (h, r) s)

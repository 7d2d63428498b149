-- What the parts of a law are together, the standing of the records so far, and what becomes of them with one more vector.
use Rattle.std.specs.Prelude.{ℕ, ◌≡◌, ◌≤◌, ◌&&◌, List, Option, Result, IsTrue, OnOk}
use Rattle.std.specs.Option.{option_map}
use Rattle.rl_value.specs.declared.cause.LawFault.{LawFault}
use Rattle.rl_value.specs.declared.cause.LawFault.TheVariants as faults
use Rattle.rl_value.specs.declared.key.Key.{Key}
use Rattle.rl_value.specs.declared.xid.Xid.{Xid}
use Rattle.std.specs.List.{AllByRecursion}
use Rattle.redo_vec.specs.declared.vector.Vector.{Vector}
use Rattle.redo_spec.specs.Standing.{Standing, OpenTxn, standing_after}
use Rattle.redo_law.specs.declared.fault.AdmitFault.{AdmitFault}
use Rattle.redo_law.specs.declared.state.State.{State}
use Rattle.redo_law.specs.Calls.{Judges, Leaves, OnWant, takes_memory, may_want}

-- the standing that the parts of a state are
abbrev pub standing_in : State → Standing
standing_in s = record {
  first = s.first;
  known = s.known;
  rec = s.rec;
  head = s.head;
  scn = s.scn;
  commit_scn = s.commit_scn;
  dictionary = s.dict;
  active = s.transactions;
}

-- each of them began in this record or before
abbrev pub BeganBy : ℕ → List OpenTxn → Type 0
BeganBy rec ts = AllByRecursion (λ t. t.start.rec ≤ rec) ts

-- between two records: no transaction began in a later one
abbrev pub IsBetweenRecords : State → Type 0
IsBetweenRecords s = BeganBy s.rec s.transactions

-- the standing with these open transactions
abbrev pub with_active : List OpenTxn → Standing → Standing
with_active ts s = record s { active = ts }

-- a held key, as the fault of a change that touches it
abbrev pub fault_of_lock : Option (Key × Xid) → Option LawFault
fault_of_lock held = option_map (λ k. faults.Lock k.0 k.1) held

-- A call takes the vector of this number, unless this fault stands against it: without one the state is that after the vector.
-- A refused vector leaves the dictionary as it was.
pub record TakesVector {T : Type 0} (fault : Option LawFault) (vec : ℕ) (v : Vector) (old new : State)
    (result : Result T AdmitFault) : Type 0 where
  pub done : OnOk result (standing_in new ≡ standing_after vec v (standing_in old))
  pub exact : Judges fault result
  pub memory : OnWant result (IsTrue (takes_memory (standing_in old) v && may_want fault))
  pub left : Leaves old.dict new.dict result

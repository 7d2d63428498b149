-- What is made ready of commits that are published together: the tables behind the last of them, and one batch that leads where
-- theirs lead one after the other, in which each row stands once.
use Rattle.std.specs.Prelude.{ℕ, ◌≡◌, ◌+◌, ◌<◌, ⊤, List, [], ◌∷◌, length, if◌then◌else◌, Option, Some, None, Result, Ok, Err, IfOk, IsTrue}
use Rattle.rl_ports.specs.declared.batch.Item.{Item}
use Rattle.rl_ports.specs.Store.{Store, is_store, after_batch}
use Rattle.redo_spec.specs.Tables.{Tables}
use Rattle.row_apply.specs.Overlaid.{overlaid}
use Rattle.row_apply.specs.Soundness.{AreSound}
use Rattle.table_store.specs.Stored.{TableSet}
use Rattle.standby_spec.specs.KeptState.{KeptState}
use Rattle.standby_spec.specs.Writings.{writable, state_after_all, items_for_all}
use Rattle.standby_spec.specs.Refusals.{Refusal, passes_limit, front_of}
use Rattle.standby_spec.specs.Publishing.{Ending, Done, Refused}
use Rattle.eager_work.specs.declared.commit.Commit.{Commit}
use Rattle.publisher.specs.declared.fault.GroupFault.{GroupFault}
use Rattle.publisher.specs.declared.fault.GroupFault.TheVariants as faults
use Rattle.publisher.specs.declared.merged.Merged.{Merged}
use Rattle.publisher.specs.declared.prepared.Prepared.{Prepared}
use Rattle.publisher.specs.Groups.{GroupTells, ending_of_group_fault, parts_of}
use Rattle.publisher.specs.MergedRows.{ByKey, entered_all}
use Rattle.publisher.specs.Prepares.{IsReady}
use Rattle.publisher.specs.Shown.{shown_next}

-- ---- commits one after the other

-- the tables behind them, each over those that the ones before it leave
abbrev pub tables_behind_all : Tables → List Commit → Tables
tables_behind_all tables [] = tables
tables_behind_all tables (c ∷ cs) = tables_behind_all (overlaid tables (writable tables c.writes)) cs

-- their rows, each as the last of them leaves it
abbrev pub rows_of_all : ByKey → Tables → List Commit → ByKey
rows_of_all entries tables [] = entries
rows_of_all entries tables (c ∷ cs) =
    rows_of_all (entered_all entries (writable tables c.writes)) (overlaid tables (writable tables c.writes)) cs

-- how many come before the first that passes the row limit
abbrev pub count_within : Tables → List Commit → ℕ
count_within tables [] = 0
count_within tables (c ∷ cs) =
    if passes_limit tables (writable tables c.writes) then 0
    else 1 + count_within (overlaid tables (writable tables c.writes)) cs

-- the number and the SCN of the last
abbrev pub last_number : List Commit → ℕ
last_number [] = 0
last_number (c ∷ []) = c.number
last_number (c ∷ d ∷ cs) = last_number (d ∷ cs)

abbrev pub last_scn : List Commit → ℕ
last_scn [] = 0
last_scn (c ∷ []) = c.scn
last_scn (c ∷ d ∷ cs) = last_scn (d ∷ cs)

-- ---- what is made of them

pub record IsBehind (tables : Tables) (commits : List Commit) (after : TableSet) (merged : Merged) : Type 0 where
  pub tables_are : after.tables ≡ tables_behind_all tables commits
  pub rows_are : merged.items.entries ≡ rows_of_all [] tables commits
  pub sound : AreSound after.tables
  pub within : count_within tables commits ≡ length commits

-- where one of them passes the limit, so many come before it
pub record StopsAfter (tables : Tables) (commits : List Commit) (n : ℕ) : Type 0 where
  pub count : n ≡ count_within tables commits
  pub fewer : n < length commits

abbrev pub StopsBy : Tables → List Commit → GroupFault → Type 0
StopsBy tables commits faults.KeeperFault = ⊥
StopsBy tables commits (faults.NotNext n) = ⊥
StopsBy tables commits (faults.RowLimitAfter n) = StopsAfter tables commits n
StopsBy tables commits faults.Memory = ⊤

abbrev pub TakesGroup : Tables → List Commit → Result (TableSet × Merged) GroupFault → Type 0
TakesGroup tables commits (Ok (after, merged)) = IsBehind tables commits after merged
TakesGroup tables commits (Err fault) = StopsBy tables commits fault

-- ---- what is ready

-- a batch leads where these items lead, from each store
abbrev pub LeadsAlike : List Item → List Item → Type 0
LeadsAlike batch items = (pairs : Store) → IsTrue (is_store pairs) → after_batch batch pairs ≡ after_batch items pairs

-- the state behind all of them, by a batch that leads there
pub record MakesAll (s : KeptState) (commits : List Commit) (p : Prepared) : Type 0 where
  pub items : LeadsAlike p.batch (items_for_all (front_of s (parts_of commits)) s)
  pub next : shown_next p.next (Some s) ≡ Some (state_after_all (front_of s (parts_of commits)) s)

abbrev pub MakesGroup : KeptState → List Commit → Result Prepared GroupFault → Type 0
MakesGroup s commits (Ok p) = MakesAll s commits p
MakesGroup s commits (Err fault) = ending_of_group_fault fault ≡ Refused

abbrev pub DeclinesGroup : Option Refusal → Result Prepared GroupFault → Type 0
DeclinesGroup reason (Ok p) = reason ≡ None
DeclinesGroup reason (Err fault) = GroupTells reason fault

pub record PreparesGroup (s : KeptState) (commits : List Commit) (reason : Option Refusal) (prepared : Result Prepared GroupFault)
    : Type 0 where
  pub made : MakesGroup s commits prepared
  pub declined : DeclinesGroup reason prepared
  pub ready : IfOk prepared (IsReady (Some s))

-- ---- the commit of the store

-- a batch that leads where these items lead, and this state behind it; a refusal is no failure of a store
abbrev pub MakesAlike : List Item → Option KeptState → KeptState → Result Prepared GroupFault → Type 0
MakesAlike items state later (Ok p) = LeadsAlike p.batch items × (shown_next p.next state ≡ Some later)
MakesAlike items state later (Err fault) = ending_of_group_fault fault ≡ Refused

abbrev pub ending_of_group : {T : Type 0} → Result T GroupFault → Ending
ending_of_group (Ok done) = Done
ending_of_group (Err fault) = ending_of_group_fault fault

abbrev pub RefusesGroupOf : {T : Type 0} → Option Refusal → Result T GroupFault → Type 0
RefusesGroupOf reason (Ok done) = reason ≡ None
RefusesGroupOf reason (Err fault) = GroupTells reason fault

-- What a contract sees of the publisher: its durable store, the state that it shows, and whether it is stopped.
-- A writing call makes its one commit of the store first and shows the new state then. Where that commit fails, the state that
-- is shown stays, the publisher is stopped, and the store holds the pairs from before it or those after it.
use Rattle.std.specs.Prelude.{ℕ, ◌≡◌, ◌≤◌, ◌⊎◌, List, [], length, Bool, true, false, Option, Some, None, IsTrue}
use Rattle.std.specs.List.{list_all}
use Rattle.std.specs.Option.{option_map, option_map_or}
use Rattle.rl_ports.specs.declared.batch.Item.{Item}
use Rattle.rl_ports.specs.Store.{Store, after_batch}
use Rattle.rl_ports.specs.Faults.{Rose, NoneCounted, Told}
use Rattle.redo_vec.specs.declared.table.TableRow.{TableRow}
use Rattle.redo_spec.specs.Skips.{Skip}
use Rattle.redo_spec.specs.Tables.{Tables}
use Rattle.redo_spec.specs.Fold.{Base}
use Rattle.skip_guard.specs.declared.guard.Level.{Level}
use Rattle.skip_guard.specs.declared.guard.Level.TheVariants.{All}
use Rattle.log_registry.specs.declared.entry.LogEntry.{LogEntry}
use Rattle.standby_spec.specs.declared.mark.Mark.{Mark}
use Rattle.standby_spec.specs.KeptState.{KeptState}
use Rattle.standby_spec.specs.Layout.{pairs_of}
use Rattle.standby_spec.specs.Writings.{Writing, AddLog, AddSkip, SetLevel, PutRow, Publish, KeepMark, created_state, state_after, items_for, state_after_all, items_for_all}
use Rattle.standby_spec.specs.HasLayout.{HasLayout}
use Rattle.standby_spec.specs.StandbyRedo.{Archived}
use Rattle.standby_spec.specs.Fits.{Fits}

-- the durable store, the state that is shown, where a standby was created, and whether a commit of the store failed
pub record Publishing (K : Type 0) : Type 0 where
  pub keeper : K
  pub state : Option KeptState
  pub stopped : Bool

-- ---- what its reading calls show

-- dbid, first sequence and base SCN
abbrev pub shown_born : Option KeptState → Option (ℕ × ℕ × ℕ)
shown_born state = option_map (λ s. (s.dbid, s.first, s.base)) state

abbrev pub shown_logs : Option KeptState → List LogEntry
shown_logs state = option_map_or (λ s. s.logs) state []

abbrev pub shown_skips : Option KeptState → List Skip
shown_skips state = option_map_or (λ s. s.skips) state []

abbrev pub shown_level : Option KeptState → Level
shown_level state = option_map_or (λ s. s.level) state All

abbrev pub shown_mark : Option KeptState → Option Mark
shown_mark None = None
shown_mark (Some s) = s.mark

abbrev pub shown_tables : Option KeptState → Tables
shown_tables state = option_map_or (λ s. s.tables) state []

abbrev pub shown_count : Option KeptState → ℕ
shown_count state = option_map_or (λ s. s.n) state 0

abbrev pub shown_scn : Option KeptState → ℕ
shown_scn state = option_map_or (λ s. s.scn) state 0

-- ---- how a writing call ends

-- done; the commit of the store failed; or refused before it, for want of memory too
pub data Ending : Type 0 where
  Done : Ending
  Failed : Ending
  Refused : Ending

-- what a store holds where it is told, behind a call that ends so and was to do these items
abbrev pub HoldsAfter : List Item → Ending → Store → Option Store → Type 0
HoldsAfter items Done old now = now ≡ Some (after_batch items old)
HoldsAfter items Failed old now = (now ≡ Some old) ⊎ (now ≡ Some (after_batch items old))
HoldsAfter items Refused old now = now ≡ Some old

-- the same, where a store that does not tell what it holds goes on so
abbrev pub StoreAfter : List Item → Ending → Option Store → Option Store → Type 0
StoreAfter items ending None now = now ≡ None
StoreAfter items ending (Some old) now = HoldsAfter items ending old now

-- the state that is shown: the new one where the call is done, and else the old one
abbrev pub shown_after : KeptState → Ending → Option KeptState → Option KeptState
shown_after next Done old = Some next
shown_after next Failed old = old
shown_after next Refused old = old

-- it is stopped where the commit of the store failed
abbrev pub is_failed : Ending → Bool
is_failed Done = false
is_failed Failed = true
is_failed Refused = false

-- The count of the store's faults rose where its commit failed. Else no failure was met, so none was counted by a store that
-- counts failures alone: a body that passes one over and goes on is refused.
pub record HasNone (alone : Bool) (before now : ℕ) : Type 0 where
  pub later : before ≤ now
  pub none : NoneCounted alone before now

pub record HasFailed (before now : ℕ) : Type 0 where
  pub later : before ≤ now
  pub rose : Rose before now

abbrev pub CountsAfter : Bool → Ending → ℕ → ℕ → Type 0
CountsAfter alone Done before now = HasNone alone before now
CountsAfter alone Failed before now = HasFailed before now
CountsAfter alone Refused before now = HasNone alone before now

-- What a writing call leaves that was to make this state by these items and ends so.
pub record Leaves {K : Type 0} (holds : K → Option Store) (faults : K → ℕ) (alone : Bool) (old new : Publishing K)
    (items : List Item) (next : KeptState) (ending : Ending) : Type 0 where
  pub state : new.state ≡ shown_after next ending old.state
  pub stopped : new.stopped ≡ is_failed ending
  pub store : StoreAfter items ending (holds old.keeper) (holds new.keeper)
  pub count : CountsAfter alone ending (faults old.keeper) (faults new.keeper)

-- the same of a writing call on a standby that is there
abbrev pub Does : {K : Type 0} → (K → Option Store) → (K → ℕ) → Bool → Writing → KeptState →
    Publishing K → Publishing K → Ending → Type 0
Does holds faults alone w s old new ending = Leaves holds faults alone old new (items_for w s) (state_after w s) ending

-- the same of several writings that one commit of the store does, as the front of a group of commits (Refusals, `front_of`)
abbrev pub DoesAll : {K : Type 0} → (K → Option Store) → (K → ℕ) → Bool → List Writing → KeptState →
    Publishing K → Publishing K → Ending → Type 0
DoesAll holds faults alone ws s old new ending =
    Leaves holds faults alone old new (items_for_all ws s) (state_after_all ws s) ending

-- the state that is shown behind a writing call on a standby that is there
abbrev pub next_shown : KeptState → KeptState → Ending → KeptState
next_shown next s Done = next
next_shown next s Failed = s
next_shown next s Refused = s

-- ---- the store beside the state

-- the pairs of what is shown; where no standby is there, none
abbrev pub shown_pairs : Option KeptState → Store
shown_pairs None = []
shown_pairs (Some s) = pairs_of s

-- Where the publisher is not stopped, the store holds exactly the pairs of its state. Where it is stopped, it holds those, or
-- the pairs of a state that its failed call was to make.
abbrev pub Keeps : (KeptState → Type 0) → Bool → Option KeptState → Store → Type 0
Keeps next false state pairs = pairs ≡ shown_pairs state
Keeps next true state pairs = (pairs ≡ shown_pairs state) ⊎ ((later : KeptState) × (next later × (pairs ≡ pairs_of later)))

-- what a run may do; all else stays as it was when the run began
abbrev pub is_of_run : Writing → Bool
is_of_run (AddLog e) = false
is_of_run (AddSkip rule) = false
is_of_run (SetLevel level) = false
is_of_run (PutRow table row) = false
is_of_run (Publish scn writes) = true
is_of_run (KeepMark k) = true

-- the most commits of a group
abbrev pub group_limit : ℕ
group_limit = 64

-- the state that one call of a run makes of this one, by one writing or by those of a group; it fits again and has a layout
pub record IsAhead (b : Base) (logs : Archived) (begun : ℕ) (s later : KeptState) : Type 0 where
  pub writings : List Writing
  pub few : length writings ≤ group_limit
  pub run : IsTrue (list_all is_of_run writings)
  pub made : later ≡ state_after_all writings s
  pub fits : Fits b logs begun later
  pub layout : HasLayout later

-- what a run may have changed of the state with which it began
abbrev pub in_run : KeptState → KeptState → KeptState
in_run opening s = record opening { tables = s.tables; n = s.n; scn = s.scn; mark = s.mark }

-- A publisher fits in a run that began with this state, when its store had counted so many faults: a standby is there, which
-- differs from the opening state by what a run may change; it fits over the base and has a layout; its store holds it, where it
-- is told; and where it is stopped, the store's count has risen.
pub record PublisherFits {K : Type 0} (holds : K → Option Store) (faults : K → ℕ) (start : ℕ) (b : Base) (logs : Archived)
    (opening s : KeptState) (p : Publishing K) : Type 0 where
  pub there : p.state ≡ Some s
  pub same : s ≡ in_run opening s
  pub fits : Fits b logs opening.n s
  pub layout : HasLayout s
  pub keeps : Told (holds p.keeper) (Keeps (IsAhead b logs opening.n s) p.stopped p.state)
  pub since : start ≤ faults p.keeper
  pub risen : p.stopped ≡ true → Rose start (faults p.keeper)

-- what the call that creates a standby makes
abbrev pub IsCreated : KeptState → Type 0
IsCreated later = (e : LogEntry) × ((rows : List TableRow) × (later ≡ created_state e rows))

-- A publisher without a standby: its store, where it is told, is empty, or, where the call that was to create one failed, has the
-- pairs of what it was to create.
pub record HasNoStandby {K : Type 0} (holds : K → Option Store) (p : Publishing K) : Type 0 where
  pub none : p.state ≡ None
  pub keeps : Told (holds p.keeper) (Keeps IsCreated p.stopped p.state)

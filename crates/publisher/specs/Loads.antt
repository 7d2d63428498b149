-- What loading a publisher says of its store.
use Rattle.std.specs.Prelude.{◌≡◌, ◌≤◌, ⊤, ℕ, Bool, [], Option, Some, None, Result, Ok, Err, ◌⊎◌}
use Rattle.rl_ports.specs.Store.{Store}
use Rattle.rl_ports.specs.Faults.{Rose, NoneCounted}
use Rattle.standby_spec.specs.KeptState.{KeptState}
use Rattle.standby_spec.specs.Loading.{Loaded, Image, Fresh, Bad, loaded}
use Rattle.standby_spec.specs.Publishing.{Publishing}
use Rattle.checkpoint.specs.Images.{image_state}
use Rattle.checkpoint.specs.declared.image.Loaded.{Loaded as OfLoading}
use Rattle.checkpoint.specs.declared.image.Loaded.TheVariants as images
use Rattle.checkpoint.specs.declared.fault.LoadFault.{LoadFault}
use Rattle.checkpoint.specs.declared.fault.LoadFault.TheVariants as faults

-- what the pairs are that this state is loaded from
abbrev pub told_state : Option KeptState → Loaded
told_state None = Fresh
told_state (Some s) = Image s

-- a key that is told is the first one that is not in the layout
abbrev pub IsFirstBad : Store → LoadFault → Type 0
IsFirstBad pairs (faults.BadKeeper area key) = loaded pairs ≡ Bad area key
IsFirstBad pairs faults.KeeperFault = ⊤
IsFirstBad pairs faults.Memory = ⊤

-- the same where a standby is to be there: where none is, area 1 and no key is told
abbrev pub IsFirstBadOrFresh : Store → LoadFault → Type 0
IsFirstBadOrFresh pairs (faults.BadKeeper area key) =
    (loaded pairs ≡ Bad area key) ⊎ ((loaded pairs ≡ Fresh) × ((area ≡ 1) × (key ≡ [])))
IsFirstBadOrFresh pairs faults.KeeperFault = ⊤
IsFirstBadOrFresh pairs faults.Memory = ⊤

-- a failure of the store is told only where its count rose, and no other answer passes one over
pub record CountsFault (alone : Bool) (before now : ℕ) (fault : LoadFault) : Type 0 where
  pub later : before ≤ now
  pub failed : fault ≡ faults.KeeperFault → Rose before now
  pub none : (fault ≡ faults.KeeperFault → ⊥) → NoneCounted alone before now

pub record CountsLoaded (alone : Bool) (before now : ℕ) : Type 0 where
  pub later : before ≤ now
  pub none : NoneCounted alone before now

-- of a publisher that was loaded, or the store that comes back
abbrev pub LoadCounts : {K : Type 0} → (K → ℕ) → Bool → K → Result (Publishing K) (LoadFault × K) → Type 0
LoadCounts faults alone before (Ok p) = CountsLoaded alone (faults before) (faults p.keeper)
LoadCounts faults alone before (Err (fault, back)) = CountsFault alone (faults before) (faults back) fault

-- the same where the store stays with its publisher
abbrev pub ReloadCounts : {T : Type 0} → Bool → ℕ → ℕ → Result T LoadFault → Type 0
ReloadCounts alone before now (Ok done) = CountsLoaded alone before now
ReloadCounts alone before now (Err fault) = CountsFault alone before now fault

-- the store holds what it held
abbrev pub HoldsStill : {K : Type 0} → (K → Option Store) → K → Result (Publishing K) (LoadFault × K) → Type 0
HoldsStill holds before (Ok p) = holds p.keeper ≡ holds before
HoldsStill holds before (Err (fault, back)) = holds back ≡ holds before

-- what was loaded is this state, or that nothing is there
abbrev pub LoadsAs : Option KeptState → OfLoading → Type 0
LoadsAs state (images.Image image) = state ≡ Some (image_state image)
LoadsAs state images.Fresh = state ≡ None

-- What a loaded image is in the words of what is loaded from pairs, and what is said of an answer.
use Rattle.std.specs.Prelude.{◌≡◌, ℕ, List, ⊤, Result, Ok, Err}
use Rattle.standby_spec.specs.KeptState.{KeptState}
use Rattle.standby_spec.specs.Loading as loading
use Rattle.checkpoint.specs.declared.image.Image.{Image}
use Rattle.checkpoint.specs.declared.image.Loaded.{Loaded}
use Rattle.checkpoint.specs.declared.image.Loaded.TheVariants as loads
use Rattle.checkpoint.specs.declared.fault.LoadFault.{LoadFault}
use Rattle.checkpoint.specs.declared.fault.LoadFault.TheVariants as faults

-- the state that an image is; its dictionary is that of its tables
abbrev pub image_state : Image → KeptState
image_state i = record {
  dbid = i.dbid;
  first = i.first;
  base = i.base;
  level = i.level;
  logs = i.logs;
  skips = i.skips;
  tables = i.tables.tables;
  n = i.n;
  scn = i.scn;
  mark = i.mark;
}

-- the fact holds of the image, where one is given
abbrev pub OfLoaded : Loaded → (Image → Type 0) → Type 0
OfLoaded (loads.Image i) P = P i
OfLoaded loads.Fresh P = ⊤

abbrev pub OnImage : Result Loaded LoadFault → (Image → Type 0) → Type 0
OnImage (Ok found) P = OfLoaded found P
OnImage (Err fault) P = ⊤

-- the fact holds where nothing is kept
abbrev pub IfFresh : Loaded → Type 0 → Type 0
IfFresh (loads.Image i) P = ⊤
IfFresh loads.Fresh P = P

abbrev pub OnFresh : Result Loaded LoadFault → Type 0 → Type 0
OnFresh (Ok found) P = IfFresh found P
OnFresh (Err fault) P = ⊤

-- the fact holds of the first bad key, where one is told
abbrev pub OfBadKey : LoadFault → (ℕ → List ℕ → Type 0) → Type 0
OfBadKey (faults.BadKeeper area key) P = P area key
OfBadKey faults.KeeperFault P = ⊤
OfBadKey faults.Memory P = ⊤

abbrev pub OnBadKey : {T : Type 0} → Result T LoadFault → (ℕ → List ℕ → Type 0) → Type 0
OnBadKey (Ok found) P = ⊤
OnBadKey (Err fault) P = OfBadKey fault P

-- an answer tells what is loaded: the image, that nothing is there, or the first bad key
abbrev pub loaded_so : Loaded → loading.Loaded
loaded_so (loads.Image i) = loading.Image (image_state i)
loaded_so loads.Fresh = loading.Fresh

abbrev pub FaultTells : LoadFault → loading.Loaded → Type 0
FaultTells (faults.BadKeeper area key) loaded = loaded ≡ loading.Bad area key
FaultTells faults.KeeperFault loaded = ⊤
FaultTells faults.Memory loaded = ⊤

abbrev pub Tells : Result Loaded LoadFault → loading.Loaded → Type 0
Tells (Ok found) loaded = loaded ≡ loaded_so found
Tells (Err fault) loaded = FaultTells fault loaded

-- What is told of the beginning of a store: the identity of the standby, that nothing is kept, or the first bad key.
use Rattle.std.specs.Prelude.{◌≡◌, [], ◌∷◌, true, ⊤, Option, Some, None, Result, Ok, Err}
use Rattle.rl_ports.specs.declared.batch.Pair.{Pair}
use Rattle.rl_ports.specs.Store.{Store}
use Rattle.redo_vec.specs.Spelling.{be32}
use Rattle.standby_spec.specs.Layout.{standby_key}
use Rattle.standby_spec.specs.Loading.{Fresh, Bad, of_area, has_key, standby_in, loaded}
use Rattle.kept_layout.specs.declared.identity.Identity.{Identity}
use Rattle.kept_layout.specs.Pairs.{identity_of}
use Rattle.checkpoint.specs.declared.fault.LoadFault.{LoadFault}
use Rattle.checkpoint.specs.declared.fault.LoadFault.TheVariants as faults
use Rattle.checkpoint.specs.Areas.{pairs_above}

-- the first bad key of the store, unless the keeper failed or memory ran out
abbrev pub IsFirstBad : Store → LoadFault → Type 0
IsFirstBad pairs (faults.BadKeeper area key) = loaded pairs ≡ Bad area key
IsFirstBad pairs faults.KeeperFault = ⊤
IsFirstBad pairs faults.Memory = ⊤

-- the standby's pair is there, and so is that of its first log; and its identity is what area 1 gives
pub record HasIdentity (pairs : Store) (identity : Identity) : Type 0 where
  pub own : has_key standby_key (of_area 1 pairs) ≡ true
  pub first : has_key (be32 identity.first) (of_area 2 pairs) ≡ true
  pub given : standby_in pairs ≡ Ok (identity_of identity)

abbrev pub IsOfStandby : Store → Option Identity → Type 0
IsOfStandby pairs None = of_area 1 pairs ≡ []
IsOfStandby pairs (Some identity) = HasIdentity pairs identity

abbrev pub IdentityTold : Store → Result (Option Identity) LoadFault → Type 0
IdentityTold pairs (Ok found) = IsOfStandby pairs found
IdentityTold pairs (Err fault) = IsFirstBad pairs fault

abbrev pub FirstGives : Store → Result Identity LoadFault → Type 0
FirstGives pairs (Ok identity) = HasIdentity pairs identity
FirstGives pairs (Err fault) = IsFirstBad pairs fault

-- the same, where this pair is the first of area 1
abbrev pub FirstTold : Store → Pair → Result Identity LoadFault → Type 0
FirstTold pairs p result = of_area 1 pairs ≡ (p.key, p.value) ∷ pairs_above p.key (of_area 1 pairs) → FirstGives pairs result

abbrev pub NothingTold : {T : Type 0} → Store → Result T LoadFault → Type 0
NothingTold pairs (Ok done) = loaded pairs ≡ Fresh
NothingTold pairs (Err fault) = IsFirstBad pairs fault

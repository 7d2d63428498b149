-- What an answer tells, clause by clause.
use Rattle.std.proofs.Common.{◌≡◌, Option, Some, None, Ok, Err, Result}
use Rattle.rl_ports.specs.Faults.{Told}
use Rattle.rl_ports.specs.Store.{Store}
use Rattle.standby_spec.specs.Loading as loading
use Rattle.standby_spec.specs.Loading.{loaded}
use Rattle.checkpoint.specs.declared.fault.LoadFault.{LoadFault}
use Rattle.checkpoint.specs.declared.fault.LoadFault.TheVariants as faults
use Rattle.checkpoint.specs.declared.image.Loaded.{Loaded}
use Rattle.checkpoint.specs.declared.image.Loaded.TheVariants as loads
use Rattle.checkpoint.specs.Images.{image_state, OnImage, OnFresh, OnBadKey, Tells}

pub image_told : (known : Option Store) (result : Result Loaded LoadFault) → Told known (λ s. Tells result (loaded s)) →
    Told known (λ s. OnImage result (λ i. loaded s ≡ loading.Image (image_state i)))
image_told None result e = tt
image_told (Some s) (Ok (loads.Image i)) e = e
image_told (Some s) (Ok loads.Fresh) e = tt
image_told (Some s) (Err fault) e = tt

pub fresh_told : (known : Option Store) (result : Result Loaded LoadFault) → Told known (λ s. Tells result (loaded s)) →
    Told known (λ s. OnFresh result (loaded s ≡ loading.Fresh))
fresh_told None result e = tt
fresh_told (Some s) (Ok (loads.Image i)) e = tt
fresh_told (Some s) (Ok loads.Fresh) e = e
fresh_told (Some s) (Err fault) e = tt

pub bad_told : (known : Option Store) (result : Result Loaded LoadFault) → Told known (λ s. Tells result (loaded s)) →
    Told known (λ s. OnBadKey result (λ area key. loaded s ≡ loading.Bad area key))
bad_told None result e = tt
bad_told (Some s) (Ok found) e = tt
bad_told (Some s) (Err (faults.BadKeeper area key)) e = e
bad_told (Some s) (Err faults.KeeperFault) e = tt
bad_told (Some s) (Err faults.Memory) e = tt

-- Laws of loading a publisher: from what is said of the loaded image to what is said of the publisher that shows it.
use Rattle.std.proofs.Common.{◌≡◌, ◌≤◌, ℕ, List, [], Bool, refl, sym, ap, ◌∙◌, subst, Option, Some, None, Result, Ok, Err, inl, inr}
use Rattle.std.specs.Prelude.{◌⊎◌, IfSome, IsSome}
use Rattle.std.specs.Option.{option_map}
use Rattle.rl_ports.specs.Store.{Store}
use Rattle.rl_ports.specs.Faults.{Told, Rose, NoneCounted}
use Rattle.row_apply.specs.Soundness.{AreSound}
use Rattle.standby_spec.specs.KeptState.{KeptState}
use Rattle.standby_spec.specs.HasLayout.{HasLayout}
use Rattle.standby_spec.specs.Loading.{loaded}
use Rattle.standby_spec.specs.Loading as loading
use Rattle.checkpoint.specs.declared.image.Image.{Image}
use Rattle.checkpoint.specs.declared.image.Loaded.{Loaded}
use Rattle.checkpoint.specs.declared.image.Loaded.TheVariants as images
use Rattle.checkpoint.specs.declared.fault.LoadFault.{LoadFault}
use Rattle.checkpoint.specs.declared.fault.LoadFault.TheVariants as faults
use Rattle.checkpoint.specs.Images.{image_state, OfLoaded, IfFresh, OfBadKey}
use Rattle.publisher.specs.Loads.{told_state, LoadsAs, IsFirstBad, IsFirstBadOrFresh, CountsFault, CountsLoaded}
use Rattle.publisher.proofs.Ends.{some-is}

-- ---- what is shown

-- the pairs are the layout of the state that is loaded, or there is none
pub told-loaded : (o : Option Store) (found : Loaded) (state : Option KeptState) → LoadsAs state found →
    Told o (λ pairs. OfLoaded found (λ image. loaded pairs ≡ loading.Image (image_state image))) →
    Told o (λ pairs. IfFresh found (loaded pairs ≡ loading.Fresh)) → Told o (λ pairs. loaded pairs ≡ told_state state)
told-loaded None found state is image fresh = tt
told-loaded (Some pairs) (images.Image i) state is image fresh = image ∙ ap told_state (sym is)
told-loaded (Some pairs) images.Fresh state is image fresh = fresh ∙ ap told_state (sym is)

pub sound-loaded : (found : Loaded) (o : Option Image) → LoadsAs (option_map image_state o) found →
    OfLoaded found (λ i. HasLayout (image_state i)) → IfSome o (λ i. AreSound i.tables.tables)
sound-loaded (images.Image i) None is layout = tt
sound-loaded (images.Image i) (Some j) is layout =
    subst (λ (s : KeptState). AreSound s.tables) (some-is (image_state i) (image_state j) (sym is)) layout.sound
sound-loaded images.Fresh None is layout = tt
sound-loaded images.Fresh (Some j) is layout = absurd (cc)

pub layout-loaded : (found : Loaded) (state : Option KeptState) → LoadsAs state found →
    OfLoaded found (λ i. HasLayout (image_state i)) → IfSome state HasLayout
layout-loaded (images.Image i) state is layout = subst (λ o. IfSome o HasLayout) (sym is) layout
layout-loaded images.Fresh state is layout = subst (λ o. IfSome o HasLayout) (sym is) tt

-- ---- the first bad key

pub told-bad : (o : Option Store) (fault : LoadFault) →
    Told o (λ pairs. OfBadKey fault (λ area key. loaded pairs ≡ loading.Bad area key)) → Told o (λ pairs. IsFirstBad pairs fault)
told-bad None fault told = tt
told-bad (Some pairs) (faults.BadKeeper area key) told = told
told-bad (Some pairs) faults.KeeperFault told = tt
told-bad (Some pairs) faults.Memory told = tt

pub told-bad-or-fresh : (o : Option Store) (fault : LoadFault) →
    Told o (λ pairs. OfBadKey fault (λ area key. loaded pairs ≡ loading.Bad area key)) →
    Told o (λ pairs. IsFirstBadOrFresh pairs fault)
told-bad-or-fresh None fault told = tt
told-bad-or-fresh (Some pairs) (faults.BadKeeper area key) told = inl told
told-bad-or-fresh (Some pairs) faults.KeeperFault told = tt
told-bad-or-fresh (Some pairs) faults.Memory told = tt

-- where nothing is kept, the key of no bytes in the first area is told
pub told-fresh : (o : Option Store) (key : List ℕ) → key ≡ [] → Told o (λ pairs. loaded pairs ≡ loading.Fresh) →
    Told o (λ pairs. IsFirstBadOrFresh pairs (faults.BadKeeper 1 key))
told-fresh None key none told = tt
told-fresh (Some pairs) key none told = inr (told, (refl, none))

-- ---- the count of the store's faults

pub counts-loaded : (alone : Bool) (before now : ℕ) (found : Loaded) (r : Result Loaded LoadFault) → r ≡ Ok found → before ≤ now →
    ((r ≡ Err faults.KeeperFault → ⊥) → NoneCounted alone before now) → CountsLoaded alone before now
counts-loaded alone before now found r is later none = record {
  later = later;
  none = none (λ e. absurd (cc));
}

pub counts-fault : (alone : Bool) (before now : ℕ) (fault : LoadFault) (r : Result Loaded LoadFault) → r ≡ Err fault →
    before ≤ now → (r ≡ Err faults.KeeperFault → Rose before now) →
    ((r ≡ Err faults.KeeperFault → ⊥) → NoneCounted alone before now) → CountsFault alone before now fault
counts-fault alone before now fault r is later failed none = record {
  later = later;
  failed = λ e. failed (is ∙ ap (λ f. Err f) e);
  none = λ other. none (λ e. other (cc));
}

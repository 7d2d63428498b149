-- Laws of endings: the store, its count and the state where a call ends so.
use Rattle.std.proofs.Common.{◌≡◌, ℕ, List, Bool, false, refl, ap, ◌∙◌, Option, Some, None, is_some, arith, inl, inr}
use Rattle.std.specs.Prelude.{◌⊎◌, IsTrue}
use Rattle.rl_ports.specs.declared.batch.Item.{Item}
use Rattle.rl_ports.specs.Store.{Store, is_store, after_batch}
use Rattle.rl_ports.specs.Faults.{Told}
use Rattle.standby_spec.specs.KeptState.{KeptState}
use Rattle.standby_spec.specs.Publishing.{Publishing, Ending, Done, Failed, Refused, StoreAfter, Leaves, shown_after}
use Rattle.publisher.specs.declared.fault.PubFault.{PubFault}
use Rattle.publisher.specs.declared.fault.PubFault.TheVariants as faults
use Rattle.publisher.specs.declared.next.Next.{Next}
use Rattle.publisher.specs.Endings.{ending_of_fault}
use Rattle.publisher.specs.PreparesGroup.{LeadsAlike}
use Rattle.publisher.specs.Shown.{shown_next, shown_if_done}

pub some-is : {A : Type 0} (x y : A) → Some x ≡ Some y → x ≡ y
some-is x y e = cc

none-of : {A : Type 0} (o : Option A) → is_some o ≡ false → o ≡ None
none-of None e = refl
none-of (Some x) e = absurd (cc)

-- ---- the store

-- a store that does not tell its pairs goes on so, since its type says whether it does
pub store-done : (items : List Item) (old now : Option Store) → is_some now ≡ is_some old →
    Told old (λ s. now ≡ Some (after_batch items s)) → StoreAfter items Done old now
store-done items None now same told = none-of now same
store-done items (Some s) now same told = told

pub store-failed : (items : List Item) (old now : Option Store) → is_some now ≡ is_some old →
    Told old (λ s. (now ≡ Some s) ⊎ (now ≡ Some (after_batch items s))) → StoreAfter items Failed old now
store-failed items None now same told = none-of now same
store-failed items (Some s) now same told = told

pub store-refused : (items : List Item) (old now : Option Store) → now ≡ old → StoreAfter items Refused old now
store-refused items None now e = e
store-refused items (Some s) now e = e

-- items that lead alike leave the store alike
pub store-alike : (batch items : List Item) (ending : Ending) (old now : Option Store) → Told old (λ s. IsTrue (is_store s)) →
    LeadsAlike batch items → StoreAfter batch ending old now → StoreAfter items ending old now
store-alike batch items ending None now lawful alike e = e
store-alike batch items Done (Some s) now lawful alike e = e ∙ ap (λ x. Some x) (alike s lawful)
store-alike batch items Failed (Some s) now lawful alike (inl e) = inl e
store-alike batch items Failed (Some s) now lawful alike (inr e) = inr (e ∙ ap (λ x. Some x) (alike s lawful))
store-alike batch items Refused (Some s) now lawful alike e = e

-- ---- the state

-- what is ready is shown where the call is done
pub settled : (ending : Ending) (next : Next) (later : KeptState) (state : Option KeptState) →
    shown_next next state ≡ Some later → shown_if_done ending next state ≡ shown_after later ending state
settled Done next later state e = e
settled Failed next later state e = refl
settled Refused next later state e = refl

-- a fault leaves what is shown
pub not-shown : (fault : PubFault) (next : Next) (state : Option KeptState) →
    shown_if_done (ending_of_fault fault) next state ≡ state
not-shown faults.KeeperFault next state = refl
not-shown (faults.NotNext n) next state = refl
not-shown (faults.Early n) next state = refl
not-shown faults.RowLimit next state = refl
not-shown faults.Exists next state = refl
not-shown faults.Taken next state = refl
not-shown faults.Twice next state = refl
not-shown faults.Limit next state = refl
not-shown faults.Memory next state = refl

-- ---- a call that is refused

pub stays : {K : Type 0} (holds : K → Option Store) (faults : K → ℕ) (alone : Bool) (p : Publishing K) (items : List Item)
    (later : KeptState) (ending : Ending) → ending ≡ Refused → p.stopped ≡ false →
    Leaves holds faults alone p p items later ending
stays holds faults alone p items later Done e f = absurd (cc)
stays holds faults alone p items later Failed e f = absurd (cc)
stays holds faults alone p items later Refused e f = record {
  state = refl;
  stopped = f;
  store = store-refused items (holds p.keeper) (holds p.keeper) refl;
  count = record { later = omega arith; none = λ t. refl };
}

-- items that lead alike leave the same
pub leaves-alike : {K : Type 0} (holds : K → Option Store) (faults : K → ℕ) (alone : Bool) (old new : Publishing K)
    (batch items : List Item) (later : KeptState) (ending : Ending) → Told (holds old.keeper) (λ s. IsTrue (is_store s)) →
    LeadsAlike batch items → Leaves holds faults alone old new batch later ending →
    Leaves holds faults alone old new items later ending
leaves-alike holds faults alone old new batch items later ending lawful alike leaves = record {
  state = leaves.state;
  stopped = leaves.stopped;
  store = store-alike batch items ending (holds old.keeper) (holds new.keeper) lawful alike leaves.store;
  count = leaves.count;
}

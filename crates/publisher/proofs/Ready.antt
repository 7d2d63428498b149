-- Laws of what is ready: the batches name keys, and what is shown then has sound tables.
use Rattle.std.proofs.Common.{◌≡◌, ℕ, List, [], ◌∷◌, ◌++◌, map, Bool, true, false, refl, sym, ap, ◌∙◌, subst, Option, Some, None, Ok, Err}
use Rattle.std.specs.Prelude.{◌&&◌, IfSome}
use Rattle.std.specs.List.{list_all}
use Rattle.rl_value.specs.declared.value.Value.{Value}
use Rattle.rl_ports.specs.declared.batch.Item.{Item}
use Rattle.rl_ports.specs.Store.{is_key, key_of, have_keys}
use Rattle.row_apply.specs.declared.writes.Write.{Write}
use Rattle.row_apply.specs.Soundness.{AreSound}
use Rattle.standby_spec.specs.KeptState.{KeptState}
use Rattle.standby_spec.specs.Layout.{applied_item}
use Rattle.standby_spec.specs.Publishing.{Refused}
use Rattle.standby_spec.specs.Refusals.{Refusal}
use Rattle.standby_spec.specs.Writings.{write_item, write_item_of}
use Rattle.publisher.specs.declared.fault.PubFault.{PubFault}
use Rattle.publisher.specs.declared.fault.PubFault.TheVariants as faults
use Rattle.publisher.specs.declared.prepared.Prepared.{Prepared}
use Rattle.publisher.specs.Endings.{Tells, ending_of_fault}
use Rattle.publisher.specs.Prepares.{IsReady, Prepares}
use Rattle.publisher.specs.Shown.{shown_next}

-- ---- keys

pub both : (a b : Bool) → a ≡ true → b ≡ true → (a && b) ≡ true
both true b p q = q
both false b p q = absurd (cc)

here : (a b : Bool) → (a && b) ≡ true → a ≡ true
here true b e = refl
here false b e = absurd (cc)

there : (a b : Bool) → (a && b) ≡ true → b ≡ true
there true b e = e
there false b e = absurd (cc)

pub all-append : {A : Type 0} (p : A → Bool) (xs ys : List A) → list_all p xs ≡ true → list_all p ys ≡ true →
    list_all p (xs ++ ys) ≡ true
all-append p [] ys e f = f
all-append p (x ∷ xs) ys e f = both (p x) (list_all p (xs ++ ys)) (here (p x) (list_all p xs) e)
    (all-append p xs ys (there (p x) (list_all p xs) e) f)

pub write-key : (id : ℕ) (key : List Value) (row : Option (List Value)) → is_key (key_of (write_item_of id key row)) ≡ true
write-key id key None = refl
write-key id key (Some row) = refl

-- the items of written rows name keys
pub writes-key : (ws : List Write) → have_keys (map write_item ws) ≡ true
writes-key [] = refl
writes-key (w ∷ ws) = both (is_key (key_of (write_item w))) (have_keys (map write_item ws)) (write-key w.table w.key w.row)
    (writes-key ws)

-- and so do they with a commit's count behind them
pub commit-key : (ws : List Write) (n at_scn : ℕ) → have_keys (map write_item ws ++ applied_item n at_scn ∷ []) ≡ true
commit-key ws n at_scn = all-append (λ i. is_key (key_of i)) (map write_item ws) (applied_item n at_scn ∷ []) (writes-key ws) refl

-- ---- what is ready

pub ready-by : (items : List Item) (state : Option KeptState) (later : KeptState) (p : Prepared) → p.batch ≡ items →
    have_keys items ≡ true → shown_next p.next state ≡ Some later → AreSound later.tables → IsReady state p
ready-by items state later p same keys next sound = record {
  keys = ap have_keys same ∙ keys;
  sound = subst (λ o. IfSome o (λ s. AreSound s.tables)) (sym next) sound;
}

pub prepared-ok : (items : List Item) (state : Option KeptState) (later : KeptState) (reason : Option Refusal) (p : Prepared) →
    reason ≡ None → p.batch ≡ items → have_keys items ≡ true → shown_next p.next state ≡ Some later → AreSound later.tables →
    Prepares items state later reason (Ok p)
prepared-ok items state later reason p none same keys next sound = record {
  made = (same, next);
  declined = none;
  ready = ready-by items state later p same keys next sound;
}

pub prepared-err : (items : List Item) (state : Option KeptState) (later : KeptState) (reason : Option Refusal)
    (fault : PubFault) → Tells reason fault → ending_of_fault fault ≡ Refused → Prepares items state later reason (Err fault)
prepared-err items state later reason fault tells refused = record { made = refused; declined = tells; ready = tt }

-- want of memory is no reason against a call
pub no-memory : (items : List Item) (state : Option KeptState) (later : KeptState) (reason : Option Refusal) →
    Prepares items state later reason (Err faults.Memory)
no-memory items state later reason = record { made = refl; declined = tt; ready = tt }

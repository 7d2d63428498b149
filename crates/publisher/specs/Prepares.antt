-- What is made ready before the commit of the store: its batch, and what is shown then. Nothing is left to be made after it.
use Rattle.std.specs.Prelude.{◌≡◌, List, [], ◌∷◌, map, not, Option, Some, None, Result, Ok, Err, IfOk, IfSome, IsTrue}
use Rattle.std.specs.Option.{option_map}
use Rattle.rl_value.specs.Outcome.{first_fault}
use Rattle.rl_ports.specs.declared.batch.Item.{Item}
use Rattle.rl_ports.specs.Store.{have_keys}
use Rattle.redo_spec.specs.Tables.{Tables}
use Rattle.row_apply.specs.declared.writes.Write.{Write}
use Rattle.row_apply.specs.Overlaid.{overlaid}
use Rattle.row_apply.specs.Soundness.{AreSound}
use Rattle.standby_spec.specs.KeptState.{KeptState}
use Rattle.standby_spec.specs.Writable.{are_left_alone}
use Rattle.standby_spec.specs.Writings.{Writing, state_after, items_for, write_item}
use Rattle.standby_spec.specs.Refusals.{Refusal, Taken, RowLimit, passes_limit}
use Rattle.standby_spec.specs.Publishing.{Refused}
use Rattle.publisher.specs.declared.fault.PubFault.{PubFault}
use Rattle.publisher.specs.declared.prepared.Prepared.{Prepared}
use Rattle.publisher.specs.Endings.{Tells, ending_of_fault}
use Rattle.publisher.specs.Shown.{shown_next, with_rows}

-- the batch names keys, and what is shown has sound tables
pub record IsReady (state : Option KeptState) (p : Prepared) : Type 0 where
  pub keys : IsTrue (have_keys p.batch)
  pub sound : IfSome (shown_next p.next state) (λ s. AreSound s.tables)

-- these items, and this state after them; a refusal is no failure of a store
abbrev pub Makes : List Item → Option KeptState → KeptState → Result Prepared PubFault → Type 0
Makes items state later (Ok p) = (p.batch ≡ items) × (shown_next p.next state ≡ Some later)
Makes items state later (Err fault) = ending_of_fault fault ≡ Refused

-- it is made only where there is no reason against the call
abbrev pub Declines : Option Refusal → Result Prepared PubFault → Type 0
Declines reason (Ok p) = reason ≡ None
Declines reason (Err fault) = Tells reason fault

-- What is made ready of a call, over the state that is shown.
pub record Prepares (items : List Item) (state : Option KeptState) (later : KeptState) (reason : Option Refusal)
    (prepared : Result Prepared PubFault) : Type 0 where
  pub made : Makes items state later prepared
  pub declined : Declines reason prepared
  pub ready : IfOk prepared (IsReady state)

-- the same of a writing on a standby that is there
abbrev pub PreparesWriting : Writing → KeptState → Option Refusal → Result Prepared PubFault → Type 0
PreparesWriting w s reason prepared = Prepares (items_for w s) (Some s) (state_after w s) reason prepared

-- ---- rows by themselves

-- the items of the writes, and their rows in place of the tables' own
pub record MakesRows (tables : Tables) (writes : List Write) (p : Prepared) : Type 0 where
  pub items : p.batch ≡ map write_item writes
  pub next : (state : Option KeptState) → shown_next p.next state ≡ option_map (with_rows (overlaid tables writes)) state
  pub sound : AreSound (overlaid tables writes)

abbrev pub MakesRowsOr : Tables → List Write → Result Prepared PubFault → Type 0
MakesRowsOr tables writes (Ok p) = MakesRows tables writes p
MakesRowsOr tables writes (Err fault) = ending_of_fault fault ≡ Refused

-- what is made ready of writes that may be put in place: they may be too many
pub record PreparesRows (tables : Tables) (writes : List Write) (prepared : Result Prepared PubFault) : Type 0 where
  pub made : MakesRowsOr tables writes prepared
  pub declined : Declines (first_fault ((passes_limit tables writes, RowLimit) ∷ [])) prepared

-- what is made ready of one write whose row fits its table: another row may have one of its unique values, too
pub record PreparesPut (tables : Tables) (w : Write) (prepared : Result Prepared PubFault) : Type 0 where
  pub made : MakesRowsOr tables (w ∷ []) prepared
  pub declined : Declines (first_fault ((not (are_left_alone tables (w ∷ [])), Taken) ∷ (passes_limit tables (w ∷ []), RowLimit)
      ∷ [])) prepared

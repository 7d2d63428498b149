-- The rule of a lock: what holds of its word, its slot and all views between any two steps, and what a step tells.
-- This project's own, over the kit's `atomic_table`.
-- The word is twice a rank, plus 1 while the value is held. A view is idle or holding, and has its parts of the 64,
-- the highest rank that it has seen, the tag and the start count. A view without a part, as join leaves one, says nothing.
use Rattle.std.specs.Prelude.{◌≡◌, ◌≢◌, ℕ, ◌+◌, ◌-◌, ◌*◌, ◌/◌, ◌<◌, ◌≤◌, ◌⊎◌, max, true, false, List, [], ◌∷◌, length, slice_index, Option, Some, None}
use mathlib.Core.Option.{some, none}
use lib.ListN.{get_elem?}
use Rattle.atomic_table.specs.Table.{State, Me, Step, rest}
use Rattle.atomic_table.specs.Seated.{TableId}
use Rattle.tag_lock.specs.Token.{StandsFor}
use Rattle.tag_lock.specs.declared.rule.Known.{Known}

module _ {T : Type 0} where
  -- the parts of all views
  abbrev pub parts_of : List (Known T) → ℕ
  parts_of [] = 0
  parts_of (v ∷ vs) = v.parts + parts_of vs

  -- the view of the first seat, which has all parts and has seen the value's rank
  abbrev pub first_view : Option T → ℕ → ℕ → Known T
  first_view tag start rank = record { holding = false; parts = 64; seen = rank; tag = tag; start = start }

  -- split leaves the old seat all parts but one
  abbrev pub cut_left : Known T → Known T
  cut_left v = record v { parts = v.parts - 1 }

  -- split gives the new seat one part, and what the old one has seen
  abbrev pub cut_right : Known T → Known T
  cut_right v = record v { holding = false; parts = 1 }

  -- join adds the parts, and has seen the greater rank
  abbrev pub joined : Known T → Known T → Known T
  joined v w = record v { parts = v.parts + w.parts; seen = max v.seen w.seen }

  -- what join leaves of the other view: no part, and nothing known
  abbrev pub spent_view : Known T
  spent_view = record { holding = false; parts = 0; seen = 0; tag = None; start = 0 }

  -- what the rule says of one view
  pub record Fits (tag : T) (start rank : ℕ) (v : Known T) : Type 0 where
    pub same_tag : 0 < v.parts → v.tag ≡ Some tag
    pub same_start : 0 < v.parts → v.start ≡ start
    pub idle : v.parts ≡ 0 → v.holding ≡ false
    pub seen : v.seen ≤ rank
    pub held_at : v.holding ≡ true → v.seen ≡ rank

  -- exactly one view is holding, and the slot is that seat's alone
  pub record IsTaken {V : Type 0} (rank : ℕ) (s : State (Option V) (Known T)) : Type 0 where
    pub word : slice_index s.words 0 ≡ 2 * rank + 1
    pub away : get_elem? s.homes 0 ≡ some none
    pub holder : ℕ
    pub view : Known T
    pub at : get_elem? s.views holder ≡ some view
    pub holding : view.holding ≡ true
    pub only : (j : ℕ) (v : Known T) → get_elem? s.views j ≡ some v → v.holding ≡ true → j ≡ holder

module _ {V T : Type 0} (stands : T → ℕ → V → Type 0) (height : V → ℕ) where
  -- no view is holding, and the value is in the slot
  pub record IsOpen (tag : T) (start rank : ℕ) (s : State (Option V) (Known T)) : Type 0 where
    pub word : slice_index s.words 0 ≡ 2 * rank
    pub value : V
    pub home : get_elem? s.homes 0 ≡ some (some (Some value))
    pub right : stands tag start value
    pub at_rank : height value ≡ rank
    pub idle : (j : ℕ) (v : Known T) → get_elem? s.views j ≡ some v → v.holding ≡ false

  -- the rule
  pub record Kept (s : State (Option V) (Known T)) : Type 0 where
    pub tag : T
    pub start : ℕ
    pub rank : ℕ
    pub wide : length s.words ≡ 1
    pub deep : length s.homes ≡ 1
    pub total : parts_of s.views ≡ 64
    pub each : (j : ℕ) (v : Known T) → get_elem? s.views j ≡ some v → Fits tag start rank v
    pub phase : IsOpen tag start rank s ⊎ IsTaken rank s

  -- the claim took the slot: its value stands for the tag, has a rank not below what the seat saw, and the seat holds it
  pub record IsClaimed (m m' : Me (Option V) (Known T)) : Type 0 where
    pub value : V
    pub me : m' ≡ (record m.0 { holding = true; seen = height value }, (0, Some value) ∷ m.1)
    pub not_below : m.0.seen ≤ height value
    pub right : StandsFor stands m.0.tag m.0.start value

  -- the claiming compare and exchange: a hit takes the slot, and a miss changes nothing
  abbrev pub claimed : Step (Option V) → Me (Option V) (Known T) → ℕ → Me (Option V) (Known T) → Type 0
  claimed st m found m' = (found ≡ st.first → IsClaimed m m') × (found ≢ st.first → m' ≡ m)

  -- the seat holds, and has put a value home that stands for the tag and has this rank, not below what the seat saw
  pub record CanRelease (m : Me (Option V) (Known T)) (rank : ℕ) : Type 0 where
    pub value : V
    pub home : m.1 ≡ (0, Some value) ∷ []
    pub part : 0 < m.0.parts
    pub holding : m.0.holding ≡ true
    pub right : StandsFor stands m.0.tag m.0.start value
    pub not_below : m.0.seen ≤ rank
    pub at_rank : height value ≡ rank

module _ {S T : Type 0} where
  -- the load: the seat has seen the rank in the word, and it is not below what it saw
  abbrev pub looked : Step S → Me S (Known T) → ℕ → Me S (Known T) → Type 0
  looked st m found m' = (m.0.seen ≤ found / 2) × (m' ≡ (record m.0 { seen = found / 2 }, m.1))

  -- the opening store: the seat is idle, has given the slot back, and has seen the rank in the word
  abbrev pub released : Step S → Me S (Known T) → ℕ → Me S (Known T) → Type 0
  released st m stored m' = m' ≡ (record m.0 { holding = false; seen = stored / 2 }, rest m.1)

-- the seat is of this table, which has one word and one slot
pub record IsSeatOf (table seat : TableId) : Type 0 where
  pub same : seat ≡ table
  pub one_word : table.words ≡ 1
  pub one_slot : table.slots ≡ 1

-- How the pairs of an area come from a keeper: each is asked for by the key of the one before it.
-- What was read so far and what the pairs above the last key give is what the whole area gives. So an area is read in one pass,
-- and no pair of it is kept.
use Rattle.std.specs.Prelude.{◌≡◌, ℕ, List, [], ◌∷◌, filter, Bool, IsTrue, ⊤, Option, Some, None, Result, Ok, Err}
use Rattle.std.specs.Ordering.{is_lt}
use Rattle.rl_value.specs.Order.{bytes_cmp}
use Rattle.rl_ports.specs.declared.batch.Pair.{Pair}
use Rattle.standby_spec.specs.Loading.{StorePlace, KeyValue, read_area}
use Rattle.checkpoint.specs.declared.fault.LoadFault.{LoadFault}
use Rattle.checkpoint.specs.declared.fault.LoadFault.TheVariants as faults

-- ---- the next pair

-- a key lies above another one
abbrev pub is_above : List ℕ → List ℕ → Bool
is_above last key = is_lt (bytes_cmp last key)

abbrev pub pairs_above : List ℕ → List KeyValue → List KeyValue
pairs_above last pairs = filter (λ p. is_above last p.0) pairs

-- the first pair above a key, and behind it those above its own; or none is above
abbrev pub IsNext : List KeyValue → List ℕ → Option Pair → Type 0
IsNext pairs last None = pairs_above last pairs ≡ []
IsNext pairs last (Some p) = pairs_above last pairs ≡ (p.key, p.value) ∷ pairs_above p.key pairs

-- the same of an answer; no key of a lawful store is refused
abbrev pub GivesNext : List KeyValue → List ℕ → Result (Option Pair) LoadFault → Type 0
GivesNext pairs last (Ok found) = IsNext pairs last found
GivesNext pairs last (Err (faults.BadKeeper area key)) = ⊥
GivesNext pairs last (Err faults.KeeperFault) = ⊤
GivesNext pairs last (Err faults.Memory) = ⊤

-- the key of a pair that is given lies above the last one
abbrev pub LiesAbove : List ℕ → Option Pair → Type 0
LiesAbove last None = ⊤
LiesAbove last (Some p) = IsTrue (is_above last p.key)

-- what the keeper gave is given on, unless its key does not lie above the last one
abbrev pub Checks : List ℕ → Option Pair → Result (Option Pair) LoadFault → Type 0
Checks last found (Ok kept) = (kept ≡ found) × LiesAbove last kept
Checks last found (Err (faults.BadKeeper area key)) = LiesAbove last found → ⊥
Checks last found (Err faults.KeeperFault) = ⊥
Checks last found (Err faults.Memory) = ⊥

-- ---- a whole area

-- what was read of the pairs up to this key, and what is read on of those above it, is what reading all of them gives
abbrev pub Going : {A : Type 0} → ℕ → (A → KeyValue → Option A) → A → A → List ℕ → List KeyValue → Type 0
Going area step first so_far last pairs = read_area area step first pairs ≡ read_area area step so_far (pairs_above last pairs)

-- the same bad key, unless the keeper failed or memory ran out
abbrev pub IsBadKey : {A : Type 0} → LoadFault → Result A StorePlace → Type 0
IsBadKey (faults.BadKeeper area key) read = read ≡ Err (area, key)
IsBadKey faults.KeeperFault read = ⊤
IsBadKey faults.Memory read = ⊤

-- what a reader of the code gives, beside what reading the pairs gives
abbrev pub Reads : {X A : Type 0} → (X → A) → Result X LoadFault → Result A StorePlace → Type 0
Reads view (Ok x) read = read ≡ Ok (view x)
Reads view (Err fault) read = IsBadKey fault read

-- Tries: the changes of a chunk, tried one after the other behind those that were done before.
use Rattle.std.specs.Prelude.{◌≡◌, List, [], ◌∷◌, ◌++◌, map, ◌==◌, if◌then◌else◌, Option, Some, None}
use Rattle.rl_value.specs.declared.value.Value.{Value}
use Rattle.rl_value.specs.declared.key.Key.{Key}
use Rattle.row_apply.specs.declared.writes.Write.{Write}
use Rattle.row_apply.specs.Overlaid.{written_at}
use Rattle.eager_work.specs.declared.did.Did.{Did}
use Rattle.eager_work.specs.declared.tries.Tries.{Tries}
use Rattle.eager_work.specs.Attempts.{Attempt, writes}
use Rattle.eager_work.specs.Keeping.{done_attempt, conflict_attempts, waiting_attempt}

-- ---- what was left under keys

abbrev pub write_if : Key → Option (Option (List Value)) → List Write
write_if k None = []
write_if k (Some row) = record { table = k.table; key = k.values; row = row } ∷ []

-- the write under a row key, if anything was written there
abbrev pub found_at : List Write → Key → List Write
found_at ws k = if k.index == 0 then write_if k (written_at ws k) else []

abbrev pub found_all : List Write → List Key → List Write
found_all ws [] = []
found_all ws (k ∷ ks) = found_at ws k ++ found_all ws ks

-- ---- the attempts so far

-- those of the changes that were done before, and of the ones that are tried
abbrev pub attempts_with : List Did → Tries → List Attempt
attempts_with before t =
    map done_attempt (before ++ t.done.items) ++ (conflict_attempts t.conflict ++ map waiting_attempt t.waiting.items)

-- the overlay has what they left
abbrev pub IsOver : List Did → Tries → Type 0
IsOver before t = t.over ≡ writes (attempts_with before t)

-- nothing waits where there is no conflict
abbrev pub IsFree : Tries → Type 0
IsFree t = t.conflict ≡ None → t.waiting.items ≡ []

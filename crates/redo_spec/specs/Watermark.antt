-- Dependency watermark: the commit that a change has to wait for.
-- A change may be done ahead of its commit once each earlier commit that touches one of its keys is applied. The watermark
-- is a commit number, never an SCN. This project's own.
use Rattle.std.specs.Prelude.{ℕ, ◌+◌, max, List, [], ◌∷◌, Bool, ◌&&◌, ◌||◌, ◌==◌, nat_lt, if◌then◌else◌}
use Rattle.std.specs.List.{list_any}
use Rattle.std.specs.Ordering.{eq_by_cmp}
use Rattle.rl_value.specs.declared.pos.Pos.{Pos}
use Rattle.rl_value.specs.declared.key.Key.{Key}
use Rattle.rl_value.specs.Order.{key_cmp}
use Rattle.redo_vec.specs.declared.table.TableRow.{TableRow}
use Rattle.redo_spec.specs.ConflictKeys.{conflict_keys}
use Rattle.redo_spec.specs.History.{Placed, Committed, Commits}
use Rattle.redo_spec.specs.Skips.{Skip, is_skipped, kept_changes}

-- one position stands before the other in the redo
abbrev pub is_before : Pos → Pos → Bool
is_before p q = nat_lt p.rec q.rec || ((p.rec == q.rec) && nat_lt p.vec q.vec)

-- the two have a common key
abbrev pub shares_key : List Key → List Key → Bool
shares_key keys others = list_any (λ k. list_any (eq_by_cmp key_cmp k) others) keys

-- one of the commit's kept changes touches one of the keys
abbrev pub touches : List Skip → List TableRow → ℕ → Committed → List Key → Bool
touches skips tables n c keys = list_any (λ p. shares_key keys (conflict_keys tables p.1)) (kept_changes skips tables n c)

-- the number of this commit, the one after n, if its COMMIT stands before the position and it touches one of the keys
abbrev pub waits_for : List Skip → List TableRow → Pos → List Key → ℕ → Committed → ℕ
waits_for skips tables at keys n c = if is_before c.at at && touches skips tables n c keys then n + 1 else 0

-- the greatest such number of these commits, the first of which is the one after n, or 0
abbrev pub greatest_wait : List Skip → List TableRow → Pos → List Key → ℕ → List Committed → ℕ
greatest_wait skips tables at keys n [] = 0
greatest_wait skips tables at keys n (c ∷ cs) = max (waits_for skips tables at keys n c)
    (greatest_wait skips tables at keys (n + 1) cs)

-- The greatest number of a commit whose COMMIT stands before the position, and which has a kept change that touches one
-- of the keys, or 0.
abbrev pub watermark_at : List Skip → List TableRow → Commits → Pos → List Key → ℕ
watermark_at skips tables cs at keys = greatest_wait skips tables at keys cs.before cs.made

-- the watermark of a change, where a run begins at count n; a change that is skipped waits for nothing
abbrev pub watermark_of : List Skip → List TableRow → Commits → ℕ → Placed → ℕ
watermark_of skips tables cs n p =
    if is_skipped skips tables n p then 0 else watermark_at skips tables cs p.0 (conflict_keys tables p.1)

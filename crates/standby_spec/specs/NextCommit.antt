-- What is handed to be published next: an SCN, and writes that lead from the tables at a count to those at the next.
use Rattle.std.specs.Prelude.{ℕ, ◌≡◌, ◌+◌, List, [], ◌∷◌, Bool, true, not, ◌||◌, ◌==◌, IfOk, IsTrue, ⊤}
use Rattle.std.specs.List.{list_all, list_any}
use Rattle.rl_value.specs.Outcome.{map_ok}
use Rattle.redo_vec.specs.declared.table.TableRow.{TableRow}
use Rattle.redo_spec.specs.History.{Commits}
use Rattle.redo_spec.specs.Skips.{Skip, is_maintained}
use Rattle.redo_spec.specs.Tables.{Tables}
use Rattle.redo_spec.specs.Fold.{Base, tables_at, scn_at}
use Rattle.row_apply.specs.declared.writes.Write.{Write}
use Rattle.row_apply.specs.Overlaid.{overlaid, writes_rise}

-- no write is of the table
abbrev pub is_left : List Write → TableRow → Bool
is_left writes t = not (list_any (λ w. w.table == t.id) writes)

-- no write is of a table that is not maintained at the count, and so none of a local row
abbrev pub leave_local : List Skip → ℕ → List Write → Tables → Bool
leave_local skips n writes tables = list_all (λ t. is_maintained skips n t.row || is_left writes t.row) tables

-- The commit behind count n: its SCN, and writes of maintained tables alone that lead from the tables at n to those at n + 1. The
-- effects of its kept changes in order lead there, and so does work that was done ahead of it.
pub record IsNextCommit (b : Base) (skips : List Skip) (commits : Commits) (n at_scn : ℕ) (writes : List Write) : Type 0 where
  pub scn : at_scn ≡ scn_at b commits (n + 1)
  pub rising : IsTrue (writes_rise writes)
  pub maintained : IfOk (tables_at b skips commits n) (λ tables. leave_local skips n writes tables ≡ true)
  pub leads : map_ok (λ tables. overlaid tables writes) (tables_at b skips commits n) ≡ tables_at b skips commits (n + 1)

-- the commits behind count n, one after the other, each with its SCN and writes
abbrev pub AreNextCommits : Base → List Skip → Commits → ℕ → List (ℕ × List Write) → Type 0
AreNextCommits b skips commits n [] = ⊤
AreNextCommits b skips commits n ((at_scn, writes) ∷ more) =
    IsNextCommit b skips commits n at_scn writes × AreNextCommits b skips commits (n + 1) more

-- Work that is done early: ahead of its commit, over the tables of earlier counts. This project's own.
use Rattle.std.specs.Prelude.{◌≡◌, ℕ, ◌+◌, ◌-◌, ◌≤◌, ◌<◌, List, [], ◌∷◌, Bool, false, not, ◌&&◌, nat_le, get_or, slice_get, Some, None, Result, Ok, Err, IsTrue}
use Rattle.std.specs.List.{list_all, AllByRecursion}
use Rattle.rl_value.specs.declared.key.Key.{Key}
use Rattle.rl_value.specs.declared.miss.Miss.{Miss}
use Rattle.rl_value.specs.declared.miss.Miss.TheVariants.{Absent, Differs, Exists, Taken}
use Rattle.rl_value.specs.Text.{are_cells}
use Rattle.redo_vec.specs.Forms.{is_key_columns}
use Rattle.redo_vec.specs.declared.change.Change.{Change}
use Rattle.redo_vec.specs.declared.table.TableRow.{TableRow}
use Rattle.redo_spec.specs.ChangeForm.{change_fault}
use Rattle.redo_spec.specs.ConflictKeys.{conflict_keys}
use Rattle.redo_spec.specs.Dictionary.{has_bad_keys, primary_of, ids_rise}
use Rattle.redo_spec.specs.Fold.{Base, Missed, tables_at, with_commit}
use Rattle.redo_spec.specs.History.{Placed, Committed, Commits, commit_count}
use Rattle.redo_spec.specs.Skips.{Skip, is_skipped}
use Rattle.redo_spec.specs.Tables.{Tables, definitions_of}
use Rattle.redo_spec.specs.Watermark.{is_before, touches, watermark_of}
use Rattle.redo_spec.specs.Work.{Done}
use Rattle.row_apply.specs.Soundness.{AreSound}
use Rattle.eager_work.specs.Attempts.{Attempt, done_at, IsWork}

-- ---- what holds of tables and changes

-- a table as dictionaries take it: its keys are of its own columns, and it has a primary key
abbrev pub is_table : TableRow → Bool
is_table t = not (has_bad_keys t) && is_key_columns (primary_of t)

-- tables that rise by their ids
abbrev pub are_tables : List TableRow → Bool
are_tables rows = ids_rise 0 rows && list_all is_table rows

-- a change that these tables accept, and whose cells rise by their columns, as those of each decoded change do
pub record IsAccepted (rows : List TableRow) (c : Change) : Type 0 where
  pub fits : change_fault rows c ≡ None
  pub old : IsTrue (are_cells c.old)
  pub new : IsTrue (are_cells c.new)

-- ---- counts

-- From count `low` to n, the tables of a count are those of the count before it with the kept changes of the commit between, all
-- of which are accepted; and no rule begins to count in between.
pub record AreCounts (skips : List Skip) (rows : List TableRow) (made : ℕ → Committed) (at : ℕ → Result Tables Missed)
    (low n : ℕ) : Type 0 where
  pub steps : (k : ℕ) → low ≤ k → k < n → at (k + 1) ≡ with_commit skips k (made k) (at k)
  pub accepted : (k : ℕ) → low ≤ k → k < n → AllByRecursion (λ p. IsAccepted rows p.1) (made k).txn.survivors
  pub rules : IsTrue (list_all (λ s. nat_le s.from low) skips)

-- Changes are done early for the commit after n: at counts that don't fall, from k on, and up to n; and no commit from a change's
-- count up to n touches a key of it, unless it is passed over.
abbrev pub AreEarly : List Skip → List TableRow → (ℕ → Committed) → ℕ → ℕ → List Done → Type 0
AreEarly skips rows made n k [] = Unit {0}
AreEarly skips rows made n k (d ∷ more) =
    (k ≤ d.1) × ((d.1 ≤ n) ×
    ((is_skipped skips rows n d.0 ≡ false → (j : ℕ) → d.1 ≤ j → j < n →
    touches skips rows j (made j) (conflict_keys rows d.0.1) ≡ false) ×
    AreEarly skips rows made n d.1 more))

-- ---- watermarks

-- the commit after count k among these, or another one where there is none
abbrev pub made_after : Commits → Committed → ℕ → Committed
made_after cs other k = get_or cs.made (k - cs.before) other

-- A change is done in time for the commit after n by a run that begins at count `low`: at a count from k on that reaches its
-- watermark; and no commit behind it up to n touches a key of it, as the lock rule has it.
pub record IsTimely (skips : List Skip) (rows : List TableRow) (cs : Commits) (low n k : ℕ) (d : Done) : Type 0 where
  pub rises : k ≤ d.1
  pub few : d.1 ≤ n
  pub reached : watermark_of skips rows cs low d.0 ≤ d.1
  pub locked : (j : ℕ) (c : Committed) → d.1 ≤ j → j < n → slice_get cs.made (j - cs.before) ≡ Some c →
      is_before c.at d.0.0 ≡ false → touches skips rows j c (conflict_keys rows d.0.1) ≡ false

-- each of them is, at counts that don't fall
abbrev pub AreTimely : List Skip → List TableRow → Commits → ℕ → ℕ → ℕ → List Done → Type 0
AreTimely skips rows cs low n k [] = Unit {0}
AreTimely skips rows cs low n k (d ∷ more) = IsTimely skips rows cs low n k d × AreTimely skips rows cs low n d.1 more

-- ---- misses

-- a key of no table
abbrev pub no_key : Key
no_key = record { table = 0; index = 0; values = [] }

-- A miss, but not who has a unique value that is taken. An update that moves a row to another primary key need not log the unique
-- values that it leaves, so over earlier tables another row may have them.
abbrev pub ownerless : Miss → Miss
ownerless (Absent k) = Absent k
ownerless (Differs column logged found) = Differs column logged found
ownerless (Exists k) = Exists k
ownerless (Taken index owner) = Taken index no_key

abbrev pub ownerless_missed : Missed → Missed
ownerless_missed m = record { pos = m.pos; table = m.table; miss = ownerless m.miss }

-- what comes of a commit is a miss like this one
abbrev pub MissesAlike : Missed → Result Tables Missed → Type 0
MissesAlike m (Ok tables) = ⊥
MissesAlike m (Err found) = ownerless_missed m ≡ ownerless_missed found

-- ---- the work of a commit

-- Attempts that are the work of these changes of a transaction, done in time over the tables of counts up to n by a run that
-- begins at the base's count; where the tables of the base are sound, all surviving changes are accepted, and no rule begins to
-- count later.
pub record IsTimelyWork (b : Base) (skips : List Skip) (cs : Commits) (n : ℕ) (ps : List Placed) (attempts : List Attempt) :
    Type 0 where
  pub before : cs.before ≤ b.n
  pub room : b.n ≤ n
  pub there : n ≤ commit_count cs
  pub tables : IsTrue (are_tables (definitions_of b.tables))
  pub sound : AreSound b.tables
  pub committed : AllByRecursion (λ e. AllByRecursion (λ p. IsAccepted (definitions_of b.tables) p.1) e.txn.survivors) cs.made
  pub accepted : AllByRecursion (λ p. IsAccepted (definitions_of b.tables) p.1) ps
  pub rules : IsTrue (list_all (λ s. nat_le s.from b.n) skips)
  pub work : IsWork (tables_at b skips cs) skips ps attempts
  pub timely : AreTimely skips (definitions_of b.tables) cs b.n n b.n (done_at ps attempts)

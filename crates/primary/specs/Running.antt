-- What an evaluator keeps while its fold goes on, beside the progress that it is seen as.
use Rattle.std.specs.Prelude.{◌≡◌, ⊤, List, [], true, false, Option, Some, None, Result, Err, is_some}
use Rattle.std.specs.List.{AllByRecursion}
use Rattle.std.specs.List.Sorted.{IsStrictlySortedBy}
use Rattle.std.specs.Map.{keys_of}
use Rattle.rl_value.specs.Order.{xid_cmp}
use Rattle.rl_value.specs.declared.xid.Xid.{Xid}
use Rattle.rl_value.specs.declared.verdict.Verdict.{Verdict}
use Rattle.redo_vec.specs.declared.table.TableRow.{TableRow}
use Rattle.redo_spec.specs.ChangeForm.{change_fault}
use Rattle.redo_spec.specs.History.{Placed}
use Rattle.redo_spec.specs.Standing.{Standing, is_open}
use Rattle.redo_spec.specs.Tables.{Tables}
use Rattle.redo_spec.specs.Fold.{Missed}
use Rattle.row_apply.specs.Soundness.{AreSound}
use Rattle.plain_store.specs.Kept.{AreKept}
use Rattle.primary.specs.Progress.{OpenChanges, changes_of, tables_shown, waiting_until, FoldState, Progress, Going, Ended, held_at}
use Rattle.primary.specs.declared.running.Running.{Running}
use Rattle.primary.specs.declared.effects.EffectsFault.{EffectsFault}
use Rattle.primary.specs.declared.effects.EffectsFault.TheVariants as faults

-- the dictionary of these tables accepts each of the changes
abbrev pub AreAccepted : List TableRow → List Placed → Type 0
AreAccepted tables ps = AllByRecursion (λ p. change_fault tables p.1 ≡ None) ps

-- the map has the changes of each open transaction, and of no other
pub record Opens (s : Standing) (live : OpenChanges) : Type 0 where
  pub rising : IsStrictlySortedBy xid_cmp (keys_of live)
  pub alike : (y : Xid) → is_open s y ≡ is_some (changes_of y live)

-- the changes are those of the open transactions, accepted by the dictionary; before it is whole there are none
pub record FitsStanding (s : Standing) (live : OpenChanges) : Type 0 where
  pub opens : Opens s live
  pub accepted : (y : Xid) (ps : List Placed) → changes_of y live ≡ Some ps → AreAccepted s.dictionary.tables ps
  pub none : s.dictionary.finished ≡ false → live ≡ []

-- changes that were not all done tell the one that missed, unless memory was wanted
abbrev pub TellsMiss : Result Tables Missed → EffectsFault → Type 0
TellsMiss r (faults.Missed pos table miss) = r ≡ Err (record { pos = pos; table = table; miss = miss })
TellsMiss r faults.Memory = ⊤

-- ---- a fold that goes on

-- the tables of its rows
abbrev pub tables_of : Running → Tables
tables_of r = tables_shown r.whole r.law.dictionary.tables r.tables

-- what it is seen as
abbrev pub fold_state_of : Running → FoldState
fold_state_of r = record {
  standing = r.law;
  live = r.live;
  made = r.made;
  n = r.n;
  scn = r.scn;
  waiting = waiting_until r.whole r.tables;
  tables = tables_of r;
}

-- and where it ends, if it does
abbrev pub progress_of : Option Verdict → Running → Progress
progress_of None r = Going (fold_state_of r)
progress_of (Some v) r = Ended (held_at (fold_state_of r) v)

-- what it keeps beside its rows is theirs
abbrev pub KeepsRows : Running → Type 0
KeepsRows r = AreKept r.law.dictionary.tables r.tables r.index r.count

pub record IsRunning (r : Running) : Type 0 where
  pub fits : FitsStanding r.law r.live
  pub whole : r.whole ≡ r.law.dictionary.finished
  pub rec : r.rec ≡ r.law.rec
  pub sound : AreSound (tables_of r)
  pub kept : r.whole ≡ true → KeepsRows r

-- a COMMIT of these changes may come: the dictionary is whole and accepts them
pub record MayCommit (r : Running) (ps : List Placed) : Type 0 where
  pub whole : r.whole ≡ true
  pub accepted : AreAccepted r.law.dictionary.tables ps

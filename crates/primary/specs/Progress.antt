-- How far a fold has come between two records, and what one more record makes of it.
-- It goes on with what the records so far leave: the standing, the surviving changes of each open transaction, how many
-- commits there were, and count, SCN and tables after the last one that was applied. Or it has ended, by the first bad
-- record, a miss or the row limit, and then nothing changes any more. Commits numbered at most the count where it begins
-- change nothing.
use Rattle.std.specs.Prelude.{ℕ, ◌≡◌, ⊤, ◌+◌, List, [], ◌∷◌, filter, Bool, true, false, not, nat_lt, if◌then◌else◌, Option, Some, None, Result, Ok, Err, unwrap_or}
use Rattle.std.specs.Ordering.{on}
use Rattle.std.specs.Map.{lookup, remove_entry, set_value}
use Rattle.std.specs.BTreeMap.{insert_entry, is_at}
use Rattle.rl_value.specs.Order.{xid_cmp}
use Rattle.rl_value.specs.declared.pos.Pos.{Pos}
use Rattle.rl_value.specs.declared.xid.Xid.{Xid}
use Rattle.rl_value.specs.declared.cause.LawFault.{LawFault}
use Rattle.rl_value.specs.declared.cause.Cause.TheVariants as causes
use Rattle.rl_value.specs.declared.verdict.Stop.{Stop}
use Rattle.rl_value.specs.declared.verdict.Stop.TheVariants.{Malformed}
use Rattle.rl_value.specs.declared.verdict.Verdict.{Verdict}
use Rattle.rl_value.specs.declared.verdict.Verdict.TheVariants.{Stopped}
use Rattle.rl_value.specs.Outcome.{map_ok}
use Rattle.redo_vec.specs.declared.table.TableRow.{TableRow}
use Rattle.redo_vec.specs.declared.vector.Vector.{Vector}
use Rattle.redo_vec.specs.declared.vector.Vector.TheVariants.{Start, Change as OfChange, Undo, Commit, Rollback, Table, DictEnd}
use Rattle.redo_spec.specs.Tables.{Tables, RowsById, assembled, row_count, definitions_of}
use Rattle.redo_spec.specs.History.{Entry, Placed}
use Rattle.redo_spec.specs.Standing.{Standing, record_after}
use Rattle.redo_spec.specs.Survivors.{after_change, after_undo}
use Rattle.redo_spec.specs.Law.{record_fault, dictionary_left}
use Rattle.redo_spec.specs.Skips.{Skip, is_skipped}
use Rattle.redo_spec.specs.Fold.{Folded, Missed, effects, stop_of_commit, named_by}
use Rattle.row_apply.specs.Soundness.{AreSound}

-- the surviving changes of each open transaction, by its id
abbrev pub OpenChanges : Type 0
OpenChanges = List (Xid × List Placed)

-- those of this transaction, if it is open
abbrev pub changes_of : Xid → OpenChanges → Option (List Placed)
changes_of x live = lookup (is_at (xid_cmp x)) live

abbrev pub with_opened : Xid → OpenChanges → OpenChanges
with_opened x live = insert_entry xid_cmp live x []

abbrev pub without_closed : Xid → OpenChanges → OpenChanges
without_closed x live = remove_entry (is_at (xid_cmp x)) live

-- with other changes of a transaction that is open
abbrev pub with_changes : Xid → (List Placed → List Placed) → OpenChanges → Option (List Placed) → OpenChanges
with_changes x f live None = live
with_changes x f live (Some ps) = set_value (is_at (xid_cmp x)) live (f ps)

-- the tables of these rows, where the dictionary is whole, and else none
abbrev pub tables_shown : Bool → List TableRow → RowsById → Tables
tables_shown whole tables rows = if whole then assembled tables rows else []

-- the rows that wait for a dictionary: all, until it is whole
abbrev pub waiting_until : Bool → RowsById → RowsById
waiting_until true rows = []
waiting_until false rows = rows

-- a fold that goes on
pub record FoldState : Type 0 where
  pub standing : Standing
  pub live : OpenChanges
  pub made : ℕ
  pub n : ℕ
  pub scn : ℕ
  pub waiting : RowsById
  pub tables : Tables

-- a fold that goes on, or one that has ended
pub data Progress : Type 0 where
  Going : FoldState → Progress
  Ended : Folded → Progress

abbrev pub is_going : Progress → Bool
is_going (Going a) = true
is_going (Ended f) = false

-- how many records were taken, over the whole redo, as long as it goes on
abbrev pub recs_of : Progress → ℕ
recs_of (Going a) = a.standing.rec
recs_of (Ended f) = 0

-- the fact holds of a fold that goes on
abbrev pub OnGoing : Progress → (FoldState → Type 0) → Type 0
OnGoing (Going a) P = P a
OnGoing (Ended f) P = ⊤

-- the fold that comes no further than here
abbrev pub held_at : FoldState → Verdict → Folded
held_at a v = record { n = a.n; scn = a.scn; tables = a.tables; names = a.standing.dictionary.tables; verdict = v }

-- ---- a commit

-- the changes of the commit after n that are not passed over
abbrev pub kept_of : List Skip → List TableRow → ℕ → List Placed → List Placed
kept_of skips tables n ps = filter (λ p. not (is_skipped skips tables n p)) ps

abbrev pub tables_or : Tables → Result Tables Missed → Tables
tables_or tables (Ok after) = after
tables_or tables (Err missed) = tables

abbrev pub progress_or_end : Option Verdict → ℕ → Tables → FoldState → Progress
progress_or_end (Some v) scn after a = Ended (held_at a v)
progress_or_end None scn after a = Going (record a { made = a.made + 1; n = a.n + 1; scn = scn; tables = after })

-- after the kept changes of the next commit, which may miss
abbrev pub progress_after_effects : ℕ → Result Tables Missed → FoldState → Progress
progress_after_effects scn r a = progress_or_end (stop_of_commit scn (map_ok row_count r)) scn (tables_or a.tables r) a

-- after the commit of these changes at this SCN
abbrev pub progress_after_commit : List Skip → ℕ → List Placed → FoldState → Progress
progress_after_commit skips scn ps a =
    if nat_lt a.made a.n then Going (record a { made = a.made + 1 })
    else progress_after_effects scn (effects a.tables (kept_of skips (definitions_of a.tables) a.n ps)) a

-- ---- a record

-- the surviving changes after one more vector, at this position
abbrev pub live_after : Pos → Vector → OpenChanges → OpenChanges
live_after at (Start x) live = with_opened x live
live_after at (OfChange c) live = with_changes c.xid (λ ps. after_change ps (at, c)) live (changes_of c.xid live)
live_after at (Undo x) live = with_changes x after_undo live (changes_of x live)
live_after at (Commit x) live = without_closed x live
live_after at (Rollback x) live = without_closed x live
live_after at (Table t) live = live
live_after at DictEnd live = live

-- the changes that a vector commits, if it is a COMMIT
abbrev pub commit_of : Vector → OpenChanges → Option (List Placed)
commit_of (Start x) live = None
commit_of (OfChange c) live = None
commit_of (Undo x) live = None
commit_of (Commit x) live = Some (unwrap_or (changes_of x live) [])
commit_of (Rollback x) live = None
commit_of (Table t) live = None
commit_of DictEnd live = None

abbrev pub progress_with_commit : List Skip → ℕ → Option (List Placed) → FoldState → Progress
progress_with_commit skips scn None a = Going a
progress_with_commit skips scn (Some ps) a = progress_after_commit skips scn ps a

-- after one more vector, at this position in a record of this SCN
abbrev pub progress_with_vector : List Skip → ℕ → Pos → Vector → FoldState → Progress
progress_with_vector skips scn at v a = progress_with_commit skips scn (commit_of v a.live)
    (record a { live = live_after at v a.live })

abbrev pub progress_after_vector : List Skip → ℕ → Pos → Vector → Progress → Progress
progress_after_vector skips scn at v (Going a) = progress_with_vector skips scn at v a
progress_after_vector skips scn at v (Ended f) = Ended f

-- after these vectors, the first of which has this number in record rec
abbrev pub progress_after_vectors : List Skip → ℕ → ℕ → ℕ → List Vector → Progress → Progress
progress_after_vectors skips scn rec vec [] p = p
progress_after_vectors skips scn rec vec (v ∷ vs) p = progress_after_vectors skips scn rec (vec + 1) vs
    (progress_after_vector skips scn (record { rec = rec; vec = vec }) v p)

-- the tables are known with the end of the dictionary, and have the rows then that waited for it
abbrev pub tables_then : Bool → RowsById → Tables → Standing → Tables
tables_then true rows tables s = tables
tables_then false rows tables s = tables_shown s.dictionary.finished s.dictionary.tables rows

-- as an admitted record begins
abbrev pub state_at_record : Entry → FoldState → FoldState
state_at_record e a = record a {
  standing = record_after e a.standing;
  waiting = waiting_until (record_after e a.standing).dictionary.finished a.waiting;
  tables = tables_then a.standing.dictionary.finished a.waiting a.tables (record_after e a.standing);
}

-- the rows that wait are sound tables, where the dictionary ends with this record
abbrev pub RowsAreSound : Entry → Progress → Type 0
RowsAreSound e (Going a) = record_fault a.standing e ≡ None → a.standing.dictionary.finished ≡ false →
    AreSound (tables_then false a.waiting a.tables (record_after e a.standing))
RowsAreSound e (Ended f) = ⊤

-- no rows wait
abbrev pub NoneWait : Progress → Type 0
NoneWait (Going a) = a.waiting ≡ []
NoneWait (Ended f) = ⊤

-- after a record that is admitted, or is bad; the dictionary that a bad one leaves names its table
abbrev pub progress_unless_bad : Option LawFault → List Skip → Entry → FoldState → Progress
progress_unless_bad (Some fault) skips e a = Ended (named_by (dictionary_left a.standing e).tables
    (held_at a (Stopped (Malformed (a.standing.rec + 1) (causes.Law fault)))))
progress_unless_bad None skips (h, r) a = progress_after_vectors skips r.scn (a.standing.rec + 1) 1 r.vectors
    (Going (state_at_record (h, r) a))

-- after one more record
abbrev pub progress_after_record : List Skip → Entry → Progress → Progress
progress_after_record skips e (Going a) = progress_unless_bad (record_fault a.standing e) skips e a
progress_after_record skips e (Ended f) = Ended f

-- after these records
abbrev pub progress_after_records : List Skip → List Entry → Progress → Progress
progress_after_records skips [] p = p
progress_after_records skips (e ∷ es) p = progress_after_records skips es (progress_after_record skips e p)

-- the fold, where the redo's records end so
abbrev pub end_of : Stop → Progress → Folded
end_of stop (Going a) = held_at a (Stopped stop)
end_of stop (Ended f) = f

-- The mark with which a run reads the redo is right at the count with which it begins.
use Rattle.std.proofs.Common.{◌≡◌, ℕ, zero, suc, ◌+◌, ◌-◌, ◌≤◌, ◌<◌, List, [], ◌∷◌, take, drop, length, true, false, refl, Option, Some, None, arith}
use Rattle.std.specs.Prelude.{◌==◌, nat_le, if◌then◌else◌, IfSome, IsTrue}
use Rattle.std.specs.Option.{option_map_or}
use Rattle.std.specs.List.{AllByRecursion}
use Rattle.std.proofs.lemmas.Bool.Decides.{nat_tests}
use Rattle.redo_spec.specs.History.{Entry, History, no_history, history_after}
use Rattle.redo_spec.specs.Standing.{Standing, beginning, record_after}
use Rattle.redo_spec.specs.Law.{record_fault, dictionary_left, admitted_or, admission}
use Rattle.redo_spec.proofs.MarkRanges.{Began, began_after_record}
use Rattle.log_registry.specs.declared.entry.LogEntry.{LogEntry}
use Rattle.log_registry.specs.Registered.{entry_of}
use Rattle.standby_spec.specs.declared.mark.Mark.{Mark}
use Rattle.standby_spec.specs.KeptState.{KeptState}
use Rattle.standby_spec.specs.StandbyRedo.{Archived, redo_entries, front_at}
use Rattle.standby_spec.specs.Checkpoint.{IsMarkOf, first_mark, at_count, begin_of}
use Rattle.standby_spec.specs.Loading.{is_mark_in, lies_in}
use Rattle.standby_spec.specs.Lawful.{Belongs}
use Rattle.standby_spec.proofs.StoreLaws.{and-left, and-right}
use Rattle.run_spec.specs.RunStart.{reading_mark, run_mark}
use Rattle.run_spec.proofs.Starting.{StandsFirst}

-- ---- each transaction begins in some record

began_at : (n : ℕ) (es : List Entry) (s : Standing) (h : History) → Began (λ k. 0 < k) n h →
    Began (λ k. 0 < k) n (admission s h es).history
began_at n [] s h b = b
began_at n (e ∷ es) s h b =
    elim (record_fault s e) as (λ o. Began (λ k. 0 < k) n (admitted_or o (dictionary_left s e) s h
    (admission (record_after e s) (history_after (s.rec + 1) e h) es)).history) [
      | Some fault ↦ b
      | None ↦ began_at n es (record_after e s) (history_after (s.rec + 1) e h)
          (began_after_record (λ k. 0 < k) n (s.rec + 1) e h (omega arith) b)
    ]

-- ---- the mark of no record, where the records up to another are known

none-right : (logs : Archived) (s : KeptState) (n count m m_scn : ℕ) → m ≤ length (redo_entries logs s) →
    (front_at logs s m).fault ≡ None → m_scn ≡ (front_at logs s m).standing.scn →
    IsMarkOf logs s n (record (first_mark s.first s.base count) { m = m; m_scn = m_scn })
none-right logs s n count m m_scn there well scn =
    let commits = (front_at logs s m).history.commits in
    let all : Began (λ k. 0 < k) (n - commits.before) (front_at logs s m).history =
    began_at (n - commits.before) (take m (redo_entries logs s)) (beginning s.first s.base) (no_history 0)
    (record { active = tt; made = nothing (n - commits.before) }) in
    record {
      fits = record {
        order = omega arith;
        there = there;
        well = well;
        behind = all.active;
        above = all.made;
      };
      before = refl;
      place = refl;
      q_scn = refl;
      m_scn = scn;
      commit_scn = refl;
    }
  where
    nothing : (k : ℕ) → AllByRecursion (λ c. 0 < c.txn.start.rec) (drop k (no_history 0).commits.made)
    nothing zero = tt
    nothing (suc k) = tt

-- ---- the kept mark

begin-right : (logs : Archived) (s : KeptState) (o : Option Mark) → IfSome o (IsMarkOf logs s s.n) →
    IsMarkOf logs s s.n (option_map_or (at_count s.n) o (first_mark s.first s.base s.n))
begin-right logs s None is = none-right logs s s.n s.n 0 s.base (omega arith) refl refl
begin-right logs s (Some k) is = record {
  fits = is.fits;
  before = is.before;
  place = is.place;
  q_scn = is.q_scn;
  m_scn = is.m_scn;
  commit_scn = is.commit_scn;
}

pub reading-right : (logs : Archived) (s : KeptState) (n : ℕ) (k : Mark) → IsMarkOf logs s n k →
    IsMarkOf logs s n (reading_mark s.first s.base k)
reading-right logs s n k is =
    elim (k.before == 0) as (λ w. IsMarkOf logs s n
    (if w then record (first_mark s.first s.base k.n) { m = k.m; m_scn = k.m_scn } else k)) [
      | true ↦ none-right logs s n k.n k.m k.m_scn is.fits.there is.fits.well is.m_scn
      | false ↦ is
    ]

-- the kept mark at the count of a run's beginning is right
pub kept-right : (logs : Archived) (s : KeptState) → Belongs logs s → IsMarkOf logs s s.n (begin_of s)
kept-right logs s b = begin-right logs s s.mark b.fits.mark

pub run-right : (logs : Archived) (s : KeptState) → Belongs logs s → IsMarkOf logs s s.n (run_mark s)
run-right logs s b = reading-right logs s s.n (begin_of s) (kept-right logs s b)

-- where no commit stands before it, it is that of no record
pub run-first : (s : KeptState) → StandsFirst (run_mark s)
run-first s =
    let k = begin_of s in
    elim (k.before == 0) as (λ w. (k.before == 0) ≡ w →
    StandsFirst (if w then record (first_mark s.first s.base k.n) { m = k.m; m_scn = k.m_scn } else k)) [
      | true ↦ λ is none. refl
      | false ↦ λ is none. absurd (cc)
    ] refl

-- no more commits stand before it than are applied
in-few : (logs : List LogEntry) (n : ℕ) (k : Mark) → is_mark_in logs n k ≡ true → k.before ≤ n
in-few logs n k is =
    let front = and-left _ (lies_in k (entry_of k.place.seq logs)) is in
    let test : nat_le k.before n ≡ true = and-right _ (nat_le k.before n) front in
    grind (arith, nat_tests, test)

begin-few : (logs : List LogEntry) (first base n : ℕ) (o : Option Mark) → IfSome o (λ k. IsTrue (is_mark_in logs n k)) →
    (option_map_or (at_count n) o (first_mark first base n)).before ≤ n
begin-few logs first base n None is = omega arith
begin-few logs first base n (Some k) is = in-few logs n k is

reading-few : (first base n : ℕ) (k : Mark) → k.before ≤ n → (reading_mark first base k).before ≤ n
reading-few first base n k few =
    elim (k.before == 0) as (λ w. (if w then record (first_mark first base k.n) { m = k.m; m_scn = k.m_scn } else k).before ≤ n) [
      | true ↦ omega arith
      | false ↦ few
    ]

pub run-few : (logs : Archived) (s : KeptState) → Belongs logs s → (run_mark s).before ≤ s.n
run-few logs s b = reading-few s.first s.base s.n (begin_of s) (begin-few s.logs s.first s.base s.n s.mark b.layout.placed)

-- the records that the run knows are those that the kept mark tells
pub run-known : (s : KeptState) → (run_mark s).m ≡ (begin_of s).m
run-known s =
    let k = begin_of s in
    elim (k.before == 0) as (λ w.
    (if w then record (first_mark s.first s.base k.n) { m = k.m; m_scn = k.m_scn } else k).m ≡ k.m) [
      | true ↦ refl
      | false ↦ refl
    ]

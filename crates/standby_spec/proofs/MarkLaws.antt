-- Laws of marks: what is ahead of a mark's place, and a mark in a longer redo.
use Rattle.std.proofs.Common.{◌≡◌, ℕ, suc, ◌+◌, ◌≤◌, List, [], ◌∷◌, ◌++◌, length, take, drop, Ok, Err, Result, sym, ap, ◌∙◌, subst, arith}
use Rattle.std.proofs.lemmas.List.{take-append-le}
use Rattle.rl_value.specs.declared.verdict.Stop.{Stop}
use Rattle.redo_vec.specs.declared.redo_rec.RedoRec.{RedoRec}
use Rattle.redo_vec.specs.Reading.{Fault, record_at}
use Rattle.redo_spec.specs.declared.header.Header.{Header}
use Rattle.redo_spec.specs.History.{Entry, commit_count, no_history}
use Rattle.redo_spec.specs.Standing.{beginning}
use Rattle.redo_spec.specs.Law.{admission}
use Rattle.redo_spec.specs.Mark.{MarkFits}
use Rattle.redo_spec.specs.Redo.{Redo}
use Rattle.redo_wire.specs.declared.raw.Raw.{Raw}
use Rattle.log_registry.specs.declared.entry.LogEntry.{LogEntry}
use Rattle.redo_reader.specs.Ahead.{ahead, redo_of_raws, redo_with, redo_ahead, first_place}
use Rattle.standby_spec.specs.declared.mark.Mark.{Mark}
use Rattle.standby_spec.specs.KeptState.{KeptState}
use Rattle.standby_spec.specs.StandbyRedo.{Archived, standby_redo, redo_entries}
use Rattle.standby_spec.specs.Writings.{state_after, AddLog}
use Rattle.standby_spec.specs.Checkpoint.{IsMarkOf, place_at}

-- a mark stands within the records
pub within : (logs : Archived) (s : KeptState) (n : ℕ) (k : Mark) → IsMarkOf logs s n k → k.q ≤ length (redo_entries logs s)
within logs s n k is =
    let order = is.fits.order in
    let there = is.fits.there in
    omega (arith, order, there)

-- no more records are decoded than are cut off
with-fewer : (h : Header) (r : Result RedoRec Fault) (rec count : ℕ) (later : Redo) → length later.entries ≤ count →
    length (redo_with h r rec later).entries ≤ suc count
with-fewer h (Ok r) rec count later few = omega (arith, few)
with-fewer h (Err f) rec count later few = omega arith

pub decoded-fewer : (rec : ℕ) (raws : List Raw) (stop : Stop) → length (redo_of_raws rec raws stop).entries ≤ length raws
decoded-fewer rec [] stop = omega arith
decoded-fewer rec (raw ∷ raws) stop =
    with-fewer raw.head (record_at raw.bytes) rec (length raws) (redo_of_raws (rec + 1) raws stop)
    (decoded-fewer (rec + 1) raws stop)

-- the first records of a longer redo are those of the redo
first-records : (old new : List Entry) (k : ℕ) → new ≡ old ++ drop (length old) new → k ≤ length old → take k new ≡ take k old
first-records old new k longer few = ap (take k) longer ∙ take-append-le k old (drop (length old) new) few

-- the laws of lower crates that this one takes
pub record Longer (logs : Archived) (s : KeptState) (e : LogEntry) : Type 0 where
  pub redo : redo_entries logs (state_after (AddLog e) s) ≡
      redo_entries logs s ++ drop (length (redo_entries logs s)) (redo_entries logs (state_after (AddLog e) s))
  pub place : (count : ℕ) → count ≤ length (redo_entries logs s) →
      place_at logs (state_after (AddLog e) s) count ≡ place_at logs s count
  pub fits : (q m n : ℕ) → MarkFits s.first s.base (redo_entries logs s) q m n →
      MarkFits s.first s.base (redo_entries logs s ++ drop (length (redo_entries logs s))
      (redo_entries logs (state_after (AddLog e) s))) q m n

pub mark-longer : (logs : Archived) (s : KeptState) (n : ℕ) (k : Mark) (e : LogEntry) → Longer logs s e → IsMarkOf logs s n k →
    IsMarkOf logs (state_after (AddLog e) s) n k
mark-longer logs s n k e longer is =
    let old = redo_entries logs s in
    let new = redo_entries logs (state_after (AddLog e) s) in
    let few = within logs s n k is in
    let q = first-records old new k.q longer.redo few in
    let m = first-records old new k.m longer.redo is.fits.there in
    let at = λ (es : List Entry). admission (beginning s.first s.base) (no_history 0) es in
    record {
      fits = subst (λ es. MarkFits s.first s.base es k.q k.m n) (sym longer.redo) (longer.fits k.q k.m n is.fits);
      before = is.before ∙ sym (ap (λ es. commit_count (at es).history.commits) q);
      place = is.place ∙ sym (longer.place k.q few);
      q_scn = is.q_scn ∙ sym (ap (λ es. (at es).standing.scn) q);
      m_scn = is.m_scn ∙ sym (ap (λ es. (at es).standing.scn) m);
      commit_scn = is.commit_scn ∙ sym (ap (λ es. (at es).standing.commit_scn) q);
    }

-- as many records are cut off as are decoded, or more
pub cut-enough : (logs : Archived) (s : KeptState) (count : ℕ) →
    redo_ahead logs s.logs (first_place s.first 0) ≡ standby_redo logs s →
    count ≤ length (redo_entries logs s) → count ≤ length (ahead logs s.logs (first_place s.first 0)).raws
cut-enough logs s count same few =
    let a = ahead logs s.logs (first_place s.first 0) in
    let decoded : length (redo_ahead logs s.logs (first_place s.first 0)).entries ≤ length a.raws =
    decoded-fewer 0 a.raws a.stop in
    let here : length (redo_entries logs s) ≤ length a.raws =
    subst (λ (r : Redo). length r.entries ≤ length a.raws) same decoded in
    omega (arith, few, here)

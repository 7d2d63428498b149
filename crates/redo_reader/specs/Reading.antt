-- What a contract sees of the reading side, and what a cut does to it.
use Rattle.std.specs.Prelude.{ℕ, ◌≡◌, ◌+◌, ◌-◌, ◌^◌, ◌<◌, nat_le, if◌then◌else◌, List, [], ◌∷◌, Option, Some, None, Result, Ok, ⊤}
use Rattle.rl_value.specs.declared.verdict.Stop.{Stop}
use Rattle.redo_vec.specs.Cutting.{first_record}
use Rattle.redo_wire.specs.declared.raw.Raw.{Raw}
use Rattle.log_registry.specs.declared.entry.LogEntry.{LogEntry}
use Rattle.log_registry.specs.Registered.{entry_of}
use Rattle.redo_reader.specs.declared.place.Place.{Place}
use Rattle.redo_reader.specs.declared.cut.Cut.{Cut}
use Rattle.redo_reader.specs.declared.cut.Cut.TheVariants as cuts
use Rattle.redo_reader.specs.declared.cut.CutError.{CutError}
use Rattle.redo_reader.specs.Ahead.{Ahead, nothing_but, raws_before}

-- the archive, the registered logs, the place behind the last record that was given, the records that are cut and wait to
-- be given, and the end that was given
pub record Reader (A : Type 0) : Type 0 where
  pub archive : A
  pub registry : List LogEntry
  pub place : Place
  pub waiting : List Raw
  pub stop : Option Stop

-- no more records of a log before than it has
abbrev pub done_within : Option LogEntry → ℕ → ℕ
done_within None done = done
done_within (Some e) done = if nat_le done e.head.count then done else e.head.count

-- the place that is taken for this one
abbrev pub clamped_place : List LogEntry → Place → Place
clamped_place registry p = record {
  seq = p.seq;
  at = if nat_le (2 ^ 62) p.at then 2 ^ 62 - 1 else p.at;
  done = done_within (entry_of p.seq registry) p.done;
  rec = p.rec;
}

-- the place behind a record
abbrev pub place_after_raw : Raw → Place
place_after_raw raw = record { seq = raw.head.seq; at = raw.end; done = raw.done; rec = raw.rec }

-- a record that comes next behind this place; the cutter takes its bytes as one record
pub record IsNextRaw (p : Place) (raw : Raw) : Type 0 where
  pub rec : raw.rec ≡ p.rec + 1
  pub room : raw.rec < 2 ^ 63
  pub whole : first_record raw.bytes ≡ Ok (raw.bytes, [])

-- the first of the records that wait, and behind it the others
abbrev pub FirstWaiting : List Raw → List Raw → Type 0 → Result Cut CutError → Type 0
FirstWaiting [] after uncalled result = ⊤
FirstWaiting (raw ∷ raws) after uncalled result = (result ≡ Ok (cuts.Raw raw)) × (after ≡ raws) × uncalled

-- a cut leads from one place to the next
abbrev pub LeadsOn : Cut → Place → Place → Type 0
LeadsOn (cuts.Raw raw) old new = IsNextRaw old raw × (new ≡ place_after_raw raw)
LeadsOn (cuts.End stop) old new = new ≡ old

-- where records wait the next of them is given and the others wait on, without a call of the archive
abbrev pub GivesWaiting : {A : Type 0} → Reader A → Reader A → Result Cut CutError → Type 0
GivesWaiting old new result = FirstWaiting old.waiting new.waiting (new.archive ≡ old.archive) result

-- the end that is told with a cut
abbrev pub told_end : Cut → Option Stop
told_end (cuts.Raw raw) = None
told_end (cuts.End stop) = Some stop

-- what was ahead is what the cut gives, and then what is ahead now; an end stays
abbrev pub GivesNext : Cut → Ahead → Ahead → Type 0
GivesNext (cuts.Raw raw) old new = old ≡ raws_before (raw ∷ []) new
GivesNext (cuts.End stop) old new = old ≡ nothing_but stop

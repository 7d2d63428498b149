-- Places behind records that are ahead of another place, and what is left behind them.
use Rattle.std.specs.Prelude.{ℕ, List, [], ◌∷◌, take, drop, Option}
use Rattle.redo_spec.specs.Redo.{Redo}
use Rattle.redo_wire.specs.declared.raw.Raw.{Raw}
use Rattle.log_registry.specs.declared.entry.LogEntry.{LogEntry}
use Rattle.redo_reader.specs.declared.place.Place.{Place}
use Rattle.redo_reader.specs.Ahead.{Ahead, ahead}
use Rattle.redo_reader.specs.Reading.{place_after_raw}

-- the place behind these records, which follow one another from this place on
abbrev pub place_after_raws : Place → List Raw → Place
place_after_raws p [] = p
place_after_raws p (raw ∷ raws) = place_after_raws (place_after_raw raw) raws

-- the place behind the first so many of the records that are ahead of a place
abbrev pub place_ahead : (ℕ → Option (List ℕ)) → List LogEntry → Place → ℕ → Place
place_ahead logs registry p count = place_after_raws p (take count (ahead logs registry p).raws)

-- what is left of it behind its first so many records
abbrev pub ahead_left : ℕ → Ahead → Ahead
ahead_left count a = record { raws = drop count a.raws; stop = a.stop }

-- what is left of a redo behind its first so many records
abbrev pub redo_left : ℕ → Redo → Redo
redo_left count r = record { entries = drop count r.entries; stop = r.stop }

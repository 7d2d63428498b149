use Rattle.std.proofs.Common.{length, drop}
use Rattle.redo_reader.specs.Ahead.{first_place}
use Rattle.standby_spec.specs.StandbyRedo.{redo_entries}
use Rattle.standby_spec.specs.Writings.{state_after, AddLog}
use Rattle.standby_spec.proofs.MarkLaws.{mark-longer, cut-enough}
use Rattle.standby_spec.proofs.laws.a_mark_stays_right_in_a_longer_redo.Goals as goal

pub returns : goal.returns
returns c = record {
  mark = λ logs s n mark entry told rise new is.
      let same = c.the_reader_gives_the_redo.ensures.redo logs s.logs s.first 0 told in
      mark-longer logs s n mark entry (record {
        redo = c.what_was_ahead_stays.ensures.redo logs s.logs s.first 0 entry rise new;
        place = λ count few. c.what_was_ahead_stays.ensures.place logs s.logs (first_place s.first 0) count entry rise new
            (cut-enough logs s count same few);
        fits = λ q m k f. c.a_mark_fits_on.ensures.longer s.first s.base (redo_entries logs s)
            (drop (length (redo_entries logs s)) (redo_entries logs (state_after (AddLog entry) s))) q m k f;
      }) is;
}

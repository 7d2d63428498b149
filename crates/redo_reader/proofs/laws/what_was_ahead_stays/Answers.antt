use Rattle.redo_reader.proofs.laws.what_was_ahead_stays.Goals as goal
use Rattle.redo_reader.proofs.FurtherLaws.{place_stays, redo_further}

pub returns : goal.returns
returns c = record {
  place = place_stays;
  redo = redo_further;
}

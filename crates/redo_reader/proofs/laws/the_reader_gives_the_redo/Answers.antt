use Rattle.redo_reader.proofs.laws.the_reader_gives_the_redo.Goals as goal
use Rattle.redo_reader.proofs.RedoLaws.{redo_of_place}

pub returns : goal.returns
returns c = record {
  redo = redo_of_place (record {
    pieces = c.pieces_do_not_matter.ensures.pieces;
    end = c.pieces_do_not_matter.ensures.end;
    records = c.pieces_give_the_records.ensures.records;
  });
}

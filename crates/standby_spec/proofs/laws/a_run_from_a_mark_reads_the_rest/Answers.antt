use Rattle.std.proofs.Common.{◌∙◌, ap}
use Rattle.redo_reader.specs.Ahead.{redo_ahead}
use Rattle.standby_spec.proofs.MarkLaws.{within}
use Rattle.standby_spec.proofs.laws.a_run_from_a_mark_reads_the_rest.Goals as goal

pub returns : goal.returns
returns c = record {
  rest = λ logs s n mark told rise is.
      ap (redo_ahead logs s.logs) is.place
      ∙ c.the_reader_gives_the_rest.ensures.redo logs s.logs s.first 0 mark.q told rise (within logs s n mark is);
}

use Rattle.redo_text.proofs.LineLaws.{VectorsRead, NumbersRead}
use Rattle.redo_text.proofs.TextLaws.{text_says_log}
use Rattle.redo_text.proofs.laws.a_shown_log_is_said.Goals as goal

pub returns : goal.returns
returns c =
    let numbers : NumbersRead = record {
      read = c.a_printed_number_is_read.ensures.read;
      words = c.a_printed_number_is_read.ensures.words;
      one_line = c.a_printed_number_is_read.ensures.one_line;
    } in
    let read : VectorsRead = record {
      read = c.a_printed_vector_is_read.ensures.read;
      words = c.a_printed_vector_is_read.ensures.words;
      one_line = c.a_printed_vector_is_read.ensures.one_line;
    } in
    record { said = text_says_log numbers read }

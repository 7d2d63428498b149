use Rattle.redo_lines.proofs.VectorLaws.{line_read, words_split, line_alone}
use Rattle.redo_lines.proofs.laws.a_printed_vector_is_read.Goals as goal

pub returns : goal.returns
returns c = record { read = line_read; words = words_split; one_line = line_alone }

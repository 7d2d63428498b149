use Rattle.redo_lines.proofs.SaidFields.{number_sound}
use Rattle.redo_lines.proofs.SaidVectors.{line_sound, known_ids}
use Rattle.redo_lines.proofs.laws.a_line_says_what_fits.Goals as goal

pub returns : goal.returns
returns c = record { vector_fits = line_sound; tables_fit = known_ids; number_fits = number_sound }

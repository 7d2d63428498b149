use Rattle.redo_text.proofs.LineLaws.{Fitting}
use Rattle.redo_text.proofs.SaidText.{log_sound}
use Rattle.redo_text.proofs.laws.a_text_says_a_log.Goals as goal

pub returns : goal.returns
returns c =
    let law : Fitting = record {
      vector_fits = c.a_line_says_what_fits.ensures.vector_fits;
      tables_fit = c.a_line_says_what_fits.ensures.tables_fit;
      number_fits = c.a_line_says_what_fits.ensures.number_fits;
    } in
    record { fits = log_sound law }

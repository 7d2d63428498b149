use Rattle.line_fields.proofs.Numbers.{number_printed}
use Rattle.line_fields.proofs.NumberLaws.{number_words, number_alone}
use Rattle.line_fields.proofs.laws.a_printed_number_is_read.Goals as goal

pub returns : goal.returns
returns c = record { read = number_printed; words = number_words; one_line = number_alone }

use Rattle.redo_text.proofs.StreamTexts.{as_one, as_two, ended_silent}
use Rattle.redo_text.proofs.laws.pieces_are_shown_as_one.Goals as goal

pub returns-clause-two : goal.returns-clause-two
returns-clause-two c = as_two c.pieces_do_not_matter.ensures.given c.pieces_do_not_matter.ensures.left

pub returns-clause-silent : goal.returns-clause-silent
returns-clause-silent c = ended_silent

pub returns-clause-same : goal.returns-clause-same
returns-clause-same c = as_one c.pieces_do_not_matter.ensures.pieces c.pieces_do_not_matter.ensures.end

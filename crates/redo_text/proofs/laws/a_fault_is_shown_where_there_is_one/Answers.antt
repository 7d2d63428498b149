use Rattle.redo_text.proofs.StreamEnds.{ended_as_two, ended_exact, ended_kept}
use Rattle.redo_text.proofs.laws.a_fault_is_shown_where_there_is_one.Goals as goal

pub returns-clause-exact : goal.returns-clause-exact
returns-clause-exact c = ended_exact c.pieces_give_the_records.ensures.records

pub returns-clause-two : goal.returns-clause-two
returns-clause-two c = ended_as_two c.pieces_do_not_matter.ensures.given c.pieces_do_not_matter.ensures.left

pub returns-clause-kept : goal.returns-clause-kept
returns-clause-kept c = ended_kept

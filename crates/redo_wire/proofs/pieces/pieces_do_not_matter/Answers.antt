use Rattle.redo_wire.proofs.StreamLaws.{given_more, fed_more, pieces_give}
use Rattle.redo_wire.proofs.RecordLaws.{pieces_end}
use Rattle.redo_wire.proofs.pieces.pieces_do_not_matter.Goals as goal

pub returns-clause-given : goal.returns-clause-given
returns-clause-given c = given_more

pub returns-clause-left : goal.returns-clause-left
returns-clause-left c = fed_more

pub returns-clause-pieces : goal.returns-clause-pieces
returns-clause-pieces c = pieces_give

pub returns-clause-end : goal.returns-clause-end
returns-clause-end c = pieces_end

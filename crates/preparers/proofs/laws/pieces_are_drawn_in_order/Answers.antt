use Rattle.preparers.proofs.Runs as runs
use Rattle.preparers.proofs.laws.pieces_are_drawn_in_order.Goals as goal

pub returns-clause-numbers : goal.returns-clause-numbers
returns-clause-numbers c = runs.numbers

pub returns-clause-decoded : goal.returns-clause-decoded
returns-clause-decoded c = runs.decoded

pub returns-clause-all : goal.returns-clause-all
returns-clause-all c = runs.all

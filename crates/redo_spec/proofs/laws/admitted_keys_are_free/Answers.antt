use Rattle.redo_spec.proofs.LockLaws.{not_held}
use Rattle.redo_spec.proofs.laws.admitted_keys_are_free.Goals as goal

pub returns : goal.returns
returns c = record { free = not_held }

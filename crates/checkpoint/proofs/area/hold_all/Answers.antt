use Rattle.std.proofs.Common.{arith}
use Rattle.redo_spec.proofs.FieldLaws.{are_bytes}
use Rattle.checkpoint.proofs.area.hold_all.Goals as goal

pub returns : goal.returns
returns c = are_bytes c.args._bytes.now (λ i. omega (arith, c.type_inv._bytes i))

use Rattle.checkpoint.proofs.area.hold_bytes.Goals as goal

pub returns : goal.returns
returns c = rw c.bytes.ensures.same at c.hold_all.ensures

use Rattle.row_apply.proofs.Keeping.{slots_inserted}
use Rattle.row_apply.proofs.written.Written.swap.Goals as goal

pub returns-in-Ok-clause-slots : goal.returns-in-Ok-clause-slots
returns-in-Ok-clause-slots c =
    slots_inserted c.args.self.now.rows.entries c.insert.new.self.entries c.args.key c.args.slot c.requires.slots
    c.requires.primary c.in-Ok.ensures.entries c.insert.ensures.ordered

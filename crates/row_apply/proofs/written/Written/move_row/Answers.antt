use Rattle.std.proofs.Common.{sym, subst, None}
use Rattle.row_apply.specs.Kept.{AreSlots}
use Rattle.row_apply.proofs.Keeping.{still_there, restored_row}
use Rattle.row_apply.proofs.written.Written.move_row.Goals as goal

pub put_back-requires : goal.put_back-requires
put_back-requires c = record {
  there = still_there c.args.self.now.rows.entries c.swap.new.self.rows.entries c.set.new.self.rows.entries c.in_ok-left.left
      c.args.gone None c.in_ok-was.ensures.set c.in-Err.ensures.unchanged c.in_ok-left.ensures.equal;
}

pub returns-in-Err-clause-unchanged : goal.returns-in-Err-clause-unchanged
returns-in-Err-clause-unchanged c =
    restored_row c.args.self.now.rows.entries c.swap.new.self.rows.entries c.set.new.self.rows.entries
    c.put_back.new.self.rows.entries c.in_ok-left.left c.args.gone c.in_ok-was.was' None c.requires.slots
    c.put_back.ensures.ordered c.in_ok-was.ensures.was c.in_ok-was.ensures.set c.in-Err.ensures.unchanged
    c.in_ok-left.ensures.equal c.put_back.ensures.back

pub returns-in-Err-clause-slots : goal.returns-in-Err-clause-slots
returns-in-Err-clause-slots c =
    subst AreSlots (sym (restored_row c.args.self.now.rows.entries c.swap.new.self.rows.entries c.set.new.self.rows.entries
    c.put_back.new.self.rows.entries c.in_ok-left.left c.args.gone c.in_ok-was.was' None c.requires.slots
    c.put_back.ensures.ordered c.in_ok-was.ensures.was c.in_ok-was.ensures.set c.in-Err.ensures.unchanged
    c.in_ok-left.ensures.equal c.put_back.ensures.back))
    c.requires.slots

use Rattle.standby.proofs.Lines.{printed-all}
use Rattle.standby.proofs.printing.text_of.Goals as goal

pub returns : goal.returns
returns c =
    printed-all c.args.folded.now c.new-out.result.items c.push_applied.new.out.items c.push_tables.new.out.items
    c.push_end.new.out.items c.shown_tables.result.now
    c.new-out.ensures.items c.in_ok-push_applied.ensures c.shown_tables.ensures c.in_ok-push_tables.ensures
    c.in_ok-push_end.ensures

use Rattle.redolog.proofs.Heads.{told_log, told_log_fault, told_none, told_none_fault}
use Rattle.redolog.proofs.showing.show_all.Goals as goal

pub returns-in-Some-clause-shown : goal.returns-in-Some-clause-shown
returns-in-Some-clause-shown g c =
    told_log (g.I.Source.left c.args.input.now) (g.I.Source.left c.show_head.new.input) c.in-Some.head
    (g.O.Sink.written c.args.out.now) (g.O.Sink.written c.show_head.new.out) (g.O.Sink.written c.show_blocks.new.out)
    c.show_blocks.result c.in_ok-head.ensures.shown (rw c.in-Some.is at c.in_ok-head.ensures.head) c.in_ok-head.ensures.left
    (rw c.new.ensures.begun at c.show_blocks.ensures.shown)

pub returns-in-Some-clause-faulty : goal.returns-in-Some-clause-faulty
returns-in-Some-clause-faulty g c =
    told_log_fault c.a_fault_is_shown_where_there_is_one.ensures.exact (g.I.Source.left c.args.input.now)
    (g.I.Source.left c.show_head.new.input) c.in-Some.head c.show_blocks.result
    (rw c.in-Some.is at c.in_ok-head.ensures.head) c.in_ok-head.ensures.left
    (rw c.new.ensures.begun at c.show_blocks.ensures.faulty)

pub returns-in-None-clause-shown : goal.returns-in-None-clause-shown
returns-in-None-clause-shown g c =
    told_none (g.I.Source.left c.args.input.now) (g.O.Sink.written c.args.out.now) (g.O.Sink.written c.show_head.new.out)
    c.in_ok-head.ensures.shown (rw c.in-None.is at c.in_ok-head.ensures.head)

pub returns-in-None-clause-faulty : goal.returns-in-None-clause-faulty
returns-in-None-clause-faulty g c =
    told_none_fault (g.I.Source.left c.args.input.now) (rw c.in-None.is at c.in_ok-head.ensures.head)

use Rattle.redolog.specs.Showing.{log_text, has_fault}
use Rattle.redolog.proofs.Ends.{told_fault, told_whole}
use Rattle.redolog.proofs.showing.show.Goals as goal

pub returns-then-faulty-clause-shown : goal.returns-then-faulty-clause-shown
returns-then-faulty-clause-shown g c =
    told_fault (g.I.Source.left c.args.input.now) log_text has_fault (g.O.Sink.written c.args.out.now)
    (g.O.Sink.written c.show_all.new.out) c.in_ok-faulty.faulty c.in_ok-faulty.ensures.shown c.in_ok-faulty.ensures.faulty
    c.if-faulty.true

pub returns-clause-shown : goal.returns-clause-shown
returns-clause-shown g c =
    told_whole (g.I.Source.left c.args.input.now) log_text has_fault (g.O.Sink.written c.args.out.now)
    (g.O.Sink.written c.show_all.new.out) c.in_ok-faulty.faulty _ c.in_ok-faulty.ensures.shown c.in_ok-faulty.ensures.faulty
    c.if-faulty.false

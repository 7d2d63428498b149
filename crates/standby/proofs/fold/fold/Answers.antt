use Rattle.standby.proofs.Prints.{prints, prints_prefix}
use Rattle.standby.proofs.fold.fold.Goals as goal

pub returns-clause-ends : goal.returns-clause-ends
returns-clause-ends g c = λ ended. prints (g.A.Archive.logs c.args.archive) c.args.seq c.folded_log-folded.result.folded
    c.printed-printout.result c.answer.result (g.O.Sink.written c.args.out.now) (g.O.Sink.written c.answer.new.out)
    c.folded_log-folded.ensures.folded c.printed-printout.ensures.printout (c.answer.ensures.ends ended)

pub returns-clause-sink_fault : goal.returns-clause-sink_fault
returns-clause-sink_fault g c = λ failed. prints_prefix (g.A.Archive.logs c.args.archive) c.args.seq
    c.folded_log-folded.result.folded c.printed-printout.result (g.O.Sink.written c.args.out.now)
    (g.O.Sink.written c.answer.new.out)
    c.folded_log-folded.ensures.folded c.printed-printout.ensures.printout (c.answer.ensures.sink_fault failed)

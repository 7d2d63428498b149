use Rattle.redolog.proofs.Texts.{written}
use Rattle.redolog.proofs.writing.write.Goals as goal

pub returns-in-Ok-clause-written : goal.returns-in-Ok-clause-written
returns-in-Ok-clause-written g c =
    written (g.I.Source.left c.args.input.now) c.in_ok-text.text.items c.in_ok-log.log.items (g.O.Sink.written c.args.out.now)
    (g.O.Sink.written c.say.new.out) _ c.in_ok-text.ensures.text (rw c.as_slice.ensures.value at c.in_ok-log.ensures.log)
    (rw c.as_slice-2.ensures.value at c.in-Ok.ensures.whole)

use Rattle.redolog.proofs.Heads.{told_front, told_head}
use Rattle.redolog.proofs.showing.show_head.Goals as goal

pub returns-clause-shown : goal.returns-clause-shown
returns-clause-shown g c =
    told_front (g.I.Source.left c.args.input.now) c.in_ok-bytes.bytes.items c.in_ok-text.text.items
    (g.O.Sink.written c.args.out.now) (g.O.Sink.written c.say.new.out) c.in_ok-bytes.ensures.bytes
    (rw c.as_slice.ensures.value at c.in_ok-text.ensures.text) (rw c.as_slice-2.ensures.value at c.in_ok-say.ensures.whole)

pub returns-clause-head : goal.returns-clause-head
returns-clause-head g c =
    told_head (g.I.Source.left c.args.input.now) c.in_ok-bytes.bytes.items c.in_ok-text.head c.in_ok-bytes.ensures.bytes
    (rw c.as_slice.ensures.value at c.in_ok-text.ensures.head)

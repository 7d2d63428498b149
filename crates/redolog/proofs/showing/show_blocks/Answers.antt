use Rattle.std.proofs.Common.{rules, sym, ◌∙◌}
use Rattle.redolog.proofs.Going.{told_on, told_end, told_end_fault, told_ended, told_ended_fault}
use Rattle.redolog.proofs.showing.show_blocks.Goals as goal

pub returns-then-has_none-clause-shown : goal.returns-then-has_none-clause-shown
returns-then-has_none-clause-shown g c =
    told_end 65535 (g.I.Source.left c.args.input.now) (g.I.Source.left c.loop.input) (g.O.Sink.written c.args.out.now)
    (g.O.Sink.written c.loop.out) (g.O.Sink.written c.finish.new.out) c.args.begun c.loop.log c.in_ok-block.block.items
    c.finish.result c.loop.invariant.going c.in_ok-block.ensures.bytes
    (rw c.as_slice-bytes.ensures.value at (c.has_none.ensures.none c.if-has_none.true)) c.finish.ensures.shown

pub returns-then-has_none-clause-faulty : goal.returns-then-has_none-clause-faulty
returns-then-has_none-clause-faulty g c =
    told_end_fault 65535 (g.I.Source.left c.args.input.now) (g.I.Source.left c.loop.input) (g.O.Sink.written c.args.out.now)
    (g.O.Sink.written c.loop.out) c.args.begun c.loop.log c.in_ok-block.block.items c.finish.result c.loop.invariant.going
    c.in_ok-block.ensures.bytes (rw c.as_slice-bytes.ensures.value at (c.has_none.ensures.none c.if-has_none.true))
    c.finish.ensures.faulty

pub returns-then-has_ended-clause-shown : goal.returns-then-has_ended-clause-shown
returns-then-has_ended-clause-shown g c =
    told_ended c.pieces_are_shown_as_one.ensures.silent (g.I.Source.left c.args.input.now)
    (g.I.Source.left c.front.new.input) (g.O.Sink.written c.args.out.now) (g.O.Sink.written c.say.new.out) c.args.begun
    c.in_ok-next.next
    (told_on c.pieces_are_shown_as_one.ensures.two c.a_fault_is_shown_where_there_is_one.ensures.two 65535
    (g.I.Source.left c.args.input.now) (g.I.Source.left c.loop.input) (g.I.Source.left c.front.new.input)
    (g.O.Sink.written c.args.out.now) (g.O.Sink.written c.loop.out) (g.O.Sink.written c.say.new.out) c.args.begun c.loop.log
    c.in_ok-next.next c.in_ok-block.block.items c.in_ok-next.text.items c.loop.invariant.going c.in_ok-block.ensures.bytes
    c.in_ok-block.ensures.left (rw c.as_slice-bytes.ensures.value at (c.has_none.ensures.some c.if-has_none.false))
    (rw c.as_slice-bytes.ensures.value at c.in_ok-next.ensures.next)
    (rw c.as_slice-bytes.ensures.value at c.in_ok-next.ensures.text)
    (rw c.as_slice.ensures.value at c.in_ok-say.ensures.whole))
    (sym c.has_ended.ensures.exact ∙ c.if-has_ended.true)

pub returns-then-has_ended-clause-faulty : goal.returns-then-has_ended-clause-faulty
returns-then-has_ended-clause-faulty g c =
    told_ended_fault c.a_fault_is_shown_where_there_is_one.ensures.kept (g.I.Source.left c.args.input.now)
    (g.I.Source.left c.front.new.input) (g.O.Sink.written c.args.out.now) (g.O.Sink.written c.say.new.out) c.args.begun
    c.in_ok-next.next
    (told_on c.pieces_are_shown_as_one.ensures.two c.a_fault_is_shown_where_there_is_one.ensures.two 65535
    (g.I.Source.left c.args.input.now) (g.I.Source.left c.loop.input) (g.I.Source.left c.front.new.input)
    (g.O.Sink.written c.args.out.now) (g.O.Sink.written c.loop.out) (g.O.Sink.written c.say.new.out) c.args.begun c.loop.log
    c.in_ok-next.next c.in_ok-block.block.items c.in_ok-next.text.items c.loop.invariant.going c.in_ok-block.ensures.bytes
    c.in_ok-block.ensures.left (rw c.as_slice-bytes.ensures.value at (c.has_none.ensures.some c.if-has_none.false))
    (rw c.as_slice-bytes.ensures.value at c.in_ok-next.ensures.next)
    (rw c.as_slice-bytes.ensures.value at c.in_ok-next.ensures.text)
    (rw c.as_slice.ensures.value at c.in_ok-say.ensures.whole))
    (sym c.has_ended.ensures.exact ∙ c.if-has_ended.true)

pub loop-preserved : goal.loop-preserved
loop-preserved g c = record {
  going = told_on c.pieces_are_shown_as_one.ensures.two c.a_fault_is_shown_where_there_is_one.ensures.two 65535
      (g.I.Source.left c.args.input.now) (g.I.Source.left c.loop.input) (g.I.Source.left c.front.new.input)
      (g.O.Sink.written c.args.out.now) (g.O.Sink.written c.loop.out) (g.O.Sink.written c.say.new.out) c.args.begun c.loop.log
      c.in_ok-next.next c.in_ok-block.block.items c.in_ok-next.text.items c.loop.invariant.going c.in_ok-block.ensures.bytes
      c.in_ok-block.ensures.left (rw c.as_slice-bytes.ensures.value at (c.has_none.ensures.some c.if-has_none.false))
      (rw c.as_slice-bytes.ensures.value at c.in_ok-next.ensures.next)
      (rw c.as_slice-bytes.ensures.value at c.in_ok-next.ensures.text)
      (rw c.as_slice.ensures.value at c.in_ok-say.ensures.whole);
  input_none = search rules;
  input_later = search rules;
  output_none = search rules;
  output_later = search rules;
}

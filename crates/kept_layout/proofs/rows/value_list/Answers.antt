use Rattle.std.proofs.Common.{◌+◌, ◌-◌, ◌≤◌, ◌∷◌, [], length, ap, arith, length-append}
use Rattle.std.specs.Option.{option_and_then}
use Rattle.redo_vec.proofs.ChangeLaws.{value_sound}
use Rattle.standby_spec.specs.Loading.{values_in}
use Rattle.kept_layout.specs.Pairs.{as_row}
use Rattle.kept_layout.proofs.RowLaws.{begun, goes_further, stops, all_read, more_left, shorter, front_read, no_length, some_length}
use Rattle.kept_layout.proofs.rows.value_list.Goals as goal

pub loop-init : goal.loop-init
loop-init c = record {
  count = ap length c.new-values.ensures.items;
  room = omega arith;
  read = rw c.new-values.ensures.items (begun c.args.bytes.now);
  bytes = λ i. omega (arith, c.type_inv.bytes i);
}

pub returns-then-is_empty : goal.returns-then-is_empty
returns-then-is_empty c =
    ap (option_and_then as_row) (all_read c.loop.values.items (length c.args.bytes.now - c.loop.counter) c.loop.rest.now
    (values_in c.args.bytes.now) (no_length c.loop.rest.now c.is_empty.result c.is_empty.ensures c.if-is_empty.true)
    c.loop.invariant.read)

pub returns-in_default : goal.returns-in_default
returns-in_default c =
    ap (option_and_then as_row) (stops c.loop.values.items (length c.args.bytes.now - c.loop.counter) c.loop.rest.now
    (values_in c.args.bytes.now) (some_length c.loop.rest.now c.is_empty.result c.is_empty.ensures c.if-is_empty.false)
    (rw c.in_default.is at c.in_ok-found.ensures) c.loop.invariant.read)

pub loop-preserved : goal.loop-preserved
loop-preserved c =
    let count = c.loop.invariant.count in
    let room = c.loop.invariant.room in
    let some = some_length c.loop.rest.now c.is_empty.result c.is_empty.ensures c.if-is_empty.false in
    let read = front_read c.loop.rest.now c.in-Some.behind.now c.in-Some.value (rw c.in-Some.is at c.in_ok-found.ensures) in
    let less : length c.in-Some.behind.now + 1 ≤ length c.loop.rest.now =
    shorter c.loop.rest.now c.in-Some.behind.now c.in-Some.value c.loop.invariant.bytes read in
    let more = length-append c.loop.values.items (c.in-Some.value ∷ []) in
    record {
      count = rw c.in_ok-push_value.ensures (omega (arith, count, more));
      room = omega (arith, room, less);
      read = rw c.in_ok-push_value.ensures (goes_further c.loop.values.items (length c.args.bytes.now) c.loop.counter
          c.loop.rest.now c.in-Some.behind.now c.in-Some.value (values_in c.args.bytes.now) (omega (arith, room, some)) some read
          c.loop.invariant.read);
      bytes = (value_sound 0 c.loop.rest.now (c.in-Some.value, c.in-Some.behind.now) c.loop.invariant.bytes read).0.rest_fits;
    }

pub returns-then-is_empty-2 : goal.returns-then-is_empty-2
returns-then-is_empty-2 c =
    ap (option_and_then as_row) (all_read c.loop.values.items (length c.args.bytes.now - c.loop.counter) c.loop.rest.now
    (values_in c.args.bytes.now) (no_length c.loop.rest.now c.is_empty-2.result c.is_empty-2.ensures c.if-is_empty-2.true)
    c.loop.invariant.read)

pub returns : goal.returns
returns c =
    let count = c.loop.invariant.count in
    let end = c.loop.auto.counter-end in
    more_left c.loop.values.items (length c.args.bytes.now - c.loop.counter) c.loop.rest.now (values_in c.args.bytes.now)
    (omega (arith, count, end, c.loop-test.false))
    (some_length c.loop.rest.now c.is_empty-2.result c.is_empty-2.ensures c.if-is_empty-2.false) c.loop.invariant.read

use Rattle.std.proofs.Common.{◌≡◌, subst, Option, arith}
use Rattle.std.specs.Prelude.{IfOk}
use Rattle.row_apply.specs.declared.writes.Write.{Write}
use Rattle.checkpoint.proofs.WriteLaws.{write_full, no_place, no_row, a_row}
use Rattle.checkpoint.proofs.rows.write_of.Goals as goal

pub returns-then-count-ge-MAX_LIVE_ROWS : goal.returns-then-count-ge-MAX_LIVE_ROWS
returns-then-count-ge-MAX_LIVE_ROWS c =
    write_full c.args.tables.now.tables c.args.key.now c.args.value.now
    (omega (arith, c.count.ensures.exact, c.if-count-ge-MAX_LIVE_ROWS.true))

pub returns-in_default : goal.returns-in_default
returns-in_default c =
    no_place c.args.tables.now.tables c.args.key.now c.args.value.now
    (omega (arith, c.count.ensures.exact, c.if-count-ge-MAX_LIVE_ROWS.false))
    (rw (c.bytes.ensures.same, c.in_default.is) at c.in_ok-place.ensures.exact)

pub returns-in-None : goal.returns-in-None
returns-in-None c =
    no_row c.args.tables.now.tables c.args.key.now c.args.value.now (c.in-Some.id, c.in-Some.primary)
    (omega (arith, c.count.ensures.exact, c.if-count-ge-MAX_LIVE_ROWS.false))
    (rw (c.bytes.ensures.same, c.in-Some.is) at c.in_ok-place.ensures.exact)
    (rw (c.bytes-2.ensures.same, c.in-None.is) at c.in_ok-row.ensures.exact)

pub returns-in-Some-row : goal.returns-in-Some-row
returns-in-Some-row c =
    subst (λ (o : Option Write). IfOk c.write_to.result (λ found. found ≡ o))
    (a_row c.args.tables.now.tables c.args.key.now c.args.value.now (c.in-Some.id, c.in-Some.primary) c.in-Some-row.row
    (omega (arith, c.count.ensures.exact, c.if-count-ge-MAX_LIVE_ROWS.false))
    (rw (c.bytes.ensures.same, c.in-Some.is) at c.in_ok-place.ensures.exact)
    (rw (c.bytes-2.ensures.same, c.in-Some-row.is) at c.in_ok-row.ensures.exact)) c.write_to.ensures

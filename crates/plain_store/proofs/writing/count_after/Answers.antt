use Rattle.std.proofs.Common.{◌≡◌, ◌+◌, arith}
use Rattle.plain_store.specs.ById.{added_count, removed_count}
use Rattle.plain_store.proofs.WriteLaws.{counted_after}
use Rattle.plain_store.proofs.writing.count_after.Goals as goal

pub overflow_sub-result : goal.overflow_sub-result
overflow_sub-result c =
    let exact = counted_after c.args.dict.now.tables c.args.tables.now c.args.writes.now c.tables.ensures.rise c.requires.sound
    c.requires.of_tables c.requires.rising in
    let before = c.requires.counted in
    let more : c.in_ok-more.more ≡ c.args.count + added_count c.args.tables.now c.args.writes.now = c.in_ok-more.ensures.sum in
    let fewer : c.in_ok-fewer.fewer ≡ removed_count c.args.tables.now c.args.writes.now = c.in_ok-fewer.ensures.exact in
    omega (arith, exact, before, more, fewer)

pub returns : goal.returns
returns c =
    let exact = counted_after c.args.dict.now.tables c.args.tables.now c.args.writes.now c.tables.ensures.rise c.requires.sound
    c.requires.of_tables c.requires.rising in
    let before = c.requires.counted in
    let more : c.in_ok-more.more ≡ c.args.count + added_count c.args.tables.now c.args.writes.now = c.in_ok-more.ensures.sum in
    let fewer : c.in_ok-fewer.fewer ≡ removed_count c.args.tables.now c.args.writes.now = c.in_ok-fewer.ensures.exact in
    record { exact = omega (arith, exact, before, more, fewer) }

use Rattle.std.proofs.Common.{◌<◌, ◌≤◌, ◌+◌, ◌-◌, ◌/◌, length, sym, ◌∙◌, arith}
use Rattle.table_store.proofs.Rising.{all_below, none_behind}
use Rattle.table_store.proofs.table_list.place_of.Goals as goal

pub loop-low-preserved-then-is_below : goal.loop-low-preserved-then-is_below
loop-low-preserved-then-is_below c =
    let middle = c.loop-low.low + (c.loop-low.high - c.loop-low.low) / 2 in
    let within : middle + 1 ≤ c.loop-low.high = omega (arith, c.loop-low-test.true) in
    let inside : middle < length c.args.tables.now = omega (arith, within, c.loop-low.invariant.inside) in
    record {
      order = within;
      inside = c.loop-low.invariant.inside;
      before = all_below c.args.id c.args.tables.now middle c.index-tables-middle.result c.requires.rising inside
          c.index-tables-middle.is (sym c.is_below.ensures.exact ∙ c.if-is_below.true);
      behind = c.loop-low.invariant.behind;
    }

pub loop-low-preserved : goal.loop-low-preserved
loop-low-preserved c =
    let middle = c.loop-low.low + (c.loop-low.high - c.loop-low.low) / 2 in
    let within : middle + 1 ≤ c.loop-low.high = omega (arith, c.loop-low-test.true) in
    let inside : middle < length c.args.tables.now = omega (arith, within, c.loop-low.invariant.inside) in
    record {
      order = omega arith;
      inside = omega (arith, inside);
      before = c.loop-low.invariant.before;
      behind = none_behind c.args.id c.args.tables.now middle c.index-tables-middle.result c.requires.rising inside
          c.index-tables-middle.is (sym c.is_below.ensures.exact ∙ c.if-is_below.false);
    }

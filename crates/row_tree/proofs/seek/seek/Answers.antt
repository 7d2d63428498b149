use Rattle.std.proofs.Common.{sym, ◌∙◌, arith}
use Rattle.row_tree.proofs.Placing.{low_at, high_at}
use Rattle.row_tree.proofs.seek.seek.Goals as goal

pub loop-high-preserved-then-reaches : goal.loop-high-preserved-then-reaches
loop-high-preserved-then-reaches g c = record {
  order = omega (arith, c.loop-high-test.true, c.loop-high.invariant.order);
  inside = c.loop-high.invariant.inside;
  before = low_at g.K.Part.entries _ _ _ _ c.index-children-middle.result
      (omega (arith, c.loop-high-test.true, c.loop-high.invariant.order, c.loop-high.invariant.inside)) c.index-children-middle.is
      c.requires.sound.rising c.reaches.ensures.some (sym c.reaches.ensures.exact ∙ c.if-reaches.true);
  behind = c.loop-high.invariant.behind;
}

pub loop-high-preserved : goal.loop-high-preserved
loop-high-preserved g c = record {
  order = omega (arith, c.loop-high-test.true, c.loop-high.invariant.order);
  inside = omega (arith, c.loop-high-test.true, c.loop-high.invariant.order, c.loop-high.invariant.inside);
  before = c.loop-high.invariant.before;
  behind = high_at g.K.Part.entries _ _ _ _ c.index-children-middle.result
      (omega (arith, c.loop-high-test.true, c.loop-high.invariant.order, c.loop-high.invariant.inside)) c.index-children-middle.is
      c.requires.sound.rising c.reaches.ensures.some (sym c.reaches.ensures.exact ∙ c.if-reaches.false);
}

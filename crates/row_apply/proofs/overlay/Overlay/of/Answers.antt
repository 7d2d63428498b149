use Rattle.std.proofs.Common.{subst, sym, ap, ◌∙◌}
use Rattle.row_apply.specs.Kept.{AreSlots}
use Rattle.row_apply.specs.Overlaid.{writes_rise}
use Rattle.row_apply.specs.Written.{writes_in}
use Rattle.row_apply.proofs.Telling.{put_slots, put_same}
use Rattle.row_apply.proofs.overlay.Overlay.of.Goals as goal

pub of-requires : goal.of-requires
of-requires c = record {
  slots = subst AreSlots (sym c.in_ok-rows.ensures)
      (put_slots c.items.result.now (ap writes_rise c.items.ensures.same ∙ c.items.ensures.rising));
}

pub returns : goal.returns
returns c = record {
  same = ap writes_in (c.of.ensures.same ∙ c.in_ok-rows.ensures)
      ∙ put_same c.items.result.now (ap writes_rise c.items.ensures.same ∙ c.items.ensures.rising) ∙ c.items.ensures.same;
}

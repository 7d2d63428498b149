use Rattle.std.proofs.Common.{ap, ◌∙◌}
use Rattle.row_apply.specs.Overlaid.{writes_rise}
use Rattle.row_apply.proofs.Writing.{writes_rising}
use Rattle.row_apply.proofs.overlay.Overlay.into_writes.Goals as goal

pub of-requires : goal.of-requires
of-requires c = record {
  rising = ap writes_rise c.in_ok-items.ensures ∙
      writes_rising c.self.inside.written.rows.entries c.self.invariant.slots;
}

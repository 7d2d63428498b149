use Rattle.std.proofs.Common.{ap, ◌∙◌}
use Rattle.row_apply.specs.Overlaid.{writes_rise}
use Rattle.eager_work.proofs.Gathered.{writes_rising}
use Rattle.eager_work.proofs.gathering.writes_of.Goals as goal

pub of-requires : goal.of-requires
of-requires c = record {
  rising = ap writes_rise c.in_ok-items.ensures ∙ writes_rising c.args.rows.entries c.requires.primary c.len-few.ensures.ordered;
}

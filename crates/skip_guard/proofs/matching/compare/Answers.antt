use Rattle.std.proofs.Common.{subst, sym}
use Rattle.skip_guard.specs.Comparing.{IsRight}
use Rattle.skip_guard.proofs.Ends.{is_right}
use Rattle.skip_guard.proofs.matching.compare.Goals as goal

pub returns : goal.returns
returns c =
    subst (IsRight c.args.pattern.now c.args.text.now) (sym c.up_to_any.ensures) (is_right c.args.pattern.now c.args.text.now)

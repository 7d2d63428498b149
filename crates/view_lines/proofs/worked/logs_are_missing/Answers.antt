use Rattle.std.proofs.Common.{refl}
use Rattle.std.specs.Fmt.{digits}
use Rattle.view_lines.proofs.worked.logs_are_missing.Goals as goal

pub returns : goal.returns
unfolding digits
returns c = record {
  progress = refl;
  log = refl;
  state = refl;
  skip = refl;
}

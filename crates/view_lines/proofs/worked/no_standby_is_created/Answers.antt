use Rattle.std.proofs.Common.{refl}
use Rattle.std.specs.Fmt.{digits}
use Rattle.view_lines.proofs.worked.no_standby_is_created.Goals as goal

pub returns : goal.returns
unfolding digits
returns c = record {
  progress = refl;
  log = refl;
  skip = refl;
}

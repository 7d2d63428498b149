use Rattle.std.proofs.Common.{refl}
use Rattle.std.specs.Fmt.{digits}
use Rattle.view_lines.proofs.worked.a_dictionary_is_applied.Goals as goal

pub returns : goal.returns
unfolding digits
returns c = record {
  progress = refl;
  log = refl;
  state = refl;
  events = refl;
  skip = refl;
}

use Rattle.std.proofs.Common.{refl}
use Rattle.workload.proofs.worked.logs_have_1000_pairs.Goals as goal

pub returns : goal.returns
returns c = record {
  none = refl;
  one = refl;
  full = refl;
  more = refl;
  most = refl;
  ends = refl;
  last = refl;
  short = refl;
  long = refl;
}

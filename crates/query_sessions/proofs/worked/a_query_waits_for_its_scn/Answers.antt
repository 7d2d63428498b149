use Rattle.std.proofs.Common.{refl}
use Rattle.std.specs.Fmt.{digits}
use Rattle.query_sessions.proofs.worked.a_query_waits_for_its_scn.Goals as goal

pub returns : goal.returns
unfolding digits
returns c = record {
  before = refl;
  at_it = refl;
  lines = refl;
}

use Rattle.std.proofs.Common.{refl}
use Rattle.std.specs.Fmt.{digits}
use Rattle.query_sessions.proofs.worked.what_is_not_there_has_no_row.Goals as goal

pub returns : goal.returns
unfolding digits
returns c = record {
  table = refl;
  count = refl;
  no_key = refl;
}

use Rattle.std.proofs.Common.{refl}
use Rattle.std.specs.Fmt.{digits}
use Rattle.query_sessions.proofs.worked.a_table_is_asked.Goals as goal

pub returns : goal.returns
unfolding digits
returns c = record {
  all = refl;
  count = refl;
  key = refl;
  other_key = refl;
}

use Rattle.std.proofs.Common.{refl}
use Rattle.std.specs.Fmt.{digits}
use Rattle.query_sessions.proofs.worked.too_many_rows_are_counted.Goals as goal

pub returns : goal.returns
unfolding digits
returns c = record {
  at_the_limit = refl;
  above_it = refl;
  count_at_the_limit = refl;
  count_above_it = refl;
}

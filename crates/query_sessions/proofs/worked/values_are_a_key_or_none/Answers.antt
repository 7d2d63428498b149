use Rattle.std.proofs.Common.{refl}
use Rattle.query_sessions.proofs.worked.values_are_a_key_or_none.Goals as goal

pub returns : goal.returns
returns c = record {
  number = refl;
  text = refl;
  null = refl;
  none = refl;
  two = refl;
  asked = refl;
  other_table = refl;
}

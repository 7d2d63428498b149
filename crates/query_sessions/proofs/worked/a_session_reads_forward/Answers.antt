use Rattle.std.proofs.Common.{refl}
use Rattle.query_sessions.proofs.worked.a_session_reads_forward.Goals as goal

pub returns : goal.returns
returns c = record {
  fresh = refl;
  older = refl;
  same = refl;
}

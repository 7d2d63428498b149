use Rattle.script.proofs.LongScripts.{alike}
use Rattle.script.proofs.laws.a_long_script_is_refused_alike.Goals as goal

pub returns : goal.returns
returns c = record { alike = alike }

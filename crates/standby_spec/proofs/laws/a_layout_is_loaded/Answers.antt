use Rattle.standby_spec.proofs.LoadLaws.{pairs-loaded}
use Rattle.standby_spec.proofs.laws.a_layout_is_loaded.Goals as goal

pub returns : goal.returns
returns c = record { loaded = pairs-loaded }

use Rattle.standby_spec.proofs.AgainLaws.{pairs-again}
use Rattle.standby_spec.proofs.laws.a_loaded_store_is_a_layout.Goals as goal

pub returns : goal.returns
returns c = record { pairs = pairs-again }

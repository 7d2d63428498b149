use Rattle.standby_spec.proofs.LayoutLaws.{leaves-layout}
use Rattle.standby_spec.proofs.laws.a_writing_leaves_a_layout.Goals as goal

pub returns : goal.returns
returns c = record { layout = leaves-layout }

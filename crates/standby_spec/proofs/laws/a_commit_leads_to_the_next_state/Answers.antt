use Rattle.standby_spec.proofs.ItemLaws.{writing-leads}
use Rattle.standby_spec.proofs.LayoutLaws.{writings-lead}
use Rattle.standby_spec.proofs.laws.a_commit_leads_to_the_next_state.Goals as goal

pub returns : goal.returns
returns c = record { leads = writing-leads; all = writings-lead }

use Rattle.snap_action.proofs.Lifting.{lifted}
use Rattle.snap_action.proofs.laws.held_results_lift.Goals as goal

pub returns : goal.returns
returns g c = λ place printed rest before after result action h. lifted place printed rest before after result action h

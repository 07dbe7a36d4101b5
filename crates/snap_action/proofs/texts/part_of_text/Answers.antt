use Rattle.snap_action.proofs.Follows.{unmet}
use Rattle.snap_action.proofs.Growing.{give_grows}
use Rattle.snap_action.proofs.texts.part_of_text.Goals as goal

pub returns-in_err-part-clause-gives : goal.returns-in_err-part-clause-gives
returns-in_err-part-clause-gives g c = let h = c.in_err-part.ensures in unmet (record { view = h.view; later = h.later }) (give_grows _) c.from_residual.result c.from_residual.ensures.1

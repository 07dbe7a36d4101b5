use Rattle.std.proofs.Common.{refl, ◌∙◌}
use Rattle.spec_values.specs.Answer.{give}
use Rattle.snap_action.proofs.Follows.{at_same, unmet}
use Rattle.snap_action.proofs.Growing.{give_grows}
use Rattle.snap_action.proofs.Joining.{whole_text}
use Rattle.snap_action.proofs.texts.hold_again.Goals as goal

pub returns-in_err-length-clause-gives : goal.returns-in_err-length-clause-gives
returns-in_err-length-clause-gives g c =
    let store = c.args.store.now in
    unmet (record { view = refl; later = g.met.S.Store.at_once store }) (give_grows (g.S.Store.meaning store c.args.held.now)) c.from_residual.result c.from_residual.ensures.1

pub returns-in-Some-clause-gives : goal.returns-in-Some-clause-gives
returns-in-Some-clause-gives g c = at_same give (whole_text (g.S.Store.meaning c.args.store.now c.args.held.now) c.in-Some.length (c.in_ok-length.ensures ∙ c.in-Some.is)) c.part_of_text.ensures.gives

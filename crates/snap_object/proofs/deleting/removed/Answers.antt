use Rattle.std.proofs.Common.{refl, sym, ap, ◌∙◌, true}
use Rattle.spec_values.specs.Access.{is_size}
use Rattle.spec_values.specs.Answer.{Gave}
use Rattle.snap_action.proofs.Called.{left_as}
use Rattle.snap_action.proofs.Follows.{unmet}
use Rattle.snap_action.specs.Gives.{standing}
use Rattle.snap_store.specs.View.{with_nodes}
use Rattle.snap_object.specs.Parts.{without}
use Rattle.snap_object.proofs.Growing.{without_grows}
use Rattle.snap_object.proofs.Removing.{none_gone}
use Rattle.snap_object.proofs.deleting.removed.Goals as goal

pub returns-then-is_frozen : goal.returns-then-is_frozen
returns-then-is_frozen g c =
    let view = g.S.Store.view c.args.store.now in
    let gone = none_gone view.nodes c.args.node c.args.name.now (is_size c.args.node c.args.name.now) c.requires.kept (sym c.is_frozen.ensures ∙ c.if-is_frozen.true) in
    left_as view (without c.args.node c.args.name.now) refl refl (g.met.S.Store.at_once c.args.store.now) tt (λ keys. ap (λ nodes. Gave true (standing (with_nodes view nodes) keys)) gone)

pub returns-in_err-remove_own : goal.returns-in_err-remove_own
returns-in_err-remove_own g c =
    let h = c.in_err-remove_own.ensures in
    unmet (record { view = h.err; later = h.later }) (without_grows c.args.node c.args.name.now) c.from_residual.result c.from_residual.ensures.1

use Rattle.std.proofs.Common.{◌≡◌, ◌<◌, List, length, inr, sym, ap, subst, ◌∙◌}
use Rattle.snap_graph.specs.declared.kind.Kind.TheVariants.{Error}
use Rattle.snap_graph.specs.declared.node.Node.{Node}
use Rattle.snap_graph.specs.declared.value.Value.TheVariants.{Node as At}
use Rattle.snap_graph.specs.Lawful.{IsPrototype}
use Rattle.snap_store.specs.View.{View}
use Rattle.spec_values.specs.Answer.{give}
use Rattle.spec_values.specs.Operations.{make}
use Rattle.snap_action.proofs.Called.{error_is_there, error_may_be}
use Rattle.snap_action.proofs.Follows.{at_same, chained, cut_off}
use Rattle.snap_action.proofs.Growing.{make_grows}
use Rattle.snap_action.proofs.errors.bare_error.Goals as goal

pub hold_value-requires : goal.hold_value-requires
hold_value-requires g c =
    let store = c.args.store.now in
    inr (subst (λ n. n < length (g.S.Store.view store).nodes) (sym c.prototype.ensures) (error_is_there c.args.kind (g.S.Store.view store).nodes (g.met.S.Store.lawful store)))

pub returns-in_err-prototype-clause-gives : goal.returns-in_err-prototype-clause-gives
returns-in_err-prototype-clause-gives g c =
    at_same (λ number. make Error (At number)) c.prototype.ensures
    (cut_off (give (At c.prototype.result)) (λ value. make Error value) (λ value. make_grows Error value) c.in_err-prototype.ensures.gives c.from_residual.result c.from_residual.ensures.1)

pub make_node-requires-clause-prototype : goal.make_node-requires-clause-prototype
make_node-requires-clause-prototype g c =
    let h = c.in_ok-prototype.ensures in
    let nodes : (g.S.Store.view c.hold_value.new.store).nodes ≡ (g.S.Store.view c.args.store.now).nodes = ap (λ (view : View). view.nodes) h.view in
    subst (λ (ns : List Node). IsPrototype ns Error (g.S.Store.meaning c.hold_value.new.store c.in_ok-prototype.prototype)) (sym nodes)
    (subst (λ value. IsPrototype (g.S.Store.view c.args.store.now).nodes Error value) (sym (h.meaning ∙ ap At c.prototype.ensures)) (error_may_be c.args.kind (g.S.Store.view c.args.store.now).nodes (g.met.S.Store.lawful c.args.store.now)))

pub returns-clause-gives : goal.returns-clause-gives
returns-clause-gives g c =
    at_same (λ number. make Error (At number)) c.prototype.ensures
    (chained g.met.S.Store.later_still (λ a b text h. g.met.S.Store.keeps_left_out a b text h) (give (At c.prototype.result)) (λ value. make Error value) c.in_ok-prototype.ensures.gives c.make_node.ensures.gives)

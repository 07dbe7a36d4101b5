use Rattle.std.proofs.Common.{◌∙◌}
use Rattle.snap_graph.specs.declared.value.Value.TheVariants.{Text}
use Rattle.spec_values.specs.Access.{named_key, set_named}
use Rattle.snap_action.proofs.Follows.{at_same, chained, cut_off}
use Rattle.snap_object.proofs.Growing.{set_named_grows}
use Rattle.snap_object.proofs.writing.named_of_node.Goals as goal

pub returns-in_err-key-clause-gives : goal.returns-in_err-key-clause-gives
returns-in_err-key-clause-gives g c =
    cut_off (named_key (Text c.args.name.now.text)) (λ name. set_named c.args.node name (g.S.Store.meaning c.args.store.now c.args.held.now)) (λ name. set_named_grows c.args.node name (g.S.Store.meaning c.args.store.now c.args.held.now)) c.in_err-key.ensures.gives c.from_residual.result c.from_residual.ensures.1

pub returns-clause-gives : goal.returns-clause-gives
returns-clause-gives g c =
    let h = c.in_ok-key.ensures in
    chained g.met.S.Store.later_still (λ a b text h. g.met.S.Store.keeps_left_out a b text h) (named_key (Text c.args.name.now.text)) (λ name. set_named c.args.node name (g.S.Store.meaning c.args.store.now c.args.held.now)) h.gives
    (at_same (λ value. set_named c.args.node c.args.name.now.text value) (g.met.S.Store.keeps_meaning c.args.store.now c.named_key.new.store c.args.held.now h.gives.later c.requires.owned)
    (at_same (λ name. set_named c.args.node name (g.S.Store.meaning c.named_key.new.store c.args.held.now)) (c.text.ensures ∙ h.kept.text) c.set_named.ensures))

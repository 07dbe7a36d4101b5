use Rattle.std.proofs.Common.{List, length, ap, sym, ◌∙◌}
use Rattle.snap_graph.specs.declared.node.Node.{Node}
use Rattle.spec_values.specs.Operations.{kind_of}
use Rattle.snap_store.specs.View.{View}
use Rattle.spec_values.proofs.Changes.{length-changed}
use Rattle.heap_rows.proofs.tests.stores.put.Goals as goal

pub put_own-requires-clause-key : goal.put_own-requires-clause-key
put_own-requires-clause-key g c = g.met.S.Store.keeps_known _ _ _ c.held_number.ensures.later (c.args.units.now, c.in_ok-key.ensures.key)

pub put_own-requires-clause-element : goal.put_own-requires-clause-element
put_own-requires-clause-element g c = λ is text known element.
    let same = ap (λ (view : View). view.nodes) c.held_number.ensures.view ∙ c.key_of.ensures.nodes in
    c.takes_properties.ensures.kind c.if-not-takes_properties.false (sym (ap (λ (nodes : List Node). kind_of nodes c.args.node) same) ∙ is)

pub returns : goal.returns
returns g c = ap (λ (view : View). length view.nodes) (c.in_ok-put_own.ensures.ok c.args.units.now (g.met.S.Store.keeps_keys _ _ c.held_number.ensures.later _ _ c.in_ok-key.ensures.key)) ∙ length-changed _ _ _ ∙ ap (λ (view : View). length view.nodes) c.held_number.ensures.view ∙ ap length c.key_of.ensures.nodes

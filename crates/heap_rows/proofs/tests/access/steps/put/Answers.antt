use Rattle.std.proofs.Common.{List, ap, sym, ◌∙◌}
use Rattle.snap_graph.specs.declared.node.Node.{Node}
use Rattle.snap_store.specs.View.{View}
use Rattle.spec_values.specs.Operations.{kind_of}
use Rattle.heap_rows.proofs.tests.access.steps.put.Goals as goal

pub put_own-requires-clause-element : goal.put_own-requires-clause-element
put_own-requires-clause-element g c = λ is text known element.
    let same = ap (λ (view : View). view.nodes) c.in_ok-key.ensures.ok ∙ ap (λ (view : View). view.nodes) c.hold.ensures.view in
    c.takes_properties.ensures.kind c.if-not-takes_properties.false (sym (ap (λ (nodes : List Node). kind_of nodes c.in-Node.node) same) ∙ is)

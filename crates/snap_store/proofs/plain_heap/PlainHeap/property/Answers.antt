use Rattle.std.proofs.Common.{length, Some, ap, ◌∙◌, arith}
use Rattle.std.specs.Option.{option_and_then}
use Rattle.snap_graph.specs.declared.node.Node.{Node}
use Rattle.snap_store.specs.Plain.{node_in}
use Rattle.snap_store.specs.PlainHeaps.{heap_nodes}
use Rattle.snap_store.proofs.Altering.{here, node_within, place_here, properties_here}
use Rattle.snap_store.proofs.Owning.{owns_property}
use Rattle.snap_store.proofs.Placing.{held_at}
use Rattle.spec_values.specs.Operations.{held_under}
use Rattle.spec_values.proofs.Made.{lawful_at}
use Rattle.snap_store.proofs.plain_heap.PlainHeap.property.Goals as goal

pub returns-clause-owned : goal.returns-clause-owned
returns-clause-owned c =
    let heap = c.args.self.now in
    let old = c.index.result.now in
    owns_property heap.texts (heap_nodes heap) old (lawful_at (heap_nodes heap) heap.lawful c.args.node (node_in heap.texts old) (here heap.texts heap.nodes.items c.args.node old c.requires.number c.index.ensures)) (node_within heap.texts heap.nodes.items c.args.node old c.requires.number c.index.ensures heap.texts heap.within) c.args.place c.index-2.result.now
    (omega (arith, c.requires.place, ap length (properties_here heap.texts heap.nodes.items c.args.node old c.requires.number c.index.ensures))) c.index-2.ensures

pub returns-clause-meaning : goal.returns-clause-meaning
returns-clause-meaning c = λ key place.
    let heap = c.args.self.now in
    let old = c.index.result.now in
    ap (option_and_then (λ (n : Node). held_under key n.properties)) (here heap.texts heap.nodes.items c.args.node old c.requires.number c.index.ensures)
    ∙ held_at heap.texts key old.properties.items c.args.place c.index-2.result.now (place_here heap.texts heap.nodes.items c.args.node old c.requires.number c.index.ensures key (Some c.args.place) place) c.index-2.ensures

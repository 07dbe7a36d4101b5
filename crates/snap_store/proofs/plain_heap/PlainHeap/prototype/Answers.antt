use Rattle.std.proofs.Common.{ap}
use Rattle.std.specs.Option.{option_map}
use Rattle.snap_graph.specs.declared.node.Node.{Node}
use Rattle.snap_store.specs.Plain.{node_in}
use Rattle.snap_store.specs.PlainHeaps.{heap_nodes}
use Rattle.snap_store.proofs.Altering.{here, node_within}
use Rattle.snap_store.proofs.Owning.{owns_prototype}
use Rattle.spec_values.proofs.Made.{lawful_at}
use Rattle.snap_store.proofs.plain_heap.PlainHeap.prototype.Goals as goal

pub returns-clause-owned : goal.returns-clause-owned
returns-clause-owned c =
    let heap = c.args.self.now in
    let old = c.index.result.now in
    owns_prototype heap.texts (heap_nodes heap) old (lawful_at (heap_nodes heap) heap.lawful c.args.node (node_in heap.texts old) (here heap.texts heap.nodes.items c.args.node old c.requires c.index.ensures)) (node_within heap.texts heap.nodes.items c.args.node old c.requires c.index.ensures heap.texts heap.within)

pub returns-clause-meaning : goal.returns-clause-meaning
returns-clause-meaning c =
    let heap = c.args.self.now in
    let old = c.index.result.now in
    ap (option_map (λ (n : Node). n.prototype)) (here heap.texts heap.nodes.items c.args.node old c.requires c.index.ensures)

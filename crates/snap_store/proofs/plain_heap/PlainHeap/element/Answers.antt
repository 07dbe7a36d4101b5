use Rattle.std.proofs.Common.{List, length, slice_get, refl, ap, ◌∙◌, arith}
use Rattle.std.specs.Option.{option_map}
use Rattle.std.proofs.lemmas.List.{length-map}
use Rattle.std.proofs.lemmas.Option.{slice_get-map, slice_get_read}
use Rattle.snap_graph.specs.declared.value.Value.{Value}
use Rattle.snap_store.specs.Plain.{node_in, value_in}
use Rattle.snap_store.specs.PlainHeaps.{heap_nodes}
use Rattle.snap_store.proofs.Altering.{elements_here, here, node_within}
use Rattle.snap_store.proofs.Owning.{owns_element}
use Rattle.spec_values.proofs.Made.{lawful_at}
use Rattle.snap_store.proofs.plain_heap.PlainHeap.element.Goals as goal

pub returns-clause-owned : goal.returns-clause-owned
returns-clause-owned c =
    let heap = c.args.self.now in
    let old = c.index.result.now in
    owns_element heap.texts (heap_nodes heap) old (lawful_at (heap_nodes heap) heap.lawful c.args.node (node_in heap.texts old) (here heap.texts heap.nodes.items c.args.node old c.requires.number c.index.ensures)) (node_within heap.texts heap.nodes.items c.args.node old c.requires.number c.index.ensures heap.texts heap.within) c.args.i c.index-2.result.now
    (omega (arith, c.requires.place, ap length (elements_here heap.texts heap.nodes.items c.args.node old c.requires.number c.index.ensures), length-map old.elements.items (value_in heap.texts))) c.index-2.ensures

pub returns-clause-meaning : goal.returns-clause-meaning
returns-clause-meaning c =
    let heap = c.args.self.now in
    let old = c.index.result.now in
    ap (λ (vs : List Value). slice_get vs c.args.i) (elements_here heap.texts heap.nodes.items c.args.node old c.requires.number c.index.ensures)
    ∙ slice_get-map (value_in heap.texts) old.elements.items c.args.i
    ∙ ap (option_map (value_in heap.texts)) (slice_get_read old.elements.items (length old.elements.items) c.args.i c.index-2.result.now refl
    (omega (arith, c.requires.place, ap length (elements_here heap.texts heap.nodes.items c.args.node old c.requires.number c.index.ensures), length-map old.elements.items (value_in heap.texts))) c.index-2.ensures)

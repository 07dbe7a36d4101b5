use Rattle.std.proofs.Common.{ℕ, ◌-◌, List, length, map, take, set, slice_get, sym, ap, ◌∙◌}
use Rattle.std.specs.Option.{option_map}
use Rattle.std.proofs.lemmas.List.{length-map, length-set}
use Rattle.std.proofs.lemmas.Option.{slice_get-map}
use Rattle.snap_graph.specs.declared.kind.Kind.TheVariants as kind
use Rattle.snap_graph.specs.declared.value.Value.{Value}
use Rattle.snap_store.specs.Plain.{node_in, value_in}
use Rattle.snap_store.specs.PlainHeaps.{heap_nodes}
use Rattle.snap_store.proofs.Altering.{elements_here, here, is_changed, keeps_keyed, keeps_lawful, keeps_within, loose_here, node_within, of_kind}
use Rattle.spec_values.specs.Operations.{with_elements}
use Rattle.spec_values.proofs.Elements.{with_fewer_lawful}
use Rattle.spec_values.proofs.Made.{lawful_at}
use Rattle.snap_store.proofs.Owning.{owns_read}
use Rattle.snap_store.proofs.Growing.{few_set, follows_set}
use Rattle.snap_store.proofs.plain_heap.PlainHeap.pop_element.Goals as goal

pub invariant_of-self : goal.invariant_of-self
invariant_of-self c =
    let heap = c.args.self.now in
    let old = c.index_mut.result.now in
    let read = c.index_mut.ensures.value in
    let at = here heap.texts heap.nodes.items c.args.node old c.requires.number read in
    record {
      lawful = keeps_lawful heap.texts heap.nodes.items c.args.node old c.requires.number read c.pop_element.new.self
          (with_elements (λ elements. take (length elements - 1) elements))
          (c.pop_element.ensures.means heap.texts)
          (with_fewer_lawful (heap_nodes heap) c.args.node (node_in heap.texts old) heap.lawful at (of_kind heap.texts heap.nodes.items c.args.node old c.requires.number read kind.Array c.requires.kind) (loose_here heap.texts heap.nodes.items c.args.node old c.requires.number read c.requires.frozen));
      within = keeps_within heap.texts heap.nodes.items c.args.node old c.requires.number read heap.texts c.pop_element.new.self heap.within
          (c.pop_element.ensures.within heap.texts);
      few = few_set heap.nodes.items c.args.node c.pop_element.new.self heap.few;
    }

pub returns-clause-nodes : goal.returns-clause-nodes
returns-clause-nodes c =
    let heap = c.args.self.now in
    is_changed heap.texts heap.nodes.items c.args.node c.index_mut.result.now c.requires.number c.index_mut.ensures.value c.pop_element.new.self
    (with_elements (λ elements. take (length elements - 1) elements))
    (c.pop_element.ensures.means heap.texts)

pub returns-clause-owned : goal.returns-clause-owned
returns-clause-owned c =
    let heap = c.args.self.now in
    let old = c.index_mut.result.now in
    let read = c.index_mut.ensures.value in
    owns_read heap.texts (heap_nodes heap) old (lawful_at (heap_nodes heap) heap.lawful c.args.node (node_in heap.texts old) (here heap.texts heap.nodes.items c.args.node old c.requires.number read)) (node_within heap.texts heap.nodes.items c.args.node old c.requires.number read heap.texts heap.within) _ (length old.elements.items - 1) c.pop_element.result
    (length-map (set heap.nodes.items c.args.node c.pop_element.new.self) (node_in heap.texts) ∙ length-set heap.nodes.items c.args.node c.pop_element.new.self ∙ sym (length-map heap.nodes.items (node_in heap.texts)))
    c.pop_element.ensures.taken

pub returns-clause-meaning : goal.returns-clause-meaning
returns-clause-meaning c =
    let heap = c.args.self.now in
    let old = c.index_mut.result.now in
    let elements = elements_here heap.texts heap.nodes.items c.args.node old c.requires.number c.index_mut.ensures.value in
    let kept = old.elements.items in
    ap (option_map (value_in heap.texts)) c.pop_element.ensures.taken
    ∙ sym (slice_get-map (value_in heap.texts) kept (length kept - 1))
    ∙ ap (λ (n : ℕ). slice_get (map (value_in heap.texts) kept) (n - 1)) (sym (length-map kept (value_in heap.texts)))
    ∙ ap (λ (vs : List Value). slice_get vs (length vs - 1)) (sym elements)

pub returns-clause-keyed : goal.returns-clause-keyed
returns-clause-keyed c = λ key_of all.
    let heap = c.args.self.now in
    keeps_keyed heap.texts heap.nodes.items c.args.node c.index_mut.result.now c.requires.number c.index_mut.ensures.value key_of c.pop_element.new.self (c.pop_element.ensures.keyed key_of) all

pub returns-clause-later : goal.returns-clause-later
returns-clause-later c = let heap = c.args.self.now in follows_set heap.texts heap.nodes.items c.args.node c.pop_element.new.self

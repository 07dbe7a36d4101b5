use Rattle.std.proofs.Common.{slice_set}
use Rattle.snap_store.specs.Plain.{node_in, value_in}
use Rattle.snap_store.specs.PlainHeaps.{heap_nodes}
use Rattle.snap_store.proofs.Altering.{here, is_changed, keeps_keyed, keeps_lawful, keeps_within, may_hold}
use Rattle.spec_values.specs.Operations.{with_elements}
use Rattle.spec_values.proofs.Elements.{with_element_lawful}
use Rattle.snap_store.proofs.Growing.{few_set, follows_set}
use Rattle.snap_store.proofs.plain_heap.PlainHeap.set_element.Goals as goal

pub invariant_of-self : goal.invariant_of-self
invariant_of-self c =
    let heap = c.args.self.now in
    let old = c.index_mut.result.now in
    let read = c.index_mut.ensures.value in
    let at = here heap.texts heap.nodes.items c.args.node old c.requires.number read in
    record {
      lawful = keeps_lawful heap.texts heap.nodes.items c.args.node old c.requires.number read c.set_element.new.self
          (with_elements (λ elements. slice_set elements c.args.i (value_in heap.texts c.args.held)))
          (c.set_element.ensures.means heap.texts)
          (with_element_lawful (heap_nodes heap) c.args.node (node_in heap.texts old) heap.lawful at c.args.i (value_in heap.texts c.args.held) (may_hold heap.texts heap.nodes.items c.args.node old c.requires.number read (value_in heap.texts c.args.held) c.requires.value));
      within = keeps_within heap.texts heap.nodes.items c.args.node old c.requires.number read heap.texts c.set_element.new.self heap.within
          (λ h. c.set_element.ensures.within heap.texts h c.requires.owned.0);
      few = few_set heap.nodes.items c.args.node c.set_element.new.self heap.few;
    }

pub returns-clause-nodes : goal.returns-clause-nodes
returns-clause-nodes c =
    let heap = c.args.self.now in
    is_changed heap.texts heap.nodes.items c.args.node c.index_mut.result.now c.requires.number c.index_mut.ensures.value c.set_element.new.self
    (with_elements (λ elements. slice_set elements c.args.i (value_in heap.texts c.args.held)))
    (c.set_element.ensures.means heap.texts)

pub returns-clause-keyed : goal.returns-clause-keyed
returns-clause-keyed c = λ key_of all.
    let heap = c.args.self.now in
    keeps_keyed heap.texts heap.nodes.items c.args.node c.index_mut.result.now c.requires.number c.index_mut.ensures.value key_of c.set_element.new.self (c.set_element.ensures.keyed key_of) all

pub returns-clause-later : goal.returns-clause-later
returns-clause-later c = let heap = c.args.self.now in follows_set heap.texts heap.nodes.items c.args.node c.set_element.new.self

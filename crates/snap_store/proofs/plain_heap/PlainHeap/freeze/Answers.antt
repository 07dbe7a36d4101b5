use Rattle.snap_store.specs.Plain.{node_in}
use Rattle.snap_store.specs.PlainHeaps.{heap_nodes}
use Rattle.snap_store.proofs.Altering.{here, is_changed, keeps_keyed, keeps_lawful, keeps_within}
use Rattle.spec_values.specs.Operations.{frozen_node}
use Rattle.spec_values.proofs.Elements.{with_frozen_lawful}
use Rattle.snap_store.proofs.Growing.{few_set, follows_set}
use Rattle.snap_store.proofs.plain_heap.PlainHeap.freeze.Goals as goal

pub invariant_of-self : goal.invariant_of-self
invariant_of-self c =
    let heap = c.args.self.now in
    let old = c.index_mut.result.now in
    let read = c.index_mut.ensures.value in
    let at = here heap.texts heap.nodes.items c.args.node old c.requires read in
    record {
      lawful = keeps_lawful heap.texts heap.nodes.items c.args.node old c.requires read c.freeze.new.self
          frozen_node
          (c.freeze.ensures.means heap.texts)
          (with_frozen_lawful (heap_nodes heap) c.args.node (node_in heap.texts old) heap.lawful at);
      within = keeps_within heap.texts heap.nodes.items c.args.node old c.requires read heap.texts c.freeze.new.self heap.within
          (c.freeze.ensures.within heap.texts);
      few = few_set heap.nodes.items c.args.node c.freeze.new.self heap.few;
    }

pub returns-clause-nodes : goal.returns-clause-nodes
returns-clause-nodes c =
    let heap = c.args.self.now in
    is_changed heap.texts heap.nodes.items c.args.node c.index_mut.result.now c.requires c.index_mut.ensures.value c.freeze.new.self
    frozen_node
    (c.freeze.ensures.means heap.texts)

pub returns-clause-keyed : goal.returns-clause-keyed
returns-clause-keyed c = λ key_of all.
    let heap = c.args.self.now in
    keeps_keyed heap.texts heap.nodes.items c.args.node c.index_mut.result.now c.requires c.index_mut.ensures.value key_of c.freeze.new.self (c.freeze.ensures.keyed key_of) all

pub returns-clause-later : goal.returns-clause-later
returns-clause-later c = let heap = c.args.self.now in follows_set heap.texts heap.nodes.items c.args.node c.freeze.new.self

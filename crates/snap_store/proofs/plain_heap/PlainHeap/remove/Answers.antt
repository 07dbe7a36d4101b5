use Rattle.std.proofs.Common.{Some}
use Rattle.snap_store.specs.Plain.{node_in}
use Rattle.snap_store.specs.PlainHeaps.{heap_nodes}
use Rattle.snap_store.proofs.Altering.{here, is_changed, keeps_keyed, keeps_lawful, keeps_within, loose_here, node_within, place_here}
use Rattle.snap_store.proofs.Owning.{keys_apart}
use Rattle.spec_values.specs.Operations.{remove_under, with_properties}
use Rattle.spec_values.proofs.Elements.{without_own_lawful}
use Rattle.spec_values.proofs.Made.{lawful_at}
use Rattle.snap_store.proofs.Growing.{few_set, follows_set}
use Rattle.snap_store.proofs.plain_heap.PlainHeap.remove.Goals as goal

pub invariant_of-self : goal.invariant_of-self
invariant_of-self c =
    let heap = c.args.self.now in
    let old = c.index_mut.result.now in
    let read = c.index_mut.ensures.value in
    let at = here heap.texts heap.nodes.items c.args.node old c.requires.number read in
    record {
      lawful = keeps_lawful heap.texts heap.nodes.items c.args.node old c.requires.number read c.remove.new.self
          (with_properties (remove_under c.requires.place.0))
          (c.remove.ensures.means heap.texts c.requires.place.0 (place_here heap.texts heap.nodes.items c.args.node old c.requires.number read c.requires.place.0 (Some c.args.place) c.requires.place.1) (keys_apart heap.texts (heap_nodes heap) old (lawful_at (heap_nodes heap) heap.lawful c.args.node (node_in heap.texts old) (here heap.texts heap.nodes.items c.args.node old c.requires.number read)) (node_within heap.texts heap.nodes.items c.args.node old c.requires.number read heap.texts heap.within)))
          (without_own_lawful (heap_nodes heap) c.args.node (node_in heap.texts old) heap.lawful at c.requires.place.0 (loose_here heap.texts heap.nodes.items c.args.node old c.requires.number read c.requires.frozen));
      within = keeps_within heap.texts heap.nodes.items c.args.node old c.requires.number read heap.texts c.remove.new.self heap.within
          (c.remove.ensures.within heap.texts);
      few = few_set heap.nodes.items c.args.node c.remove.new.self heap.few;
    }

pub returns-clause-nodes : goal.returns-clause-nodes
returns-clause-nodes c = λ key place.
    let heap = c.args.self.now in
    let old = c.index_mut.result.now in
    let read = c.index_mut.ensures.value in
    is_changed heap.texts heap.nodes.items c.args.node old c.requires.number read c.remove.new.self
    (with_properties (remove_under key))
    (c.remove.ensures.means heap.texts key (place_here heap.texts heap.nodes.items c.args.node old c.requires.number read key (Some c.args.place) place) (keys_apart heap.texts (heap_nodes heap) old (lawful_at (heap_nodes heap) heap.lawful c.args.node (node_in heap.texts old) (here heap.texts heap.nodes.items c.args.node old c.requires.number read)) (node_within heap.texts heap.nodes.items c.args.node old c.requires.number read heap.texts heap.within)))

pub returns-clause-keyed : goal.returns-clause-keyed
returns-clause-keyed c = λ key_of all.
    let heap = c.args.self.now in
    keeps_keyed heap.texts heap.nodes.items c.args.node c.index_mut.result.now c.requires.number c.index_mut.ensures.value key_of c.remove.new.self (c.remove.ensures.keyed key_of) all

pub returns-clause-later : goal.returns-clause-later
returns-clause-later c = let heap = c.args.self.now in follows_set heap.texts heap.nodes.items c.args.node c.remove.new.self

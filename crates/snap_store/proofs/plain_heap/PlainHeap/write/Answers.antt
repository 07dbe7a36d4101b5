use Rattle.std.proofs.Common.{Some, ap, ◌∙◌}
use Rattle.snap_store.specs.Plain.{node_in, value_in}
use Rattle.snap_store.specs.PlainHeaps.{heap_nodes}
use Rattle.snap_store.proofs.Altering.{here, is_changed, keeps_keyed, keeps_lawful, keeps_within, kind_here, loose_here, place_here}
use Rattle.spec_values.specs.Operations.{put_under, with_properties}
use Rattle.spec_values.proofs.Elements.{with_own_lawful}
use Rattle.snap_store.proofs.Growing.{few_set, follows_set}
use Rattle.snap_store.proofs.plain_heap.PlainHeap.write.Goals as goal

pub invariant_of-self : goal.invariant_of-self
invariant_of-self c =
    let heap = c.args.self.now in
    let old = c.index_mut.result.now in
    let read = c.index_mut.ensures.value in
    let at = here heap.texts heap.nodes.items c.args.node old c.requires.number read in
    record {
      lawful = keeps_lawful heap.texts heap.nodes.items c.args.node old c.requires.number read c.write.new.self
          (with_properties (put_under c.requires.place.0 (value_in heap.texts c.args.held)))
          (c.write.ensures.means heap.texts c.requires.place.0 (place_here heap.texts heap.nodes.items c.args.node old c.requires.number read c.requires.place.0 (Some c.args.place) c.requires.place.1))
          (with_own_lawful (heap_nodes heap) c.args.node (node_in heap.texts old) heap.lawful at c.requires.place.0 (value_in heap.texts c.args.held) (loose_here heap.texts heap.nodes.items c.args.node old c.requires.number read c.requires.frozen) c.requires.value (λ e. c.requires.place.2 (kind_here heap.texts heap.nodes.items c.args.node old c.requires.number read ∙ ap Some e)));
      within = keeps_within heap.texts heap.nodes.items c.args.node old c.requires.number read heap.texts c.write.new.self heap.within
          (λ h. c.write.ensures.within heap.texts h c.requires.owned.0);
      few = few_set heap.nodes.items c.args.node c.write.new.self heap.few;
    }

pub returns-clause-nodes : goal.returns-clause-nodes
returns-clause-nodes c = λ key place.
    let heap = c.args.self.now in
    let old = c.index_mut.result.now in
    let read = c.index_mut.ensures.value in
    is_changed heap.texts heap.nodes.items c.args.node old c.requires.number read c.write.new.self
    (with_properties (put_under key (value_in heap.texts c.args.held)))
    (c.write.ensures.means heap.texts key (place_here heap.texts heap.nodes.items c.args.node old c.requires.number read key (Some c.args.place) place))

pub returns-clause-keyed : goal.returns-clause-keyed
returns-clause-keyed c = λ key_of all.
    let heap = c.args.self.now in
    keeps_keyed heap.texts heap.nodes.items c.args.node c.index_mut.result.now c.requires.number c.index_mut.ensures.value key_of c.write.new.self (c.write.ensures.keyed key_of) all

pub returns-clause-later : goal.returns-clause-later
returns-clause-later c = let heap = c.args.self.now in follows_set heap.texts heap.nodes.items c.args.node c.write.new.self

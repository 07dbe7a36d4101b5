use Rattle.std.proofs.Common.{length, None, Some, ap, ◌∙◌, arith}
use Rattle.std.proofs.lemmas.Bool.{le-leb, lt-leb}
use Rattle.snap_store.specs.Plain.{node_in, value_in}
use Rattle.snap_store.specs.PlainHeaps.{heap_nodes, heap_properties}
use Rattle.snap_store.proofs.Altering.{here, is_changed, keeps_keyed, keeps_lawful, keeps_within, kind_here, loose_here, place_here}
use Rattle.spec_values.specs.Operations.{put_under, with_properties}
use Rattle.spec_values.proofs.Elements.{with_own_lawful}
use Rattle.snap_store.proofs.Altering.{is_same, same_lawful}
use Rattle.snap_store.proofs.Either.{either_way, on_err}
use Rattle.snap_store.proofs.Filling.{full_kept}
use Rattle.snap_store.proofs.Growing.{few_set, follows_set}
use Rattle.snap_store.proofs.plain_heap.PlainHeap.create.Goals as goal

pub invariant_of-self : goal.invariant_of-self
invariant_of-self c =
    let heap = c.args.self.now in
    let old = c.index_mut.result.now in
    let read = c.index_mut.ensures.value in
    record {
      lawful = either_way c.create.result c.create.ensures.means c.create.ensures.err
          (λ means. keeps_lawful heap.texts heap.nodes.items c.args.node old c.requires.number read c.create.new.self
          (with_properties (put_under c.args.key (value_in heap.texts c.args.held)))
          (means heap.texts (place_here heap.texts heap.nodes.items c.args.node old c.requires.number read c.args.key None c.requires.place))
          (with_own_lawful (heap_nodes heap) c.args.node (node_in heap.texts old) heap.lawful (here heap.texts heap.nodes.items c.args.node old c.requires.number read) c.args.key (value_in heap.texts c.args.held) (loose_here heap.texts heap.nodes.items c.args.node old c.requires.number read c.requires.frozen) c.requires.value (λ e. c.requires.element (kind_here heap.texts heap.nodes.items c.args.node old c.requires.number read ∙ ap Some e))))
          (λ same. same_lawful heap.texts heap.nodes.items c.args.node old c.requires.number read c.create.new.self (same heap.texts) heap.lawful);
      within = keeps_within heap.texts heap.nodes.items c.args.node old c.requires.number read heap.texts c.create.new.self heap.within
          (λ h. c.create.ensures.within heap.texts h c.requires.owned.0);
      few = few_set heap.nodes.items c.args.node c.create.new.self heap.few;
    }

pub returns-in_err-create-clause-err : goal.returns-in_err-create-clause-err
returns-in_err-create-clause-err c =
    let heap = c.args.self.now in
    let old = c.index_mut.result.now in
    let read = c.index_mut.ensures.value in
    on_err c.from_residual.result (is_same heap.texts heap.nodes.items c.args.node old c.requires.number read c.create.new.self (c.in_err-create.ensures.err heap.texts))

pub returns-clause-nodes : goal.returns-clause-nodes
returns-clause-nodes c =
    let heap = c.args.self.now in
    let old = c.index_mut.result.now in
    let read = c.index_mut.ensures.value in
    let means = c.in_ok-create.ensures.means in
    is_changed heap.texts heap.nodes.items c.args.node old c.requires.number read c.create.new.self
    (with_properties (put_under c.args.key (value_in heap.texts c.args.held)))
    (means heap.texts (place_here heap.texts heap.nodes.items c.args.node old c.requires.number read c.args.key None c.requires.place))

pub returns-then-properties-clause-fault : goal.returns-then-properties-clause-fault
returns-then-properties-clause-fault c =
    let heap = c.args.self.now in
    let full = full_kept heap.texts heap.nodes.items c.args.node c.args.key c.requires.place in
    full ∙ le-leb 1048576 (length (heap_properties heap c.args.node)) (omega (arith, ap length c.properties.ensures.value, c.if-properties.true))

pub returns-clause-fault : goal.returns-clause-fault
returns-clause-fault c =
    let heap = c.args.self.now in
    let full = full_kept heap.texts heap.nodes.items c.args.node c.args.key c.requires.place in
    full ∙ lt-leb 1048576 (length (heap_properties heap c.args.node)) (omega (arith, ap length c.properties.ensures.value, c.if-properties.false))

pub returns-clause-keyed : goal.returns-clause-keyed
returns-clause-keyed c = λ key_of means all.
    let heap = c.args.self.now in
    keeps_keyed heap.texts heap.nodes.items c.args.node c.index_mut.result.now c.requires.number c.index_mut.ensures.value key_of c.create.new.self (c.create.ensures.keyed key_of means) all

pub returns-in_err-create-clause-keyed : goal.returns-in_err-create-clause-keyed
returns-in_err-create-clause-keyed c = λ key_of means all.
    let heap = c.args.self.now in
    keeps_keyed heap.texts heap.nodes.items c.args.node c.index_mut.result.now c.requires.number c.index_mut.ensures.value key_of c.create.new.self (c.create.ensures.keyed key_of means) all

pub returns-in_err-create-clause-later : goal.returns-in_err-create-clause-later
returns-in_err-create-clause-later c = let heap = c.args.self.now in follows_set heap.texts heap.nodes.items c.args.node c.create.new.self

pub returns-clause-later : goal.returns-clause-later
returns-clause-later c = let heap = c.args.self.now in follows_set heap.texts heap.nodes.items c.args.node c.create.new.self

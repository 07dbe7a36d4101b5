use Rattle.std.proofs.Common.{[], ◌∷◌, ◌++◌}
use Rattle.snap_store.specs.Plain.{node_in, value_in}
use Rattle.snap_store.specs.PlainHeaps.{heap_nodes}
use Rattle.snap_store.proofs.Altering.{here, is_changed, keeps_keyed, keeps_lawful, keeps_within, may_hold}
use Rattle.spec_values.specs.Operations.{with_elements}
use Rattle.spec_values.proofs.Elements.{with_more_lawful}
use Rattle.snap_store.proofs.Altering.{is_same, same_lawful}
use Rattle.snap_store.proofs.Either.{either_way, on_err}
use Rattle.snap_store.proofs.Growing.{few_set, follows_set}
use Rattle.snap_store.proofs.plain_heap.PlainHeap.push_element.Goals as goal

pub invariant_of-self : goal.invariant_of-self
invariant_of-self c =
    let heap = c.args.self.now in
    let old = c.index_mut.result.now in
    let read = c.index_mut.ensures.value in
    record {
      lawful = either_way c.push_element.result c.push_element.ensures.means c.push_element.ensures.err
          (λ means. keeps_lawful heap.texts heap.nodes.items c.args.node old c.requires.number read c.push_element.new.self
          (with_elements (λ elements. elements ++ (value_in heap.texts c.args.held) ∷ []))
          (means heap.texts)
          (with_more_lawful (heap_nodes heap) c.args.node (node_in heap.texts old) heap.lawful (here heap.texts heap.nodes.items c.args.node old c.requires.number read) (value_in heap.texts c.args.held) (may_hold heap.texts heap.nodes.items c.args.node old c.requires.number read (value_in heap.texts c.args.held) c.requires.value)))
          (λ same. same_lawful heap.texts heap.nodes.items c.args.node old c.requires.number read c.push_element.new.self (same heap.texts) heap.lawful);
      within = keeps_within heap.texts heap.nodes.items c.args.node old c.requires.number read heap.texts c.push_element.new.self heap.within
          (λ h. c.push_element.ensures.within heap.texts h c.requires.owned.0);
      few = few_set heap.nodes.items c.args.node c.push_element.new.self heap.few;
    }

pub returns-in_err-push_element-clause-err : goal.returns-in_err-push_element-clause-err
returns-in_err-push_element-clause-err c =
    let heap = c.args.self.now in
    let old = c.index_mut.result.now in
    let read = c.index_mut.ensures.value in
    on_err c.from_residual.result (is_same heap.texts heap.nodes.items c.args.node old c.requires.number read c.push_element.new.self (c.in_err-push_element.ensures.err heap.texts))

pub returns-clause-nodes : goal.returns-clause-nodes
returns-clause-nodes c =
    let heap = c.args.self.now in
    let old = c.index_mut.result.now in
    let read = c.index_mut.ensures.value in
    let means = c.in_ok-push_element.ensures.means in
    is_changed heap.texts heap.nodes.items c.args.node old c.requires.number read c.push_element.new.self
    (with_elements (λ elements. elements ++ (value_in heap.texts c.args.held) ∷ []))
    (means heap.texts)

pub returns-clause-keyed : goal.returns-clause-keyed
returns-clause-keyed c = λ key_of all.
    let heap = c.args.self.now in
    keeps_keyed heap.texts heap.nodes.items c.args.node c.index_mut.result.now c.requires.number c.index_mut.ensures.value key_of c.push_element.new.self (c.push_element.ensures.keyed key_of) all

pub returns-in_err-push_element-clause-keyed : goal.returns-in_err-push_element-clause-keyed
returns-in_err-push_element-clause-keyed c = λ key_of all.
    let heap = c.args.self.now in
    keeps_keyed heap.texts heap.nodes.items c.args.node c.index_mut.result.now c.requires.number c.index_mut.ensures.value key_of c.push_element.new.self (c.push_element.ensures.keyed key_of) all

pub returns-in_err-push_element-clause-later : goal.returns-in_err-push_element-clause-later
returns-in_err-push_element-clause-later c = let heap = c.args.self.now in follows_set heap.texts heap.nodes.items c.args.node c.push_element.new.self

pub returns-clause-later : goal.returns-clause-later
returns-clause-later c = let heap = c.args.self.now in follows_set heap.texts heap.nodes.items c.args.node c.push_element.new.self

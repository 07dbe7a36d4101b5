use Rattle.snap_store.proofs.Growing.{lawful_stays, nodes_stay, within_stays}
use Rattle.snap_store.proofs.plain_heap.PlainHeap.join.Goals as goal

pub invariant_of-self : goal.invariant_of-self
invariant_of-self c =
    let heap = c.args.self.now in
    let grown = c.join.ensures.grows in
    record {
      lawful = lawful_stays heap.texts c.join.new.self heap.nodes.items grown heap.within heap.lawful;
      within = within_stays heap.texts c.join.new.self heap.nodes.items grown heap.within;
      few = heap.few;
    }

pub returns-in-Ok-clause-nodes : goal.returns-in-Ok-clause-nodes
returns-in-Ok-clause-nodes c =
    let heap = c.args.self.now in
    nodes_stay heap.texts c.join.new.self heap.nodes.items c.join.ensures.grows heap.within

use Rattle.std.proofs.Common.{false, [], ◌∷◌, ◌++◌, length, length-append, refl, sym, ap, subst, arith}
use Rattle.snap_graph.specs.declared.node.Node.{Node}
use Rattle.snap_graph.specs.Lawful.{IsLawful}
use Rattle.snap_store.specs.declared.plain_node.PlainNode.{PlainNode}
use Rattle.snap_store.specs.Plain.{value_in}
use Rattle.snap_store.specs.PlainHeaps.{heap_nodes}
use Rattle.spec_values.proofs.Made.{made_lawful}
use Rattle.snap_store.proofs.Growing.{made_new, made_within, pushed_lawful, pushed_within}
use Rattle.snap_store.proofs.plain_heap.PlainHeap.make.Goals as goal

pub invariant_of-self-2 : goal.invariant_of-self-2
invariant_of-self-2 c =
    let heap = c.args.self.now in
    let made : PlainNode = record { kind = c.args.kind; prototype = c.args.prototype; frozen = false; properties = c.new.result; elements = c.new-2.result } in
    let lawful = made_lawful (heap_nodes heap) c.args.kind (value_in heap.texts c.args.prototype) heap.lawful c.requires.prototype c.requires.native in
    let means = made_new heap.texts made c.new.ensures.items c.new-2.ensures.items refl in
    record {
      lawful = pushed_lawful heap.texts heap.nodes.items c.push.new.self.items made _ c.push.ensures.items heap.lawful (subst (λ (n : Node). IsLawful (heap_nodes heap ++ n ∷ [])) (sym means) lawful);
      within = pushed_within heap.texts heap.nodes.items c.push.new.self.items made _ c.push.ensures.items heap.within (made_within heap.texts made c.new.ensures.items c.new-2.ensures.items refl c.requires.owned.0);
      few = omega (arith, ap length c.push.ensures.items, length-append heap.nodes.items (made ∷ []));
    }

use Rattle.std.proofs.Common.{List, None, sym, subst}
use Rattle.snap_store.specs.declared.plain_node.PlainProperty.{PlainProperty}
use Rattle.snap_store.specs.Plain.{IsPlaceOf}
use Rattle.snap_store.proofs.Filling.{own_none}
use Rattle.snap_store.proofs.plain_store.PlainStoreStore.own.Goals as goal

pub returns-in-None-clause-meaning : goal.returns-in-None-clause-meaning
returns-in-None-clause-meaning g c = λ text e.
    let heap = c.args.self.now.heap in
    let none = subst (λ (ps : List PlainProperty). IsPlaceOf text ps None) c.properties.ensures.value (c.in-None.ensures text e) in
    sym (own_none heap.texts heap.nodes.items c.args.node text none)

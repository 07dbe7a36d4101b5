use Rattle.std.proofs.Common.{List, None, Some, is_some, sym, ap, subst}
use Rattle.snap_store.specs.declared.plain_node.PlainProperty.{PlainProperty}
use Rattle.snap_store.specs.Plain.{IsPlaceOf}
use Rattle.snap_store.proofs.Filling.{own_none, own_some}
use Rattle.snap_store.proofs.Viewing.{written}
use Rattle.snap_store.proofs.plain_store.PlainStoreStore.write_own.Goals as goal

pub invariant_of-self : goal.invariant_of-self
invariant_of-self g c = record { keyed = c.write.ensures.keyed (g.K.Keys.key_of c.args.self.now.keys) c.args.self.now.keyed }

pub returns-in-Some-clause-found : goal.returns-in-Some-clause-found
returns-in-Some-clause-found g c = λ text e.
    let heap = c.args.self.now.heap in
    let found = subst (λ (ps : List PlainProperty). IsPlaceOf text ps (Some c.in-Some.place)) c.properties.ensures.value (c.in-Some.ensures text e) in
    sym (own_some heap.texts heap.nodes.items c.args.node text c.in-Some.place found)

pub returns-in-Some-clause-written : goal.returns-in-Some-clause-written
returns-in-Some-clause-written g c = λ text e.
    let heap = c.args.self.now.heap in
    let found = subst (λ (ps : List PlainProperty). IsPlaceOf text ps (Some c.in-Some.place)) c.properties.ensures.value (c.in-Some.ensures text e) in
    written heap c.write.new.self (g.K.Keys.log c.args.self.now.keys) _ (c.write.ensures.nodes text found) c.write.ensures.private_nodes

pub returns-in-None-clause-found : goal.returns-in-None-clause-found
returns-in-None-clause-found g c = λ text e.
    let heap = c.args.self.now.heap in
    let none = subst (λ (ps : List PlainProperty). IsPlaceOf text ps None) c.properties.ensures.value (c.in-None.ensures text e) in
    sym (ap is_some (own_none heap.texts heap.nodes.items c.args.node text none))

use Rattle.std.proofs.Common.{ℕ, List, None, Some, is_some, sym, ap, subst, ◌∙◌}
use Rattle.std.proofs.lemmas.Bool.{false≢true}
use Rattle.snap_store.specs.Calls.{EndsWhere, is_full}
use Rattle.snap_store.specs.declared.plain_node.PlainProperty.{PlainProperty}
use Rattle.snap_store.specs.Plain.{IsPlaceOf, value_in}
use Rattle.snap_store.specs.PlainHeaps.{heap_nodes}
use Rattle.snap_store.proofs.Either.{on_ok}
use Rattle.snap_store.proofs.Filling.{not_full, own_none}
use Rattle.snap_store.proofs.Viewing.{written}
use Rattle.spec_values.specs.Operations.{with_own}
use Rattle.snap_store.proofs.plain_store.PlainStoreStore.put_own.Goals as goal

pub returns-in_err-text-in-None-clause-known : goal.returns-in_err-text-in-None-clause-known
returns-in_err-text-in-None-clause-known g c = λ text e some.
    let heap = c.args.self.now.heap in
    let none = subst (λ (ps : List PlainProperty). IsPlaceOf text ps None) c.properties.ensures.value (c.in-None.ensures text e) in
    absurd (false≢true (sym (ap is_some (own_none heap.texts heap.nodes.items c.args.node text none)) ∙ some))

pub returns-in-Some-clause-fault : goal.returns-in-Some-clause-fault
returns-in-Some-clause-fault g c = λ text e.
    let heap = c.args.self.now.heap in
    let found = subst (λ (ps : List PlainProperty). IsPlaceOf text ps (Some c.in-Some.place)) c.properties.ensures.value (c.in-Some.ensures text e) in
    not_full heap.texts heap.nodes.items c.args.node text c.in-Some.place found

pub returns-in-Some-clause-ok : goal.returns-in-Some-clause-ok
returns-in-Some-clause-ok g c = λ text e.
    let heap = c.args.self.now.heap in
    let found = subst (λ (ps : List PlainProperty). IsPlaceOf text ps (Some c.in-Some.place)) c.properties.ensures.value (c.in-Some.ensures text e) in
    written c.args.self.now.heap c.write.new.self (g.K.Keys.log c.args.self.now.keys) _ (c.write.ensures.nodes text found) c.write.ensures.private_nodes

pub returns-in_ok-text-in-None-clause-fault : goal.returns-in_ok-text-in-None-clause-fault
returns-in_ok-text-in-None-clause-fault g c = λ text e.
    let heap = c.args.self.now.heap in
    let own = g.met.K.Keys.one_text c.args.self.now.keys c.args.key c.in_ok-text-in-None.text text c.in_ok-text-in-None.ensures e in
    subst (λ (t : List ℕ). EndsWhere (is_full (heap_nodes heap) c.args.node t) c.create.result) own c.create.ensures.fault

pub returns-in_ok-text-in-None-clause-known : goal.returns-in_ok-text-in-None-clause-known
returns-in_ok-text-in-None-clause-known g c = λ text e some.
    let heap = c.args.self.now.heap in
    let none = subst (λ (ps : List PlainProperty). IsPlaceOf text ps None) c.properties.ensures.value (c.in-None.ensures text e) in
    absurd (false≢true (sym (ap is_some (own_none heap.texts heap.nodes.items c.args.node text none)) ∙ some))

pub returns-in_ok-text-in-None-clause-ok : goal.returns-in_ok-text-in-None-clause-ok
returns-in_ok-text-in-None-clause-ok g c = λ text e.
    let heap = c.args.self.now.heap in
    let own = g.met.K.Keys.one_text c.args.self.now.keys c.args.key c.in_ok-text-in-None.text text c.in_ok-text-in-None.ensures e in
    on_ok c.create.result (λ nodes. written heap c.create.new.self (g.K.Keys.log c.args.self.now.keys) _ (nodes ∙ ap (λ (t : List ℕ). with_own (heap_nodes heap) c.args.node t (value_in heap.texts c.args.held.now)) own) c.create.ensures.private_nodes) c.create.ensures.nodes

pub invariant_of-self : goal.invariant_of-self
invariant_of-self g c = record { keyed = c.write.ensures.keyed (g.K.Keys.key_of c.args.self.now.keys) c.args.self.now.keyed }

pub invariant_of-self-in-None : goal.invariant_of-self-in-None
invariant_of-self-in-None g c = record { keyed = c.create.ensures.keyed (g.K.Keys.key_of c.args.self.now.keys) c.in_ok-text-in-None.ensures c.args.self.now.keyed }

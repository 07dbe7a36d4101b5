use Rattle.std.proofs.Common.{List, subst}
use Rattle.snap_ast.proofs.Parents.{node_is_lawful}
use Rattle.snap_scope.proofs.Next.{children_below, few, next}
use Rattle.snap_scope.proofs.Errors.{node_next}
use Rattle.snap_scope.proofs.Visits.{visited_more}
use Rattle.spec_scopes.specs.Told.{round_of}
use Rattle.snap_scope.specs.Visit.{Enters}
use Rattle.spec_scopes.specs.Scopes.{Slot, own_names}
use Rattle.snap_scope.proofs.visiting.visit.Goals as goal

pub go_in-requires-clause-within : goal.go_in-requires-clause-within
go_in-requires-clause-within c =
    let it = next c.args.tree.now c.args.pass.now.chains c.args.pass.now.contexts.items c.args.pass.now.entries.items c.args.pass.now.places.items c.args.number c.as_slice.result.now c.index-as_slice-number.result c.index-context.result.now c.requires.lawful c.requires.below c.requires.visited c.as_slice.ensures c.index-as_slice-number.is c.index-context.ensures in
    it.right.below

pub go_in-requires-clause-few : goal.go_in-requires-clause-few
go_in-requires-clause-few c =
    let it = next c.args.tree.now c.args.pass.now.chains c.args.pass.now.contexts.items c.args.pass.now.entries.items c.args.pass.now.places.items c.args.number c.as_slice.result.now c.index-as_slice-number.result c.index-context.result.now c.requires.lawful c.requires.below c.requires.visited c.as_slice.ensures c.index-as_slice-number.is c.index-context.ensures in
    few c.args.tree.now c.args.pass.now.chains c.args.number c.index-context.result.now (round_of c.args.tree.now c.args.number) c.requires.lawful it.stands it.right

pub go_in-requires-clause-children : goal.go_in-requires-clause-children
go_in-requires-clause-children c =
    let it = next c.args.tree.now c.args.pass.now.chains c.args.pass.now.contexts.items c.args.pass.now.entries.items c.args.pass.now.places.items c.args.number c.as_slice.result.now c.index-as_slice-number.result c.index-context.result.now c.requires.lawful c.requires.below c.requires.visited c.as_slice.ensures c.index-as_slice-number.is c.index-context.ensures in
    children_below c.args.tree.now c.args.number _ c.index-as_slice-number.result c.requires.lawful it.node_at c.requires.visited.long

pub returns-in-Ok-go_in-clause-ok : goal.returns-in-Ok-go_in-clause-ok
returns-in-Ok-go_in-clause-ok c =
    let it = next c.args.tree.now c.args.pass.now.chains c.args.pass.now.contexts.items c.args.pass.now.entries.items c.args.pass.now.places.items c.args.number c.as_slice.result.now c.index-as_slice-number.result c.index-context.result.now c.requires.lawful c.requires.below c.requires.visited c.as_slice.ensures c.index-as_slice-number.is c.index-context.ensures in
    let h = c.in-Ok-go_in.ensures in
    let nodes = c.args.tree.now.nodes in
    let form = c.index-as_slice-number.result.form in
    visited_more c.args.tree.now c.requires.lawful c.args.number c.index-as_slice-number.result it.node_at c.args.pass.now.chains c.go_in.new.pass.chains c.args.pass.now.contexts.items c.go_in.new.pass.contexts.items c.args.pass.now.entries.items c.args.pass.now.places.items c.index-context.result.now h.0 c.requires.visited it.context_at
    (subst (λ (slots : List Slot). Enters c.index-context.result.now.chain (own_names nodes form).kind slots h.0 c.args.pass.now.chains c.go_in.new.pass.chains) c.in-Ok.ensures.slots (h.1 nodes))
    h.2 h.3 h.4
    (c.in-Ok.ensures.clean (round_of c.args.tree.now c.args.number) it.right.loop_is it.right.function_is)
    c.go_in.new.pass.entries.items c.go_in.new.pass.places.items h.5 h.6

pub returns-in-Err-clause-err : goal.returns-in-Err-clause-err
returns-in-Err-clause-err c =
    let it = next c.args.tree.now c.args.pass.now.chains c.args.pass.now.contexts.items c.args.pass.now.entries.items c.args.pass.now.places.items c.args.number c.as_slice.result.now c.index-as_slice-number.result c.index-context.result.now c.requires.lawful c.requires.below c.requires.visited c.as_slice.ensures c.index-as_slice-number.is c.index-context.ensures in
    node_next c.args.tree.now c.args.pass.now.chains c.args.pass.now.contexts.items c.args.pass.now.entries.items c.args.pass.now.places.items c.args.number c.index-as_slice-number.result c.in-Err.fault c.requires.visited it.node_at
    (c.in-Err.ensures.err (round_of c.args.tree.now c.args.number) it.right.loop_is it.right.function_is)

pub check-requires-clause-words : goal.check-requires-clause-words
check-requires-clause-words c =
    let it = next c.args.tree.now c.args.pass.now.chains c.args.pass.now.contexts.items c.args.pass.now.entries.items c.args.pass.now.places.items c.args.number c.as_slice.result.now c.index-as_slice-number.result c.index-context.result.now c.requires.lawful c.requires.below c.requires.visited c.as_slice.ensures c.index-as_slice-number.is c.index-context.ensures in
    (node_is_lawful c.args.tree.now c.args.number c.index-as_slice-number.result c.requires.lawful it.node_at).0

pub go_in-requires-clause-words : goal.go_in-requires-clause-words
go_in-requires-clause-words c =
    let it = next c.args.tree.now c.args.pass.now.chains c.args.pass.now.contexts.items c.args.pass.now.entries.items c.args.pass.now.places.items c.args.number c.as_slice.result.now c.index-as_slice-number.result c.index-context.result.now c.requires.lawful c.requires.below c.requires.visited c.as_slice.ensures c.index-as_slice-number.is c.index-context.ensures in
    (node_is_lawful c.args.tree.now c.args.number c.index-as_slice-number.result c.requires.lawful it.node_at).0

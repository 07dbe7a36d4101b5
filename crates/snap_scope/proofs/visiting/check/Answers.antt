use Rattle.std.proofs.Common.{◌≡◌, List, OnOk, subst, sym, ◌∙◌}
use Rattle.std.specs.Prelude.{None, Some, IfErr}
use Rattle.snap_ast.specs.declared.tree.TreeNode.{TreeNode}
use Rattle.snap_scope.proofs.Errors.{err_by, names_last, told_by}
use Rattle.snap_scope.proofs.NarrowNames.{have_words}
use Rattle.snap_scope.proofs.Next.{on_ok_by}
use Rattle.snap_scope.specs.Faults.{IsTold, IsToldAt}
use Rattle.snap_scope.specs.Names.{HaveWords}
use Rattle.snap_scope.specs.Visit.{IsCleanAt}
use Rattle.spec_scopes.specs.Scopes.{names_apart}
use Rattle.spec_scopes.specs.Told.{bad_target, first_repeat, node_error}
use Rattle.snap_scope.proofs.visiting.check.Goals as goal

pub returns-else-is_stray-clause-clean : goal.returns-else-is_stray-clause-clean
returns-else-is_stray-clause-clean c =
    let tree = c.args.tree.now in
    let node = c.args.node.now in
    let good : bad_target tree.nodes node.form ≡ None = subst (λ (l : List TreeNode). bad_target l node.form ≡ None) c.as_slice.ensures c.in-Ok.ensures.ok in
    let apart : OnOk c.own_slots.result (first_repeat (names_apart tree.nodes node.form) ≡ None) =
    subst (λ (l : List TreeNode). OnOk c.own_slots.result (first_repeat (names_apart l node.form) ≡ None)) c.as_slice-in-Ok.ensures c.own_slots.ensures.apart in
    on_ok_by {B = IsCleanAt tree node c.args.context} c.own_slots.result (λ names. λ steps loop function. names_last tree node steps good (sym (c.is_stray.ensures steps loop function) ∙ c.if-is_stray.false) None names) apart

pub returns-else-is_stray-clause-err : goal.returns-else-is_stray-clause-err
returns-else-is_stray-clause-err c =
    let tree = c.args.tree.now in
    let node = c.args.node.now in
    let good : bad_target tree.nodes node.form ≡ None = subst (λ (l : List TreeNode). bad_target l node.form ≡ None) c.as_slice.ensures c.in-Ok.ensures.ok in
    let names : IfErr c.own_slots.result (IsTold (first_repeat (names_apart tree.nodes node.form))) =
    subst (λ (l : List TreeNode). IfErr c.own_slots.result (IsTold (first_repeat (names_apart l node.form)))) c.as_slice-in-Ok.ensures c.own_slots.ensures.err in
    err_by {A = IsTold (first_repeat (names_apart tree.nodes node.form))} {B = IsToldAt tree node c.args.context} c.own_slots.result
    (λ fault h. λ steps loop function. told_by (first_repeat (names_apart tree.nodes node.form)) (node_error tree node steps) fault
    (λ same e. names_last tree node steps good (sym (c.is_stray.ensures steps loop function) ∙ c.if-is_stray.false) (Some same) e) h) names

pub own_slots-requires-clause-nodes : goal.own_slots-requires-clause-nodes
own_slots-requires-clause-nodes c = subst HaveWords (sym c.as_slice-in-Ok.ensures) (have_words c.args.tree.now c.requires.lawful)

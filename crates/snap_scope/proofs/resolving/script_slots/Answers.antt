use Rattle.std.proofs.Common.{◌≡◌, ◌++◌, ℕ, List, ap, subst, sym, ◌∙◌, OnOk}
use Rattle.snap_ast.specs.declared.tree.TreeNode.{TreeNode}
use Rattle.snap_scope.proofs.NarrowNames.{script_narrow}
use Rattle.snap_scope.specs.Names.{AreNarrow, all_declared}
use Rattle.snap_scope.specs.declared.names.Name.{Name}
use Rattle.std.specs.Prelude.{None}
use Rattle.spec_scopes.specs.Told.{first_repeat}
use Rattle.spec_scopes.specs.Names.{Declared, declared}
use Rattle.snap_scope.proofs.resolving.script_slots.Goals as goal

pub returns-in-Ok-clause-apart : goal.returns-in-Ok-clause-apart
returns-in-Ok-clause-apart c =
    let names : all_declared c.deref.result.now ≡ declared c.args.tree.now.nodes c.args.tree.now.top =
    ap all_declared c.deref.ensures.value ∙ c.in-Ok.ensures ∙ ap (λ (xs : List Name). all_declared xs ++ declared c.as_slice.result.now c.as_slice-2.result.now) c.new-names.ensures.items
    ∙ ap (λ (xs : List TreeNode). declared xs c.as_slice-2.result.now) c.as_slice.ensures ∙ ap (λ (xs : List ℕ). declared c.args.tree.now.nodes xs) c.as_slice-2.ensures in
    subst (λ (list : List Declared). OnOk c.slots_of.result (first_repeat list ≡ None)) names c.slots_of.ensures.apart

pub slots_of-requires : goal.slots_of-requires
slots_of-requires c =
    let names : all_declared c.deref.result.now ≡ declared c.args.tree.now.nodes c.args.tree.now.top =
    ap all_declared c.deref.ensures.value ∙ c.in-Ok.ensures ∙ ap (λ (xs : List Name). all_declared xs ++ declared c.as_slice.result.now c.as_slice-2.result.now) c.new-names.ensures.items
    ∙ ap (λ (xs : List TreeNode). declared xs c.as_slice-2.result.now) c.as_slice.ensures ∙ ap (λ (xs : List ℕ). declared c.args.tree.now.nodes xs) c.as_slice-2.ensures in
    subst AreNarrow (sym names) (script_narrow c.args.tree.now c.requires)

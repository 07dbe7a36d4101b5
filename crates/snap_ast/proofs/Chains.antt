-- Which chains of operators have few enough levels.
use Rattle.std.proofs.Common.{◌∙◌, ◌≡◌, ℕ, zero, suc, ◌+◌, ◌≤◌, ◌<◌, List, [], ◌∷◌, ◌++◌, append_assoc, length, map, refl, sym, ap, subst, arith, length-append}
use Rattle.std.specs.Prelude.{Some, slice_get}
use Rattle.snap_ast.proofs.Tables.{get_seam, same_node}
use Rattle.snap_ast.specs.Children.{AnyExpression, AnyStatement, children, one}
use Rattle.snap_ast.specs.Lawful.{Follow, Spans}
use Rattle.snap_ast.specs.Worked.{chain, node_of}
use Rattle.snap_ast.specs.declared.form.Form.{Form}
use Rattle.snap_ast.specs.declared.form.Form.TheVariants as f
use Rattle.snap_ast.specs.declared.operator.UnaryOperator.TheVariants.{Not}
use Rattle.snap_ast.specs.declared.tree.TreeNode.{TreeNode}

-- nodes with these forms stand in a table from a number on
abbrev pub Holds : List TreeNode → ℕ → List Form → Type 0
Holds nodes at [] = Unit {0}
Holds nodes at (form ∷ forms) = (slice_get nodes at ≡ Some (node_of form)) × Holds nodes (suc at) forms

pub holds_behind : (nodes before : List TreeNode) (at : ℕ) (forms : List Form) → nodes ≡ before ++ map node_of forms → at ≡ length before → Holds nodes at forms
holds_behind nodes before at [] e is = tt
holds_behind nodes before at (form ∷ forms) e is =
    let got : slice_get nodes at ≡ Some (node_of form) = ap (λ list. slice_get list at) e ∙ ap (slice_get (before ++ node_of form ∷ map node_of forms)) is ∙ get_seam before (node_of form) (map node_of forms) in
    let len = length-append before (node_of form ∷ []) in
    (got, holds_behind nodes (before ++ node_of form ∷ []) (suc at) forms (e ∙ sym (append_assoc before (node_of form ∷ []) (map node_of forms))) (omega (arith, is, len)))

pub chain_fits : (nodes : List TreeNode) (levels operators number : ℕ) → Holds nodes number (chain operators number) → operators < levels → Spans nodes levels (one AnyExpression number) (number + suc operators)
chain_fits nodes zero operators number holds less = absurd (omega (arith, less))
chain_fits nodes (suc levels) zero number holds less = (node_of f.Null, holds.0, refl, tt, omega arith)
chain_fits nodes (suc levels) (suc operators) number holds less =
    let below = chain_fits nodes levels operators (suc number) holds.1 (omega (arith, less)) in
    (node_of (f.Unary Not (suc number)), holds.0, refl, tt, (refl, suc number + suc operators, below, omega arith))

pub chain_high : (nodes : List TreeNode) (levels operators number : ℕ) (end : ℕ) → Holds nodes number (chain operators number) → levels ≤ operators → Spans nodes levels (one AnyExpression number) end → ⊥
chain_high nodes zero operators number end holds le span = absurd span
chain_high nodes (suc levels) zero number end holds le span = absurd (omega (arith, le))
chain_high nodes (suc levels) (suc operators) number end holds le (node, got, may, words, follow) =
    let below = subst (λ (node : TreeNode). Follow (Spans nodes levels) (children node.form) (suc number) end) (same_node nodes number node (node_of (f.Unary Not (suc number))) got holds.0) follow in
    chain_high nodes levels operators (suc number) below.1 holds.1 (omega (arith, le)) below.2

-- the same in a statement
pub statement_high : (nodes : List TreeNode) (levels operators : ℕ) (end : ℕ) → slice_get nodes 0 ≡ Some (node_of (f.Expression 1)) → Holds nodes 1 (chain operators 1) → levels ≤ operators → Spans nodes (suc levels) (one AnyStatement 0) end → ⊥
statement_high nodes levels operators end is holds le (node, got, may, words, follow) =
    let below = subst (λ (node : TreeNode). Follow (Spans nodes levels) (children node.form) 1 end) (same_node nodes 0 node (node_of (f.Expression 1)) got is) follow in
    chain_high nodes levels operators 1 below.1 holds le below.2

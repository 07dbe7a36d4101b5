-- Worked trees.
use Rattle.std.specs.Prelude.{ℕ, zero, suc, List, [], ◌∷◌, map, codes, None}
use Rattle.snap_ast.specs.Lawful.{Lawful}
use Rattle.snap_ast.specs.declared.form.Form.{Form}
use Rattle.snap_ast.specs.declared.form.Form.TheVariants as f
use Rattle.snap_ast.specs.declared.operator.UnaryOperator.TheVariants.{Not}
use Rattle.snap_ast.specs.declared.part.Binding.{Binding}
use Rattle.snap_ast.specs.declared.tree.Tree.{Tree}
use Rattle.snap_ast.specs.declared.tree.TreeNode.{TreeNode}

-- a, without a value
abbrev pub binding_a : Binding
binding_a = record { name = record { name = codes "a"; at = 0 }; value = None }

abbrev pub node_of : Form → TreeNode
node_of form = record { form = form; at = 0 }

-- the forms of the nodes, and the statements of the script
abbrev pub tree_with : List Form → List ℕ → Tree
tree_with forms top = record { nodes = map node_of forms; top = top }

abbrev pub IsUnlawful : List Form → List ℕ → Type 0
IsUnlawful forms top = Lawful (tree_with forms top) → ⊥

-- null behind so many operators, the first of which is the node of a number
abbrev pub chain : ℕ → ℕ → List Form
chain zero number = f.Null ∷ []
chain (suc operators) number = f.Unary Not (suc number) ∷ chain operators (suc number)

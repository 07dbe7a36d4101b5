-- Tables of nodes.
use Rattle.std.proofs.Common.{◌≡◌, ℕ, List, [], ◌∷◌, ◌++◌, length, refl}
use Rattle.std.specs.Prelude.{Some, slice_get}
use Rattle.snap_ast.specs.declared.tree.TreeNode.{TreeNode}

pub same_node : (nodes : List TreeNode) (number : ℕ) (node other : TreeNode) → slice_get nodes number ≡ Some node → slice_get nodes number ≡ Some other → node ≡ other
same_node nodes number node other e d = cc

pub get_seam : (before : List TreeNode) (node : TreeNode) (behind : List TreeNode) → slice_get (before ++ node ∷ behind) (length before) ≡ Some node
get_seam [] node behind = refl
get_seam (first ∷ before) node behind = get_seam before node behind

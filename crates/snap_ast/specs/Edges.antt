-- A node of a lawful tree and its children.
use Rattle.std.specs.Prelude.{◌≡◌, ℕ, ◌<◌, true, List, [], ◌∷◌, map, slice_get, Some, ◌⊎◌}
use Rattle.snap_ast.specs.declared.tree.Tree.{Tree}
use Rattle.snap_ast.specs.declared.tree.TreeNode.{TreeNode}
use Rattle.snap_ast.specs.Children.{Child, children, statement}
use Rattle.snap_ast.specs.Lawful.{HasWords, may_be, rank}
use Rattle.snap_ast.specs.Words.{Each}

-- a child has a node, which is what it may be
abbrev pub HasNode : List TreeNode → Child → Type 0
HasNode nodes child = (node : TreeNode) × (slice_get nodes child.number ≡ Some node) × (may_be child.class (rank node.form) ≡ true)

-- a child stands behind its parent
abbrev pub IsChild : List TreeNode → ℕ → Child → Type 0
IsChild nodes parent child = (parent < child.number) × HasNode nodes child

-- the words of a node are such as a source has, and its children are what they may be
abbrev pub IsLawfulNode : List TreeNode → ℕ → TreeNode → Type 0
IsLawfulNode nodes number node = HasWords node.form × Each (IsChild nodes number) (children node.form)

-- one of the children has the number
abbrev pub IsAmong : ℕ → List Child → Type 0
IsAmong number [] = ⊥
IsAmong number (child ∷ rest) = (number ≡ child.number) ⊎ IsAmong number rest

-- the statement of a script with the number
abbrev pub IsTop : Tree → ℕ → Type 0
IsTop tree number = IsAmong number (map statement tree.top)

-- a node has a child with the number
abbrev pub IsParent : List TreeNode → ℕ → ℕ → Type 0
IsParent nodes parent number = (node : TreeNode) × (slice_get nodes parent ≡ Some node) × IsAmong number (children node.form)

-- a node is the child of one that stands before it
abbrev pub HasParent : List TreeNode → ℕ → Type 0
HasParent nodes number = (parent : ℕ) × (parent < number) × IsParent nodes parent number

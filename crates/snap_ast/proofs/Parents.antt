-- The nodes of a lawful tree are lawful, and each that is no statement of the script has one parent.
use Rattle.std.proofs.Common.{◌≡◌, ℕ, zero, suc, ◌≤◌, ◌<◌, ◌⊎◌, inl, inr, List, [], ◌∷◌, length, map, subst, arith}
use Rattle.std.specs.Prelude.{Some, slice_get}
use Rattle.std.proofs.lemmas.Option.{slice_get_within}
use Rattle.snap_ast.proofs.Extents.{Extent, among_bounds, each_child, ends_before, extent_in, extent_through, le_or_lt, span_grows}
use Rattle.snap_ast.proofs.Tables.{same_node}
use Rattle.snap_ast.specs.Children.{Child, children, statement}
use Rattle.snap_ast.specs.Edges.{HasParent, IsAmong, IsLawfulNode, IsParent, IsTop}
use Rattle.snap_ast.specs.Lawful.{Follow, Lawful, Spans, most_levels}
use Rattle.snap_ast.specs.declared.tree.Tree.{Tree}
use Rattle.snap_ast.specs.declared.tree.TreeNode.{TreeNode}

-- a node of a lawful tree
tree_extent : (tree : Tree) (number : ℕ) → Lawful tree → number < length tree.nodes → Extent tree.nodes number (length tree.nodes)
tree_extent tree number lawful less =
    extent_through (Spans tree.nodes most_levels) (span_grows tree.nodes most_levels) tree.nodes (extent_in tree.nodes most_levels) (map statement tree.top) 0 (length tree.nodes) number lawful (omega arith) less

pub node_is_lawful : (tree : Tree) (number : ℕ) (node : TreeNode) → Lawful tree → slice_get tree.nodes number ≡ Some node → IsLawfulNode tree.nodes number node
node_is_lawful tree number node lawful is =
    let extent = tree_extent tree number lawful (slice_get_within tree.nodes number node is) in
    subst (IsLawfulNode tree.nodes number) (same_node tree.nodes number extent.node node extent.is is)
    (extent.words, each_child tree.nodes extent.levels number (children extent.node.form) (suc number) extent.end extent.follow (omega arith))

-- ---- there is a parent

behind_first : (nodes : List TreeNode) (number : ℕ) (child : Child) (list : List Child) → IsAmong number list ⊎ HasParent nodes number → IsAmong number (child ∷ list) ⊎ HasParent nodes number
behind_first nodes number child list (inl among) = inl (inr among)
behind_first nodes number child list (inr found) = inr found

module _ (nodes : List TreeNode) (P : Child → ℕ → Type 0) (below : (child : Child) (end number : ℕ) → P child end → child.number < number → number < end → HasParent nodes number) where
  -- a node is one of the children, or stands below one
  among_or_below : (list : List Child) (from to number : ℕ) → Follow P list from to → from ≤ number → number < to → IsAmong number list ⊎ HasParent nodes number
  among_or_below [] from to number follow low high = absurd (omega (arith, follow, low, high))
  among_or_below (child ∷ list) from to number (is, end, span, follow) low high =
      elim (le_or_lt end number) [
        | inl behind ↦ behind_first nodes number child list (among_or_below list end to number follow behind high)
        | inr before ↦
            elim (le_or_lt (suc child.number) number) [
              | inl under ↦ inr (below child end number span under before)
              | inr same ↦ inl (inl (omega (arith, is, low, same)))
            ]
      ]

parent_in : (nodes : List TreeNode) (levels : ℕ) (child : Child) (end number : ℕ) → Spans nodes levels child end → child.number < number → number < end → HasParent nodes number
parent_in nodes zero child end number span low high = absurd span
parent_in nodes (suc levels) child end number (node, is, may, words, follow) low high =
    elim (among_or_below nodes (Spans nodes levels) (parent_in nodes levels) (children node.form) (suc child.number) end number follow low high) [
      | inl among ↦ (child.number, low, (node, is, among))
      | inr found ↦ found
    ]

pub top_or_child : (tree : Tree) (number : ℕ) → Lawful tree → number < length tree.nodes → IsTop tree number ⊎ HasParent tree.nodes number
top_or_child tree number lawful less =
    among_or_below tree.nodes (Spans tree.nodes most_levels) (parent_in tree.nodes most_levels) (map statement tree.top) 0 (length tree.nodes) number lawful (omega arith) less

-- ---- and no other

-- the children of a node stand within its extent
within_extent : {nodes : List TreeNode} {parent limit : ℕ} (number : ℕ) (extent : Extent nodes parent limit) → IsParent nodes parent number → (parent < number) × (number < limit)
within_extent {nodes} {parent} {limit} number extent (node, is, among) =
    let mine = subst (λ node. IsAmong number (children node.form)) (same_node nodes parent node extent.node is extent.is) among in
    let bounds = among_bounds (Spans nodes extent.levels) (span_grows nodes extent.levels) (children extent.node.form) (suc parent) extent.end number extent.follow mine in
    (omega (arith, bounds.0), omega (arith, bounds.1, extent.within))

parent_within : (tree : Tree) (parent number : ℕ) → Lawful tree → IsParent tree.nodes parent number → Extent tree.nodes parent (length tree.nodes) × (parent < number)
parent_within tree parent number lawful is_parent =
    let extent = tree_extent tree parent lawful (slice_get_within tree.nodes parent is_parent.0 is_parent.1) in
    (extent, (within_extent number extent is_parent).0)

pub no_parent : (tree : Tree) (parent number : ℕ) → Lawful tree → IsTop tree number → IsParent tree.nodes parent number → ⊥
no_parent tree parent number lawful top is_parent =
    let less = (parent_within tree parent number lawful is_parent).1 in
    let extent = ends_before (Spans tree.nodes most_levels) (span_grows tree.nodes most_levels) tree.nodes (extent_in tree.nodes most_levels) (map statement tree.top) 0 (length tree.nodes) parent number lawful (omega arith) less top in
    let within = within_extent number extent is_parent in
    omega (arith, within.1)

-- a node with the same child does not stand behind another
not_behind : (tree : Tree) (parent other number : ℕ) → Lawful tree → IsParent tree.nodes parent number → IsParent tree.nodes other number → parent < other → ⊥
not_behind tree parent other number lawful is_parent is_other behind =
    let extent = (parent_within tree parent number lawful is_parent).0 in
    let less = (parent_within tree other number lawful is_other).1 in
    let among = subst (λ node. IsAmong number (children node.form)) (same_node tree.nodes parent is_parent.0 extent.node is_parent.1 extent.is) is_parent.2 in
    let inner = ends_before (Spans tree.nodes extent.levels) (span_grows tree.nodes extent.levels) tree.nodes (extent_in tree.nodes extent.levels) (children extent.node.form) (suc parent) extent.end other number extent.follow behind less among in
    let within = within_extent number inner is_other in
    omega (arith, within.1)

pub one_parent : (tree : Tree) (parent other number : ℕ) → Lawful tree → IsParent tree.nodes parent number → IsParent tree.nodes other number → parent ≡ other
one_parent tree parent other number lawful is_parent is_other =
    elim (le_or_lt (suc parent) other) [
      | inl behind ↦ absurd (not_behind tree parent other number lawful is_parent is_other behind)
      | inr before ↦ elim (le_or_lt (suc other) parent) [
        | inl less ↦ absurd (not_behind tree other parent number lawful is_other is_parent less)
        | inr more ↦ omega (arith, before, more)
      ]
    ]

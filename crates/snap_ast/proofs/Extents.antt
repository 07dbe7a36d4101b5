-- Where the nodes below a node of a lawful tree stand.
use Rattle.std.proofs.Common.{◌≡◌, ℕ, zero, suc, ◌≤◌, ◌<◌, ◌⊎◌, inl, inr, List, [], ◌∷◌, subst, arith}
use Rattle.std.specs.Prelude.{Some, slice_get}
use Rattle.snap_ast.specs.Children.{Child, children}
use Rattle.snap_ast.specs.Edges.{HasNode, IsAmong, IsChild}
use Rattle.snap_ast.specs.Lawful.{Follow, HasWords, Spans}
use Rattle.snap_ast.specs.Words.{Each}
use Rattle.snap_ast.specs.declared.tree.TreeNode.{TreeNode}

pub le_or_lt : (a b : ℕ) → (a ≤ b) ⊎ (b < a)
le_or_lt zero b = inl (omega arith)
le_or_lt (suc a) zero = inr (omega arith)
le_or_lt (suc a) (suc b) = elim (le_or_lt a b) [ inl h ↦ inl (omega arith) | inr h ↦ inr (omega arith) ]

-- a node, and where what stands below it ends
pub record Extent (nodes : List TreeNode) (number limit : ℕ) : Type 0 where
  pub node : TreeNode
  pub is : slice_get nodes number ≡ Some node
  pub words : HasWords node.form
  pub levels : ℕ
  pub end : ℕ
  pub follow : Follow (Spans nodes levels) (children node.form) (suc number) end
  pub within : end ≤ limit

widen : {nodes : List TreeNode} {number limit more : ℕ} → Extent nodes number limit → limit ≤ more → Extent nodes number more
widen extent le = record { node = extent.node; is = extent.is; words = extent.words; levels = extent.levels; end = extent.end; follow = extent.follow; within = omega (arith, extent.within) }

-- ---- what holds wherever children follow one another, each behind its own number

module _ (P : Child → ℕ → Type 0) (grows : (child : Child) (end : ℕ) → P child end → child.number < end) where
  follow_grows : (list : List Child) (from to : ℕ) → Follow P list from to → from ≤ to
  follow_grows [] from to follow = omega (arith, follow)
  follow_grows (child ∷ list) from to (is, end, span, follow) = omega (arith, is, grows child end span, follow_grows list end to follow)

  pub among_bounds : (list : List Child) (from to number : ℕ) → Follow P list from to → IsAmong number list → (from ≤ number) × (number < to)
  among_bounds [] from to number follow among = absurd among
  among_bounds (child ∷ list) from to number (is, end, span, follow) (inl e) =
      let more = grows child end span in
      let le = follow_grows list end to follow in
      (omega (arith, is, e), omega (arith, e, more, le))
  among_bounds (child ∷ list) from to number (is, end, span, follow) (inr among) =
      let bounds = among_bounds list end to number follow among in
      (omega (arith, is, grows child end span, bounds.0), bounds.1)

  module _ (nodes : List TreeNode) (extent_in : (child : Child) (end number : ℕ) → P child end → child.number ≤ number → number < end → Extent nodes number end) where
    pub extent_through : (list : List Child) (from to number : ℕ) → Follow P list from to → from ≤ number → number < to → Extent nodes number to
    extent_through [] from to number follow low high = absurd (omega (arith, follow, low, high))
    extent_through (child ∷ list) from to number (is, end, span, follow) low high =
        elim (le_or_lt end number) [
          | inl behind ↦ extent_through list end to number follow behind high
          | inr before ↦ widen (extent_in child end number span (omega (arith, is, low)) before) (follow_grows list end to follow)
        ]

    -- what stands below a node ends before the next child
    pub ends_before : (list : List Child) (from to number next : ℕ) → Follow P list from to → from ≤ number → number < next → IsAmong next list → Extent nodes number next
    ends_before [] from to number next follow low less among = absurd among
    ends_before (child ∷ list) from to number next (is, end, span, follow) low less (inl e) = absurd (omega (arith, is, e, low, less))
    ends_before (child ∷ list) from to number next (is, end, span, follow) low less (inr among) =
        elim (le_or_lt end number) [
          | inl behind ↦ ends_before list end to number next follow behind less among
          | inr before ↦ widen (extent_in child end number span (omega (arith, is, low)) before) (among_bounds list end to next follow among).0
        ]

-- ---- the nodes of a table

module _ (nodes : List TreeNode) where
  pub span_grows : (levels : ℕ) (child : Child) (end : ℕ) → Spans nodes levels child end → child.number < end
  span_grows zero child end span = absurd span
  span_grows (suc levels) child end (node, is, may, words, follow) = follow_grows (Spans nodes levels) (span_grows levels) (children node.form) (suc child.number) end follow

  pub extent_in : (levels : ℕ) (child : Child) (end number : ℕ) → Spans nodes levels child end → child.number ≤ number → number < end → Extent nodes number end
  extent_in zero child end number span low high = absurd span
  extent_in (suc levels) child end number (node, is, may, words, follow) low high =
      elim (le_or_lt (suc child.number) number) [
        | inl below ↦ extent_through (Spans nodes levels) (span_grows levels) nodes (extent_in levels) (children node.form) (suc child.number) end number follow below high
        | inr same ↦ (
            let e : child.number ≡ number = omega (arith, low, same) in
            subst (λ n. Extent nodes n end) e (record { node = node; is = is; words = words; levels = levels; end = end; follow = follow; within = omega arith }))
      ]

  pub has_node : (levels : ℕ) (child : Child) (end : ℕ) → Spans nodes levels child end → HasNode nodes child
  has_node zero child end span = absurd span
  has_node (suc levels) child end (node, is, may, words, follow) = (node, is, may)

  pub each_child : (levels parent : ℕ) (list : List Child) (from to : ℕ) → Follow (Spans nodes levels) list from to → parent < from → Each (IsChild nodes parent) list
  each_child levels parent [] from to follow less = tt
  each_child levels parent (child ∷ list) from to (is, end, span, follow) less =
      ((omega (arith, is, less), has_node levels child end span), each_child levels parent list end to follow (omega (arith, is, less, span_grows levels child end span)))

  pub each_has_node : (levels : ℕ) (list : List Child) (from to : ℕ) → Follow (Spans nodes levels) list from to → Each (HasNode nodes) list
  each_has_node levels [] from to follow = tt
  each_has_node levels (child ∷ list) from to (is, end, span, follow) = (has_node levels child end span, each_has_node levels list end to follow)

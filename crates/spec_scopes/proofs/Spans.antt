-- Where the nodes of a lawful tree stand in its table.
use Rattle.std.proofs.Common.{◌≡◌, ℕ, zero, suc, ◌<◌, ◌≤◌, ◌⊎◌, inl, inr, List, [], ◌∷◌, map, sym, subst, ap, ◌∙◌, arith}
use Rattle.std.specs.Prelude.{slice_get, Some}
use Rattle.std.proofs.lemmas.Bool.{cases_lt}
use Rattle.snap_ast.specs.Children.{Child, children}
use Rattle.snap_ast.specs.Lawful.{Follow, Spans}
use Rattle.snap_ast.specs.declared.tree.TreeNode.{TreeNode}
use Rattle.spec_scopes.specs.Round.{IsAmong, numbers}

abbrev pub numbers_of : List Child → List ℕ
numbers_of children = map (λ child. child.number) children

-- a node, with the place where the nodes below it end
pub record Owns (nodes : List TreeNode) (number : ℕ) (node : TreeNode) (end : ℕ) : Type 0 where
  pub levels : ℕ
  pub stands : slice_get nodes number ≡ Some node
  pub fills : Follow (Spans nodes levels) (children node.form) (suc number) end

-- a child of a node, and the node
pub record Parent (nodes : List TreeNode) (number : ℕ) : Type 0 where
  pub parent : ℕ
  pub node : TreeNode
  pub end : ℕ
  pub owns : Owns nodes parent node end
  pub among : IsAmong (numbers node.form) number
  pub before : parent < number

-- what spans stands from its number to a later place
abbrev Grows : (Child → ℕ → Type 0) → Type 0
Grows P = (child : Child) (end : ℕ) → P child end → child.number < end

follow_grows : (P : Child → ℕ → Type 0) → Grows P → (list : List Child) (from to : ℕ) → Follow P list from to → from ≤ to
follow_grows P grows [] from to h = omega arith
follow_grows P grows (child ∷ rest) from to h =
    let one : child.number < h.1 = grows child h.1 h.2 in
    let more : h.1 ≤ to = follow_grows P grows rest h.1 to h.3 in
    let at : child.number ≡ from = h.0 in
    omega arith

spans_grow : (nodes : List TreeNode) (levels : ℕ) → Grows (Spans nodes levels)
spans_grow nodes zero child end h = absurd h
spans_grow nodes (suc levels) child end h =
    let more : suc child.number ≤ end = follow_grows (Spans nodes levels) (spans_grow nodes levels) (children h.0.form) (suc child.number) end h.4 in
    omega arith

-- the numbers of children lie from where the first begins to where the last ends
from_first : (P : Child → ℕ → Type 0) → Grows P → (list : List Child) (from to number place : ℕ) → Follow P list from to → slice_get (numbers_of list) place ≡ Some number → (from ≤ number) × (number < to)
from_first P grows [] from to number place h e = absurd cc
from_first P grows (child ∷ rest) from to number zero h e =
    let one : child.number < h.1 = grows child h.1 h.2 in
    let more : h.1 ≤ to = follow_grows P grows rest h.1 to h.3 in
    let at : child.number ≡ from = h.0 in
    let is : child.number ≡ number = cc in
    (omega arith, omega arith)
from_first P grows (child ∷ rest) from to number (suc place) h e =
    let one : child.number < h.1 = grows child h.1 h.2 in
    let at : child.number ≡ from = h.0 in
    let more : (h.1 ≤ number) × (number < to) = from_first P grows rest h.1 to number place h.3 e in
    (omega arith, omega arith)

abbrev Same : (Child → ℕ → Type 0) → (Child → ℕ → Type 0) → Type 0
Same P Q = (child : Child) (end other : ℕ) → P child end → Q child other → end ≡ other

follow_same : (P Q : Child → ℕ → Type 0) → Same P Q → (list : List Child) (from to other : ℕ) → Follow P list from to → Follow Q list from other → to ≡ other
follow_same P Q same [] from to other h k = sym h ∙ k
follow_same P Q same (child ∷ rest) from to other h k =
    let ends : h.1 ≡ k.1 = same child h.1 k.1 h.2 k.2 in
    follow_same P Q same rest h.1 to other h.3 (subst (λ (end : ℕ). Follow Q rest end other) (sym ends) k.3)

-- one node stands at a number
pub one_node : (nodes : List TreeNode) (number : ℕ) (node other : TreeNode) → slice_get nodes number ≡ Some node → slice_get nodes number ≡ Some other → node ≡ other
one_node nodes number node other e d = cc

spans_same : (nodes : List TreeNode) (levels others : ℕ) → Same (Spans nodes levels) (Spans nodes others)
spans_same nodes zero others child end other h k = absurd h
spans_same nodes (suc levels) zero child end other h k = absurd k
spans_same nodes (suc levels) (suc others) child end other h k =
    let same : k.0 ≡ h.0 = one_node nodes child.number k.0 h.0 k.1 h.1 in
    follow_same (Spans nodes levels) (Spans nodes others) (spans_same nodes levels others) (children h.0.form) (suc child.number) end other h.4
    (subst (λ (node : TreeNode). Follow (Spans nodes others) (children node.form) (suc child.number) other) same k.4)

-- the nodes below a node end where it is said, however that is known
pub owns_same : (nodes : List TreeNode) (number : ℕ) (node other : TreeNode) (end last : ℕ) → Owns nodes number node end → Owns nodes number other last → end ≡ last
owns_same nodes number node other end last h k =
    let same : other ≡ node = one_node nodes number other node k.stands h.stands in
    follow_same (Spans nodes h.levels) (Spans nodes k.levels) (spans_same nodes h.levels k.levels) (children node.form) (suc number) end last h.fills
    (subst (λ (node : TreeNode). Follow (Spans nodes k.levels) (children node.form) (suc number) last) same k.fills)

-- what begins in a span ends in it
abbrev Holds : List TreeNode → (Child → ℕ → Type 0) → Type 0
Holds nodes P = (child : Child) (end : ℕ) → P child end → (number : ℕ) (node : TreeNode) (last : ℕ) → Owns nodes number node last → child.number ≤ number → number < end → last ≤ end

follow_hold : (nodes : List TreeNode) (P : Child → ℕ → Type 0) → Grows P → Holds nodes P → (list : List Child) (from to : ℕ) → Follow P list from to → (number : ℕ) (node : TreeNode) (last : ℕ) → Owns nodes number node last → from ≤ number → number < to → last ≤ to
follow_hold nodes P grows holds [] from to h number node last owns low high = absurd (omega arith)
follow_hold nodes P grows holds (child ∷ rest) from to h number node last owns low high =
    let more : h.1 ≤ to = follow_grows P grows rest h.1 to h.3 in
    let at : child.number ≡ from = h.0 in
    elim (cases_lt number h.1) [
      | inl within ↦ (let inner : last ≤ h.1 = holds child h.1 h.2 number node last owns (omega arith) within in omega arith)
      | inr behind ↦ follow_hold nodes P grows holds rest h.1 to h.3 number node last owns behind high
    ]

spans_hold : (nodes : List TreeNode) (levels : ℕ) → Holds nodes (Spans nodes levels)
spans_hold nodes zero child end h number node last owns low high = absurd h
spans_hold nodes (suc levels) child end h number node last owns low high =
    elim (cases_lt child.number number) [
      | inl behind ↦ follow_hold nodes (Spans nodes levels) (spans_grow nodes levels) (spans_hold nodes levels) (children h.0.form) (suc child.number) end h.4 number node last owns (omega arith) high
      | inr not_behind ↦ (let here : number ≡ child.number = omega arith in
          let own : Owns nodes child.number h.0 end = record { levels = levels; stands = h.1; fills = h.4 } in
          let ends : last ≡ end = owns_same nodes child.number node h.0 last end (subst (λ (n : ℕ). Owns nodes n node last) here owns) own in
          omega arith)
    ]

-- what begins before a child of a list ends before it
ends_before : (nodes : List TreeNode) (P : Child → ℕ → Type 0) → Grows P → Holds nodes P → (list : List Child) (from to number place : ℕ) → Follow P list from to → slice_get (numbers_of list) place ≡ Some number → (earlier : ℕ) (node : TreeNode) (last : ℕ) → Owns nodes earlier node last → from ≤ earlier → earlier < number → last ≤ number
ends_before nodes P grows holds [] from to number place h e earlier node last owns low high = absurd cc
ends_before nodes P grows holds (child ∷ rest) from to number zero h e earlier node last owns low high =
    let at : child.number ≡ from = h.0 in
    let is : child.number ≡ number = cc in
    absurd (omega arith)
ends_before nodes P grows holds (child ∷ rest) from to number (suc place) h e earlier node last owns low high =
    let at : child.number ≡ from = h.0 in
    let more : (h.1 ≤ number) × (number < to) = from_first P grows rest h.1 to number place h.3 e in
    elim (cases_lt earlier h.1) [
      | inl within ↦ (let inner : last ≤ h.1 = holds child h.1 h.2 earlier node last owns (omega arith) within in omega arith)
      | inr behind ↦ ends_before nodes P grows holds rest h.1 to number place h.3 e earlier node last owns behind high
    ]

-- a child of a list does not stand below an earlier node of the list
pub not_below : (nodes : List TreeNode) (levels : ℕ) (list : List Child) (from to number place : ℕ) → Follow (Spans nodes levels) list from to → slice_get (numbers_of list) place ≡ Some number → (earlier : ℕ) (node : TreeNode) (last : ℕ) → Owns nodes earlier node last → from ≤ earlier → IsAmong (numbers node.form) number → ⊥
not_below nodes levels list from to number place h e earlier node last owns low among =
    let below : (suc earlier ≤ number) × (number < last) = from_first (Spans nodes owns.levels) (spans_grow nodes owns.levels) (children node.form) (suc earlier) last number among.0 owns.fills among.1 in
    let ends : last ≤ number = ends_before nodes (Spans nodes levels) (spans_grow nodes levels) (spans_hold nodes levels) list from to number place h e earlier node last owns low (omega arith) in
    omega arith

-- a child of a node stands behind it
pub behind_parent : (nodes : List TreeNode) (parent number end : ℕ) (node : TreeNode) → Owns nodes parent node end → IsAmong (numbers node.form) number → (suc parent ≤ number) × (number < end)
behind_parent nodes parent number end node owns among = from_first (Spans nodes owns.levels) (spans_grow nodes owns.levels) (children node.form) (suc parent) end number among.0 owns.fills among.1

-- the numbers of a list lie in what its spans fill
pub in_list : (nodes : List TreeNode) (levels : ℕ) (list : List Child) (from to number place : ℕ) → Follow (Spans nodes levels) list from to → slice_get (numbers_of list) place ≡ Some number → (from ≤ number) × (number < to)
in_list nodes levels list from to number place h e = from_first (Spans nodes levels) (spans_grow nodes levels) list from to number place h e

-- what begins in the spans of a list ends there
pub ends_in_list : (nodes : List TreeNode) (levels : ℕ) (list : List Child) (from to : ℕ) → Follow (Spans nodes levels) list from to → (number : ℕ) (node : TreeNode) (last : ℕ) → Owns nodes number node last → from ≤ number → number < to → last ≤ to
ends_in_list nodes levels list from to h number node last owns low high = follow_hold nodes (Spans nodes levels) (spans_grow nodes levels) (spans_hold nodes levels) list from to h number node last owns low high

-- the span of a number of a list
pub spanned : (P : Child → ℕ → Type 0) (list : List Child) (from to number place : ℕ) → Follow P list from to → slice_get (numbers_of list) place ≡ Some number → (child : Child) × (end : ℕ) × P child end × (child.number ≡ number)
spanned P [] from to number place h e = absurd cc
spanned P (child ∷ rest) from to number zero h e = (child, h.1, h.2, cc)
spanned P (child ∷ rest) from to number (suc place) h e = spanned P rest h.1 to number place h.3 e

-- ---- every place of the table

abbrev pub HasOwner : List TreeNode → ℕ → Type 0
HasOwner nodes number = (node : TreeNode) × (end : ℕ) × Owns nodes number node end

abbrev Locates : List TreeNode → (Child → ℕ → Type 0) → Type 0
Locates nodes P = (child : Child) (end : ℕ) → P child end → (number : ℕ) → child.number ≤ number → number < end → HasOwner nodes number

follow_locates : (nodes : List TreeNode) (P : Child → ℕ → Type 0) → Locates nodes P → (list : List Child) (from to : ℕ) → Follow P list from to → (number : ℕ) → from ≤ number → number < to → HasOwner nodes number
follow_locates nodes P locates [] from to h number low high = absurd (omega arith)
follow_locates nodes P locates (child ∷ rest) from to h number low high =
    let at : child.number ≡ from = h.0 in
    elim (cases_lt number h.1) [
      | inl within ↦ locates child h.1 h.2 number (omega arith) within
      | inr behind ↦ follow_locates nodes P locates rest h.1 to h.3 number behind high
    ]

spans_locate : (nodes : List TreeNode) (levels : ℕ) → Locates nodes (Spans nodes levels)
spans_locate nodes zero child end h number low high = absurd h
spans_locate nodes (suc levels) child end h number low high =
    elim (cases_lt child.number number) [
      | inl behind ↦ follow_locates nodes (Spans nodes levels) (spans_locate nodes levels) (children h.0.form) (suc child.number) end h.4 number (omega arith) high
      | inr not_behind ↦ (let here : child.number ≡ number = omega arith in
          let own : Owns nodes child.number h.0 end = record { levels = levels; stands = h.1; fills = h.4 } in
          (h.0, end, subst (λ (n : ℕ). Owns nodes n h.0 end) here own))
    ]

-- the node that stands at a place of a list's spans
pub owner : (nodes : List TreeNode) (levels : ℕ) (list : List Child) (from to number : ℕ) → Follow (Spans nodes levels) list from to → from ≤ number → number < to → HasOwner nodes number
owner nodes levels list from to number h low high = follow_locates nodes (Spans nodes levels) (spans_locate nodes levels) list from to h number low high

-- ---- every node but those of the list has a parent

abbrev FindsParents : List TreeNode → (Child → ℕ → Type 0) → Type 0
FindsParents nodes P = (child : Child) (end : ℕ) → P child end → (number : ℕ) → child.number < number → number < end → Parent nodes number

follow_finds : (nodes : List TreeNode) (P : Child → ℕ → Type 0) → FindsParents nodes P → (list : List Child) (from to : ℕ) → Follow P list from to → (number : ℕ) → from ≤ number → number < to → IsAmong (numbers_of list) number ⊎ Parent nodes number
follow_finds nodes P finds [] from to h number low high = absurd (omega arith)
follow_finds nodes P finds (child ∷ rest) from to h number low high =
    let at : child.number ≡ from = h.0 in
    elim (cases_lt number h.1) [
      | inl within ↦ elim (cases_lt child.number number) [
        | inl behind ↦ inr (finds child h.1 h.2 number behind within)
        | inr not_behind ↦ (let here : child.number ≡ number = omega arith in inl (zero, ap Some here))
      ]
      | inr behind ↦ elim (follow_finds nodes P finds rest h.1 to h.3 number behind high) [
        | inl among ↦ inl (suc among.0, among.1)
        | inr parent ↦ inr parent
      ]
    ]

spans_find : (nodes : List TreeNode) (levels : ℕ) → FindsParents nodes (Spans nodes levels)
spans_find nodes zero child end h number low high = absurd h
spans_find nodes (suc levels) child end h number low high =
    elim (follow_finds nodes (Spans nodes levels) (spans_find nodes levels) (children h.0.form) (suc child.number) end h.4 number (omega arith) high) [
      | inl among ↦ record { parent = child.number; node = h.0; end = end; owns = record { levels = levels; stands = h.1; fills = h.4 }; among = among; before = low }
      | inr parent ↦ parent
    ]

pub parent_of : (nodes : List TreeNode) (levels : ℕ) (list : List Child) (from to number : ℕ) → Follow (Spans nodes levels) list from to → from ≤ number → number < to → IsAmong (numbers_of list) number ⊎ Parent nodes number
parent_of nodes levels list from to number h low high = follow_finds nodes (Spans nodes levels) (spans_find nodes levels) list from to h number low high

-- Each node of a lawful tree has one list of nodes round it.
use Rattle.std.proofs.Common.{◌≡◌, ℕ, zero, suc, ◌+◌, ◌<◌, ◌≤◌, inl, inr, List, [], ◌∷◌, map, length, refl, sym, subst, ap, arith}
use Rattle.std.specs.Prelude.{slice_get, Some}
use Rattle.std.proofs.lemmas.Bool.{cases_lt}
use Rattle.std.proofs.lemmas.Option.{slice_get_within}
use Rattle.snap_ast.specs.Children.{Child, children, statement}
use Rattle.snap_ast.specs.Lawful.{Follow, Lawful, Spans, most_levels}
use Rattle.snap_ast.specs.declared.tree.Tree.{Tree}
use Rattle.snap_ast.specs.declared.tree.TreeNode.{TreeNode}
use Rattle.spec_scopes.specs.Round.{IsAmong, Stands, AtTop, Within, Step, numbers, step}
use Rattle.spec_scopes.proofs.Spans.{Owns, HasOwner, numbers_of, one_node, not_below, owner, parent_of, behind_parent, in_list, ends_in_list, spanned}

statement_numbers : (top : List ℕ) → numbers_of (map statement top) ≡ top
statement_numbers [] = refl
statement_numbers (number ∷ top) = ap (λ (rest : List ℕ). number ∷ rest) (statement_numbers top)

-- the node at a number, with its end
own : (tree : Tree) → Lawful tree → (number : ℕ) (node : TreeNode) → slice_get tree.nodes number ≡ Some node → (end : ℕ) × Owns tree.nodes number node end
own tree lawful number node e =
    let has : HasOwner tree.nodes number = owner tree.nodes most_levels (map statement tree.top) 0 (length tree.nodes) number lawful (omega arith) (slice_get_within tree.nodes number node e) in
    let same : has.0 ≡ node = one_node tree.nodes number has.0 node has.2.stands e in
    (has.1, subst (λ (node : TreeNode). Owns tree.nodes number node has.1) same has.2)

-- a node has one parent
pub one_parent : (tree : Tree) → Lawful tree → (number parent other : ℕ) (node another : TreeNode) → slice_get tree.nodes parent ≡ Some node → IsAmong (numbers node.form) number → slice_get tree.nodes other ≡ Some another → IsAmong (numbers another.form) number → parent ≡ other
one_parent tree lawful number parent other node another e among d besides =
    let first = own tree lawful parent node e in
    let second = own tree lawful other another d in
    elim (cases_lt parent other) [
      | inl less ↦ absurd (not_below tree.nodes first.1.levels (children node.form) (suc parent) first.0 number among.0 first.1.fills among.1 other another second.0 second.1 (omega arith) besides)
      | inr not_less ↦ elim (cases_lt other parent) [
        | inl less ↦ absurd (not_below tree.nodes second.1.levels (children another.form) (suc other) second.0 number besides.0 second.1.fills besides.1 parent node first.0 first.1 (omega arith) among)
        | inr not_more ↦ omega arith
      ]
    ]

-- a statement of the script has no parent
pub no_parent : (tree : Tree) → Lawful tree → (number parent : ℕ) (node : TreeNode) → IsAmong tree.top number → slice_get tree.nodes parent ≡ Some node → IsAmong (numbers node.form) number → ⊥
no_parent tree lawful number parent node top e among =
    let it = own tree lawful parent node e in
    not_below tree.nodes most_levels (map statement tree.top) 0 (length tree.nodes) number top.0 lawful
    (subst (λ (list : List ℕ). slice_get list top.0 ≡ Some number) (sym (statement_numbers tree.top)) top.1) parent node it.0 it.1 (omega arith) among

joined : (tree : Tree) (number : ℕ) (node other : TreeNode) (steps more : List Step) → node ≡ other → steps ≡ more → step node.form number ∷ steps ≡ step other.form number ∷ more
joined tree number node other steps more e d = cc

one_of_two : (tree : Tree) → Lawful tree → {number : ℕ} {steps others : List Step} → Stands tree number steps → Stands tree number others → steps ≡ others
one_of_two tree lawful (AtTop among) (AtTop besides) = refl
one_of_two tree lawful {number} (AtTop among) (Within {parent = parent} {node = node} stands e besides) = absurd (no_parent tree lawful number parent node among e besides)
one_of_two tree lawful {number} (Within {parent = parent} {node = node} stands e among) (AtTop besides) = absurd (no_parent tree lawful number parent node besides e among)
one_of_two tree lawful {number} (Within {parent = parent} {node = node} {round = round} stands e among) (Within {parent = other} {node = another} {round = more} besides d too) =
    let same : other ≡ parent = one_parent tree lawful number other parent another node d too e among in
    let stays : Stands tree parent more = subst (λ (n : ℕ). Stands tree n more) same besides in
    let rounds : round ≡ more = one_of_two tree lawful stands stays in
    let at : slice_get tree.nodes parent ≡ Some another = subst (λ (n : ℕ). slice_get tree.nodes n ≡ Some another) same d in
    joined tree number node another round more (one_node tree.nodes parent node another e at) rounds

-- a node has one list of nodes round it at most
pub one_round : (tree : Tree) (number : ℕ) (steps others : List Step) → Lawful tree → Stands tree number steps → Stands tree number others → steps ≡ others
one_round tree number steps others lawful stands besides = one_of_two tree lawful stands besides

stands_below : (tree : Tree) → Lawful tree → (most number : ℕ) → number < most → number < length tree.nodes → (steps : List Step) × Stands tree number steps
stands_below tree lawful zero number less below = absurd (omega arith)
stands_below tree lawful (suc most) number less below =
    elim (parent_of tree.nodes most_levels (map statement tree.top) 0 (length tree.nodes) number lawful (omega arith) below) [
      | inl among ↦ ([], AtTop (among.0, subst (λ (list : List ℕ). slice_get list among.0 ≡ Some number) (statement_numbers tree.top) among.1))
      | inr parent ↦ (let before : parent.parent < number = parent.before in
          let outer = stands_below tree lawful most parent.parent (omega arith) (omega arith) in
          (step parent.node.form number ∷ outer.0, Within outer.1 parent.owns.stands parent.among))
    ]

-- each node stands somewhere
pub some_round : (tree : Tree) (number : ℕ) → Lawful tree → number < length tree.nodes → (steps : List Step) × Stands tree number steps
some_round tree number lawful below = stands_below tree lawful (suc number) number (omega arith) below

-- a child stands behind its parent, in the table
pub child_below : (tree : Tree) (parent number : ℕ) (node : TreeNode) → Lawful tree → slice_get tree.nodes parent ≡ Some node → IsAmong (numbers node.form) number → (parent < number) × (number < length tree.nodes)
child_below tree parent number node lawful e among =
    let it = own tree lawful parent node e in
    let here : parent < length tree.nodes = slice_get_within tree.nodes parent node e in
    let within : it.0 ≤ length tree.nodes = ends_in_list tree.nodes most_levels (map statement tree.top) 0 (length tree.nodes) lawful parent node it.0 it.1 (omega arith) here in
    let behind : (suc parent ≤ number) × (number < it.0) = behind_parent tree.nodes parent number it.0 node it.1 among in
    (omega arith, omega arith)

-- a statement of the script stands in the table
pub top_below : (tree : Tree) (number : ℕ) → Lawful tree → IsAmong tree.top number → number < length tree.nodes
top_below tree number lawful among =
    (in_list tree.nodes most_levels (map statement tree.top) 0 (length tree.nodes) number among.0 lawful (subst (λ (list : List ℕ). slice_get list among.0 ≡ Some number) (sym (statement_numbers tree.top)) among.1)).1

-- a node with the levels that are left below it
record Deep (nodes : List TreeNode) (number : ℕ) (steps : List Step) : Type 0 where
  node : TreeNode
  end : ℕ
  levels : ℕ
  stands : slice_get nodes number ≡ Some node
  fills : Follow (Spans nodes levels) (children node.form) (suc number) end
  few : levels + suc (length steps) ≡ most_levels

deep_of : (nodes : List TreeNode) (levels : ℕ) (child : Child) (end number : ℕ) (steps : List Step) → Spans nodes levels child end → child.number ≡ number → levels + length steps ≡ most_levels → Deep nodes number steps
deep_of nodes zero child end number steps h at few = absurd h
deep_of nodes (suc levels) child end number steps h at few =
    subst (λ (n : ℕ). Deep nodes n steps) at (record { node = h.0; end = end; levels = levels; stands = h.1; fills = h.4; few = omega arith })

deep : {tree : Tree} {number : ℕ} {steps : List Step} → Lawful tree → Stands tree number steps → Deep tree.nodes number steps
deep {tree} {number} lawful (AtTop among) =
    let span = spanned (Spans tree.nodes most_levels) (map statement tree.top) 0 (length tree.nodes) number among.0 lawful (subst (λ (list : List ℕ). slice_get list among.0 ≡ Some number) (sym (statement_numbers tree.top)) among.1) in
    deep_of tree.nodes most_levels span.0 span.1 number [] span.2 span.3 (omega arith)
deep {tree} {number} lawful (Within {parent = parent} {node = node} {round = round} stands e among) =
    let outer : Deep tree.nodes parent round = deep lawful stands in
    let same : outer.node ≡ node = one_node tree.nodes parent outer.node node outer.stands e in
    let fills : Follow (Spans tree.nodes outer.levels) (children node.form) (suc parent) outer.end = subst (λ (node : TreeNode). Follow (Spans tree.nodes outer.levels) (children node.form) (suc parent) outer.end) same outer.fills in
    let span = spanned (Spans tree.nodes outer.levels) (children node.form) (suc parent) outer.end number among.0 fills among.1 in
    deep_of tree.nodes outer.levels span.0 span.1 number (step node.form number ∷ round) span.2 span.3 (omega (arith, outer.few))

-- a node has fewer nodes round it than there are levels
pub few_round : (tree : Tree) (number : ℕ) (steps : List Step) → Lawful tree → Stands tree number steps → length steps < most_levels
few_round tree number steps lawful stands = let it : Deep tree.nodes number steps = deep lawful stands in omega (arith, it.few)

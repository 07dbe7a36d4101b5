-- The nodes round a node are those that are computed.
use Rattle.std.proofs.Common.{◌≡◌, ℕ, zero, suc, ◌<◌, inl, inr, Bool, nat_eq, List, [], ◌∷◌, length, refl, sym, ap, ◌∙◌, arith}
use Rattle.std.specs.Prelude.{Option, None, Some}
use Rattle.std.specs.List.{list_any}
use Rattle.std.specs.Option.{option_map_or}
use Rattle.std.proofs.lemmas.Bool.{cases_Bool, eq-eqb, eqb-true}
use Rattle.snap_ast.specs.Lawful.{Lawful, most_levels}
use Rattle.snap_ast.specs.declared.tree.Tree.{Tree}
use Rattle.snap_ast.specs.declared.tree.TreeNode.{TreeNode}
use Rattle.spec_scopes.proofs.Firsts.{any_at, any_passes, first_is, none_is}
use Rattle.spec_scopes.proofs.Standing.{few_round, no_parent, one_parent}
use Rattle.spec_scopes.specs.Round.{AtTop, IsAmong, Stands, Step, Within, numbers, step}
use Rattle.spec_scopes.specs.Told.{as_parent, first_answer, only_if, round_of, round_within}

-- a node that has not the child is not its parent
no_child : (child number : ℕ) (node : TreeNode) → (IsAmong (numbers node.form) child → ⊥) → as_parent child number node ≡ None
no_child child number node apart =
    elim (cases_Bool (list_any (nat_eq child) (numbers node.form))) as (λ _. as_parent child number node ≡ None) [
      | inl found ↦ (let it = any_passes (nat_eq child) (numbers node.form) found in
          let same : child ≡ it.item = eqb-true child it.item it.passes in
          absurd (apart (it.place, it.stands ∙ ap Some (sym same))))
      | inr not_found ↦ ap (λ (b : Bool). only_if b (number, node)) not_found
    ]

-- a node that has the child is
has_child : (child number : ℕ) (node : TreeNode) → IsAmong (numbers node.form) child → as_parent child number node ≡ Some (number, node)
has_child child number node among = ap (λ (b : Bool). only_if b (number, node)) (any_at (nat_eq child) (numbers node.form) among.0 child among.1 (eq-eqb child child refl))

-- the nodes round a node, and one more
abbrev outwards : List TreeNode → ℕ → ℕ → Option (ℕ × TreeNode) → List Step
outwards nodes levels number parent = option_map_or (λ parent. step parent.1.form number ∷ round_within nodes levels parent.0) parent []

within_is : (tree : Tree) → Lawful tree → {number : ℕ} {steps : List Step} → Stands tree number steps → (levels : ℕ) → length steps < levels → round_within tree.nodes levels number ≡ steps
within_is tree lawful (AtTop among) zero few = absurd (omega arith)
within_is tree lawful (Within stands e among) zero few = absurd (omega arith)
within_is tree lawful {number} (AtTop among) (suc levels) few =
    ap (outwards tree.nodes levels number) (none_is (as_parent number) tree.nodes (λ parent node below at. no_child number parent node (λ child. no_parent tree lawful number parent node among at child)))
within_is tree lawful {number} (Within {parent = parent} {node = node} {round = round} stands e among) (suc levels) few =
    let found : first_answer (as_parent number) tree.nodes ≡ Some (parent, node) =
    first_is (as_parent number) tree.nodes parent node e
    (λ earlier other less at. no_child number earlier other (λ child. let same : earlier ≡ parent = one_parent tree lawful number earlier parent other node at child e among in omega arith))
    (parent, node) (has_child number parent node among) in
    ap (outwards tree.nodes levels number) found ∙ ap (λ (outer : List Step). step node.form number ∷ outer) (within_is tree lawful stands levels (omega arith))

pub round_is : (tree : Tree) (number : ℕ) (steps : List Step) → Lawful tree → Stands tree number steps → round_of tree number ≡ steps
round_is tree number steps lawful stands = within_is tree lawful stands most_levels (few_round tree number steps lawful stands)

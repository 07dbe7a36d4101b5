-- A heap of which one node is changed is a heap.
use Rattle.std.proofs.Common.{◌≡◌, ℕ, ◌<◌, ◌≤◌, ◌⊎◌, true, false, zero, suc, List, [], ◌∷◌, take, slice_get, Option, None, Some, refl, sym, ap, subst, ◌∙◌, ⊎_elim, arith}
use Rattle.std.specs.Option.{option_map}
use Rattle.std.proofs.lemmas.Bool.{cases_eq, cases_lt, false≢true}
use Rattle.std.proofs.lemmas.Option.{get_or_from_slice_get, slice_get_cases}
use Rattle.snap_graph.specs.declared.node.Node.{Node}
use Rattle.snap_graph.specs.Intrinsics.{intrinsics}
use Rattle.snap_graph.specs.Lawful.{IsLawful, IsLawfulNode, is_scope}
use Rattle.snap_graph.proofs.Fitting.{fixed_intrinsics, frozen_intrinsics, intrinsic_count, is_fixed}
use Rattle.spec_values.specs.Operations.{changed}
use Rattle.spec_values.proofs.Changes.{all_read, changed_elsewhere, changed_here, changed_same, length-changed, take-changed}
use Rattle.spec_values.proofs.Keeping.{Keeps, node_kept}
use Rattle.spec_values.proofs.Made.{lawful_at}

-- what a change of a node leaves as it was
pub record Alters (change : Node → Node) : Type 0 where
  pub prototype : (node : Node) → (change node).prototype ≡ node.prototype
  pub scope : (node : Node) → is_scope (change node).kind ≡ is_scope node.kind

-- reading a node in front of a place
read_front : (nodes : List Node) (count number : ℕ) (node : Node) → number < count → slice_get nodes number ≡ Some node → slice_get (take count nodes) number ≡ Some node
read_front [] count number node h e = absurd cc
read_front (first ∷ rest) zero number node h e = absurd (omega arith)
read_front (first ∷ rest) (suc count) zero node h e = e
read_front (first ∷ rest) (suc count) (suc number) node h e = read_front rest count number node (omega arith) e

-- an intrinsic is frozen, and is no function of a script, no scope
pub past_frozen : (nodes : List Node) (number : ℕ) (node : Node) → IsLawful nodes → slice_get nodes number ≡ Some node → node.frozen ≡ false → 62 ≤ number
past_frozen nodes number node lawful e f =
    ⊎_elim
    (λ (below : number < 62).
    let there : slice_get intrinsics number ≡ Some node = ap (λ (ns : List Node). slice_get ns number) (sym lawful.intrinsics) ∙ read_front nodes 62 number node below e in
    let frozen = subst (λ (n : Node). n.frozen ≡ true) (get_or_from_slice_get intrinsics number node node there) (frozen_intrinsics number node (omega (arith, intrinsic_count))) in
    absurd (false≢true (sym f ∙ frozen)))
    (λ (past : 62 ≤ number). past)
    (cases_lt number 62)

pub past_fixed : (nodes : List Node) (number : ℕ) (node : Node) → IsLawful nodes → slice_get nodes number ≡ Some node → is_fixed node.kind ≡ false → 62 ≤ number
past_fixed nodes number node lawful e f =
    ⊎_elim
    (λ (below : number < 62).
    let there : slice_get intrinsics number ≡ Some node = ap (λ (ns : List Node). slice_get ns number) (sym lawful.intrinsics) ∙ read_front nodes 62 number node below e in
    let fixed = subst (λ (n : Node). is_fixed n.kind ≡ true) (get_or_from_slice_get intrinsics number node node there) (fixed_intrinsics number node (omega (arith, intrinsic_count))) in
    absurd (false≢true (sym f ∙ fixed)))
    (λ (past : 62 ≤ number). past)
    (cases_lt number 62)

module _ (change : Node → Node) (alters : Alters change) (nodes : List Node) (number : ℕ) where
  changed_keeps : Keeps nodes (changed change nodes number)
  changed_keeps = record {
    count = omega (arith, length-changed change nodes number);
    each = λ n node e.
        ⊎_elim
        (λ (here : n ≡ number).
        (change node, subst (λ (k : ℕ). slice_get (changed change nodes number) k ≡ Some (change node)) (sym here) (changed_here change nodes number ∙ ap (option_map change) (subst (λ (k : ℕ). slice_get nodes k ≡ Some node) here e)), alters.prototype node, alters.scope node))
        (λ (apart : n ≡ number → ⊥). (node, changed_elsewhere change nodes number n apart ∙ e, refl, refl))
        (cases_eq n number);
  }

  -- what is read at the changed place
  read_changed : (found : Option Node) (node : Node) → option_map change found ≡ Some node → (before : Node) × (found ≡ Some before) × (change before ≡ node)
  read_changed None node e = absurd cc
  read_changed (Some before) node e = (before, refl, cc)

  pub altered : IsLawful nodes → ((node : Node) → slice_get nodes number ≡ Some node → (62 ≤ number) ⊎ (change node ≡ node))
      → ((node : Node) → slice_get nodes number ≡ Some node → IsLawfulNode nodes node → IsLawfulNode nodes (change node)) → IsLawful (changed change nodes number)
  altered lawful past keeps_lawful =
      let after = changed change nodes number in
      record {
        intrinsics = front ∙ lawful.intrinsics;
        each = all_read (IsLawfulNode after) after (λ n node e.
            ⊎_elim
            (λ (here : n ≡ number).
            let read = read_changed (slice_get nodes number) node (sym (changed_here change nodes number) ∙ subst (λ (k : ℕ). slice_get after k ≡ Some node) here e) in
            node_kept nodes after changed_keeps node (subst (IsLawfulNode nodes) read.2 (keeps_lawful read.0 read.1 (lawful_at nodes lawful number read.0 read.1))))
            (λ (apart : n ≡ number → ⊥).
            let before = sym (changed_elsewhere change nodes number n apart) ∙ e in
            node_kept nodes after changed_keeps node (lawful_at nodes lawful n node before))
            (cases_eq n number));
      }
    where
      front : take 62 (changed change nodes number) ≡ take 62 nodes
      front =
          ⊎_elim
          (λ found.
          ⊎_elim
          (λ (h : 62 ≤ number). take-changed change nodes number 62 h)
          (λ (same : change found.0 ≡ found.0). ap (take 62) (changed_same change nodes number (λ node e. let one : found.0 ≡ node = cc (e, found.2) in subst (λ (n : Node). change n ≡ n) one same)))
          (past found.0 found.2))
          (λ none. ap (take 62) (changed_same change nodes number (λ node e. absurd cc)))
          (slice_get_cases nodes number).1

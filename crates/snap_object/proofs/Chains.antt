-- The chain of prototypes, step by step.
use Rattle.std.proofs.Common.{◌≡◌, ℕ, zero, suc, ◌+◌, ◌-◌, ◌≤◌, List, [], ◌∷◌, length, slice_get, Option, None, Some, IsSome, unwrap_or, refl, sym, ap, subst, ◌∙◌, arith}
use Rattle.std.specs.Option.{option_and_then, option_map}
use Rattle.std.proofs.lemmas.Bool.{false≢true}
use Rattle.std.proofs.lemmas.Option.{get_or_from_slice_get, slice_get_within}
use Rattle.snap_graph.specs.declared.node.Node.{Node}
use Rattle.snap_graph.specs.declared.value.Value.{Value}
use Rattle.snap_graph.specs.declared.value.Value.TheVariants as value
use Rattle.snap_graph.specs.Lawful.{IsLawful, IsLawfulNode, chain_from, chain_within}
use Rattle.spec_values.specs.Operations.{prototype_of}
use Rattle.spec_values.specs.Access.{chain_end, reached_from}
use Rattle.snap_object.specs.Search.{Follows}

module _ (nodes : List Node) where
  -- what comes behind a step of a chain
  behind : (f : Node → Option (List ℕ)) (found : Option Node) (c : List ℕ) → option_and_then f found ≡ Some c → (node : Node) × (found ≡ Some node) × (f node ≡ Some c)
  behind f None c e = absurd cc
  behind f (Some node) c e = (node, refl, e)

  front : (number : ℕ) (rest : Option (List ℕ)) (c : List ℕ) → option_map (λ (ns : List ℕ). number ∷ ns) rest ≡ Some c → (ns : List ℕ) × (rest ≡ Some ns) × (number ∷ ns ≡ c)
  front number None c e = absurd cc
  front number (Some ns) c e = (ns, refl, cc)

  -- one more step changes no chain that ends
  longer : (steps : ℕ) (v : Value) (c : List ℕ) → chain_within nodes steps v ≡ Some c → chain_within nodes (suc steps) v ≡ Some c
  longer steps value.Undefined c e = absurd cc
  longer steps value.Null c e = e
  longer steps (value.Bool b) c e = absurd cc
  longer steps (value.Int z) c e = absurd cc
  longer steps (value.Text text) c e = absurd cc
  longer zero (value.Node number) c e = absurd cc
  longer (suc steps) (value.Node number) c e =
      let step = behind (λ node. option_map (λ rest. number ∷ rest) (chain_within nodes steps node.prototype)) (slice_get nodes number) c e in
      let rest = front number (chain_within nodes steps step.0.prototype) c step.2 in
      let along = λ (node : Node). option_map (λ (ns : List ℕ). number ∷ ns) (chain_within nodes (suc steps) node.prototype) in
      ap (option_and_then along) step.1 ∙ ap (option_map (λ (ns : List ℕ). number ∷ ns)) (longer steps step.0.prototype rest.0 rest.1) ∙ ap Some rest.2
  longer steps value.Empty c e = absurd cc

  -- a chain that begins with a node goes on as that of its prototype
  steps_on : (steps number : ℕ) (c : List ℕ) → chain_within nodes steps (value.Node number) ≡ Some c
      → (next : Node) × (slice_get nodes number ≡ Some next) × (rest : List ℕ) × (chain_within nodes steps next.prototype ≡ Some rest) × (number ∷ rest ≡ c)
  steps_on zero number c e = absurd cc
  steps_on (suc steps) number c e =
      let step = behind (λ node. option_map (λ rest. number ∷ rest) (chain_within nodes steps node.prototype)) (slice_get nodes number) c e in
      let rest = front number (chain_within nodes steps step.0.prototype) c step.2 in
      (step.0, step.1, rest.0, longer steps step.0.prototype rest.0 rest.1, rest.2)

  -- what is reached from a node, by its prototype
  reached : (number : ℕ) (node : Node) → slice_get nodes number ≡ Some node → reached_from nodes number ≡ number ∷ unwrap_or (chain_within nodes chain_end node.prototype) []
  reached number node e = ap (λ (found : Option Node). number ∷ unwrap_or (option_and_then (λ (n : Node). chain_within nodes chain_end n.prototype) found) []) e

  from_chain : (v : Value) (found : Option (List ℕ)) → chain_from nodes v ≡ found → IsSome found → (c : List ℕ) × (chain_from nodes v ≡ Some c)
  from_chain v None e h = absurd (false≢true h)
  from_chain v (Some c) e h = (c, e)

  -- a chain that ends within as many steps as there are nodes ends within as many as there may be
  much_longer : (more steps : ℕ) (v : Value) (c : List ℕ) → chain_within nodes steps v ≡ Some c → chain_within nodes (steps + more) v ≡ Some c
  much_longer zero steps v c e = let same : steps ≡ steps + 0 = omega arith in subst (λ n. chain_within nodes n v ≡ Some c) same e
  much_longer (suc more) steps v c e =
      let same : suc (steps + more) ≡ steps + suc more = omega arith in
      subst (λ n. chain_within nodes n v ≡ Some c) same (longer (steps + more) v c (much_longer more steps v c e))

  whole : length nodes ≤ chain_end → (v : Value) (c : List ℕ) → chain_from nodes v ≡ Some c → chain_within nodes chain_end v ≡ Some c
  whole few v c e =
      let same : length nodes + (chain_end - length nodes) ≡ chain_end = omega arith in
      subst (λ n. chain_within nodes n v ≡ Some c) same (much_longer (chain_end - length nodes) (length nodes) v c e)

  on_node : length nodes ≤ chain_end → (number next : ℕ) (node : Node) → slice_get nodes number ≡ Some node → node.prototype ≡ value.Node next → IsSome (chain_from nodes node.prototype) → Follows nodes number (Some next)
  on_node few number next node e p h =
      let chain = from_chain (value.Node next) (chain_from nodes (value.Node next)) refl (subst (λ v. IsSome (chain_from nodes v)) p h) in
      let end = whole few (value.Node next) chain.0 chain.1 in
      let on = steps_on chain_end next chain.0 end in (
        reached number node e ∙ ap (λ v. number ∷ unwrap_or (chain_within nodes chain_end v) []) p ∙ ap (λ (found : Option (List ℕ)). number ∷ unwrap_or found []) end
            ∙ ap (λ (c : List ℕ). number ∷ c) (sym on.4) ∙ ap (λ (found : Option (List ℕ)). number ∷ (next ∷ unwrap_or found [])) (sym on.3) ∙ ap (λ (c : List ℕ). number ∷ c) (sym (reached next on.0 on.1)),
        slice_get_within nodes next on.0 on.1,
      )

  -- a lawful node whose prototype is known
  the_node : (number : ℕ) (v : Value) → IsLawful nodes → prototype_of nodes number ≡ Some v → (node : Node) × (slice_get nodes number ≡ Some node) × (node.prototype ≡ v) × IsSome (chain_from nodes v)
  the_node number v lawful e = by (slice_get nodes number) refl e
    where
      by : (found : Option Node) → slice_get nodes number ≡ found → option_map (λ (node : Node). node.prototype) found ≡ Some v → (node : Node) × (slice_get nodes number ≡ Some node) × (node.prototype ≡ v) × IsSome (chain_from nodes v)
      by None at e = absurd cc
      by (Some node) at e =
          let same : node.prototype ≡ v = cc in
          let here = subst (IsLawfulNode nodes) (get_or_from_slice_get nodes number node node at) (lawful.each number node (slice_get_within nodes number node at)) in
          (node, at, same, subst (λ v. IsSome (chain_from nodes v)) same here.chain)

  pub follows_node : length nodes ≤ chain_end → (number next : ℕ) → IsLawful nodes → prototype_of nodes number ≡ Some (value.Node next) → Follows nodes number (Some next)
  follows_node few number next lawful e =
      let node = the_node number (value.Node next) lawful e in
      on_node few number next node.0 node.1 node.2 (subst (λ v. IsSome (chain_from nodes v)) (sym node.2) node.3)

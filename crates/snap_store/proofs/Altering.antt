-- Kept nodes of which one is read or changed.
use Rattle.std.proofs.Common.{◌≡◌, ℕ, zero, suc, ◌<◌, Bool, false, All, List, [], ◌∷◌, length, map, get_or, set, slice_get, Option, Some, IfSome, refl, sym, ap, subst, ◌∙◌, arith}
use Rattle.std.specs.Option.{option_map, option_map_or, option_and_then}
use Rattle.std.proofs.lemmas.List.{length-map}
use Rattle.std.proofs.lemmas.List.Elements.{All-get_or, All-set}
use Rattle.std.proofs.lemmas.Option.{same_Some, slice_get-map, slice_get_read}
use Rattle.snap_graph.specs.declared.kind.Kind.{Kind}
use Rattle.snap_graph.specs.declared.kind.Kind.TheVariants as kind
use Rattle.snap_graph.specs.declared.node.Node.{Node}
use Rattle.snap_graph.specs.declared.value.Value.{Value}
use Rattle.snap_graph.specs.Lawful.{IsLawful}
use Rattle.snap_store.specs.Calls.{IsResource, MayStandIn}
use Rattle.snap_store.specs.declared.plain_node.PlainNode.{PlainNode}
use Rattle.snap_store.specs.declared.plain_node.PlainProperty.{PlainProperty}
use Rattle.snap_store.specs.Keyed.{AreNodesKeyed, IsNodeKeyed}
use Rattle.snap_store.specs.Plain.{IsNodeWithin, IsPlaceOf, node_in, nodes_in, value_in}
use Rattle.snap_text.specs.declared.key.Key.{Key}
use Rattle.spec_values.specs.Operations.{MayHold, changed, elements_of, is_frozen, kind_of}
use Rattle.spec_values.proofs.Changes.{changed_same}

-- one node is written over, by one that stands for the changed node
altered : (texts : List (List ℕ)) (nodes : List PlainNode) (number : ℕ) (node new : PlainNode) (change : Node → Node)
    → number < length nodes → node ≡ get_or nodes number node → node_in texts new ≡ change (node_in texts node)
    → nodes_in texts (set nodes number new) ≡ changed change (nodes_in texts nodes) number
altered texts [] number node new change below at means = absurd (omega arith)
altered texts (first ∷ rest) zero node new change below at means =
    ap (λ (n : Node). n ∷ nodes_in texts rest) (means ∙ ap (λ (n : PlainNode). change (node_in texts n)) at)
altered texts (first ∷ rest) (suc number) node new change below at means =
    ap (λ (ns : List Node). node_in texts first ∷ ns) (altered texts rest number node new change (omega arith) at means)

resource_kind : (own : Kind) → IsResource own → (number : ℕ) × (closed : Bool) × (own ≡ kind.Resource number closed)
resource_kind kind.Plain h = absurd h
resource_kind kind.Array h = absurd h
resource_kind (kind.Function script tree) h = absurd h
resource_kind (kind.Native native) h = absurd h
resource_kind (kind.Scope scope) h = absurd h
resource_kind kind.Error h = absurd h
resource_kind kind.Map h = absurd h
resource_kind kind.Set h = absurd h
resource_kind (kind.Resource number closed) h = (number, closed, refl)

module _ (texts : List (List ℕ)) (nodes : List PlainNode) (number : ℕ) (node : PlainNode) (within : number < length (nodes_in texts nodes)) (at : node ≡ get_or nodes number node) where
  below : number < length nodes
  below = omega (arith, length-map nodes (node_in texts))

  kept_here : slice_get nodes number ≡ Some node
  kept_here = slice_get_read nodes (length nodes) number node refl below at

  -- what the node stands for
  pub here : slice_get (nodes_in texts nodes) number ≡ Some (node_in texts node)
  here = slice_get-map (node_in texts) nodes number ∙ ap (option_map (node_in texts)) kept_here

  pub frozen_here : is_frozen (nodes_in texts nodes) number ≡ node.frozen
  frozen_here = ap (λ (o : Option Node). option_map_or (λ n. n.frozen) o false) here

  pub kind_here : kind_of (nodes_in texts nodes) number ≡ Some node.kind
  kind_here = ap (option_and_then (λ (n : Node). Some n.kind)) here

  pub elements_here : elements_of (nodes_in texts nodes) number ≡ map (value_in texts) node.elements.items
  elements_here = ap (λ (o : Option Node). option_map_or (λ n. n.elements) o []) here

  pub properties_here : option_map_or (λ (n : PlainNode). n.properties.items) (slice_get nodes number) [] ≡ node.properties.items
  properties_here = ap (λ (o : Option PlainNode). option_map_or (λ n. n.properties.items) o []) kept_here

  pub place_here : (key : List ℕ) (place : Option ℕ) → IsPlaceOf key (option_map_or (λ (n : PlainNode). n.properties.items) (slice_get nodes number) []) place → IsPlaceOf key node.properties.items place
  place_here key place h = subst (λ (ps : List PlainProperty). IsPlaceOf key ps place) properties_here h

  pub loose_here : is_frozen (nodes_in texts nodes) number ≡ false → node.frozen ≡ false
  loose_here e = sym frozen_here ∙ e

  pub of_kind : (own : Kind) → kind_of (nodes_in texts nodes) number ≡ Some own → node.kind ≡ own
  of_kind own e = same_Some _ _ (sym kind_here ∙ e)

  pub may_hold : (v : Value) → MayStandIn (nodes_in texts nodes) number v → MayHold (length (nodes_in texts nodes)) node.kind node.frozen v
  may_hold v h =
      subst (λ (f : Bool). MayHold (length (nodes_in texts nodes)) node.kind f v) frozen_here
      (subst (λ (o : Option Kind). IfSome o (λ own. MayHold (length (nodes_in texts nodes)) own (is_frozen (nodes_in texts nodes) number) v)) kind_here h)

  pub is_resource : IfSome (kind_of (nodes_in texts nodes) number) IsResource → (resource : ℕ) × (closed : Bool) × (node.kind ≡ kind.Resource resource closed)
  is_resource h = resource_kind node.kind (subst (λ (o : Option Kind). IfSome o IsResource) kind_here h)

  pub node_within : (now : List (List ℕ)) → All (IsNodeWithin now) nodes → IsNodeWithin now node
  node_within now all = subst (IsNodeWithin now) (sym at) (All-get_or (IsNodeWithin now) nodes number node below all)

  -- the node is written over
  pub is_changed : (new : PlainNode) (change : Node → Node) → node_in texts new ≡ change (node_in texts node) → nodes_in texts (set nodes number new) ≡ changed change (nodes_in texts nodes) number
  is_changed new change means = altered texts nodes number node new change below at means

  pub keeps_lawful : (new : PlainNode) (change : Node → Node) → node_in texts new ≡ change (node_in texts node) → IsLawful (changed change (nodes_in texts nodes) number) → IsLawful (nodes_in texts (set nodes number new))
  keeps_lawful new change means lawful = subst IsLawful (sym (is_changed new change means)) lawful

  pub keeps_within : (now : List (List ℕ)) (new : PlainNode) → All (IsNodeWithin now) nodes → (IsNodeWithin now node → IsNodeWithin now new) → All (IsNodeWithin now) (set nodes number new)
  keeps_within now new all kept = All-set (IsNodeWithin now) nodes number new (kept (node_within now all)) all

  -- the node is written over by one that stands for the same
  pub is_same : (new : PlainNode) → node_in texts new ≡ node_in texts node → nodes_in texts (set nodes number new) ≡ nodes_in texts nodes
  is_same new means = is_changed new (λ n. n) means ∙ changed_same (λ n. n) (nodes_in texts nodes) number (λ n e. refl)

  pub same_lawful : (new : PlainNode) → node_in texts new ≡ node_in texts node → IsLawful (nodes_in texts nodes) → IsLawful (nodes_in texts (set nodes number new))
  same_lawful new means lawful = subst IsLawful (sym (is_same new means)) lawful

  -- what is known of keys stays known
  pub keeps_keyed : (key_of : List ℕ → Option Key) (new : PlainNode) → (IsNodeKeyed key_of node → IsNodeKeyed key_of new) → AreNodesKeyed key_of nodes → AreNodesKeyed key_of (set nodes number new)
  keeps_keyed key_of new kept all =
      All-set (IsNodeKeyed key_of) nodes number new (kept (subst (IsNodeKeyed key_of) (sym at) (All-get_or (IsNodeKeyed key_of) nodes number node below all))) all

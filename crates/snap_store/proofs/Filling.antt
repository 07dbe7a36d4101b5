-- What a kept node has under a key, and whether it has as much as it may have.
use Rattle.std.proofs.Common.{◌≡◌, ℕ, ◌&&◌, Bool, not, nat_le, List, [], length, map, slice_get, Option, None, Some, is_some, true, false, refl, sym, ap, ◌∙◌}
use Rattle.std.specs.Option.{option_map, option_map_or, option_and_then}
use Rattle.std.proofs.lemmas.List.{length-map}
use Rattle.std.proofs.lemmas.Option.{slice_get-map}
use Rattle.snap_base.specs.declared.limits.TheConstants.{MOST_PROPERTIES}
use Rattle.snap_graph.specs.declared.node.Node.{Node}
use Rattle.snap_graph.specs.declared.value.Property.{Property}
use Rattle.snap_graph.specs.declared.value.Value.{Value}
use Rattle.snap_store.specs.Calls.{is_full}
use Rattle.snap_store.specs.declared.plain_node.PlainNode.{PlainNode}
use Rattle.snap_store.specs.Plain.{IsPlaceOf, node_in, nodes_in, property_in}
use Rattle.snap_store.proofs.Placing.{held_nowhere, held_somewhere, remove_none}
use Rattle.spec_values.specs.Operations.{held_under, own_value, properties_of, remove_under, with_properties, without_own}
use Rattle.spec_values.proofs.Changes.{changed_same}

module _ (texts : List (List ℕ)) (nodes : List PlainNode) (number : ℕ) where
  pub properties_kept : properties_of (nodes_in texts nodes) number ≡ map (property_in texts) (option_map_or (λ (n : PlainNode). n.properties.items) (slice_get nodes number) [])
  properties_kept = ap (λ (o : Option Node). option_map_or (λ n. n.properties) o []) (slice_get-map (node_in texts) nodes number) ∙ by (slice_get nodes number)
    where
      by : (o : Option PlainNode) → option_map_or (λ (n : Node). n.properties) (option_map (node_in texts) o) [] ≡ map (property_in texts) (option_map_or (λ (n : PlainNode). n.properties.items) o [])
      by None = refl
      by (Some n) = refl

  pub own_kept : (key : List ℕ) → own_value (nodes_in texts nodes) number key ≡ held_under key (map (property_in texts) (option_map_or (λ (n : PlainNode). n.properties.items) (slice_get nodes number) []))
  own_kept key = ap (option_and_then (λ (n : Node). held_under key n.properties)) (slice_get-map (node_in texts) nodes number) ∙ by (slice_get nodes number)
    where
      by : (o : Option PlainNode) → option_and_then (λ (n : Node). held_under key n.properties) (option_map (node_in texts) o) ≡ held_under key (map (property_in texts) (option_map_or (λ (n : PlainNode). n.properties.items) o []))
      by None = refl
      by (Some n) = refl

  pub own_none : (key : List ℕ) → IsPlaceOf key (option_map_or (λ (n : PlainNode). n.properties.items) (slice_get nodes number) []) None → own_value (nodes_in texts nodes) number key ≡ None
  own_none key none = own_kept key ∙ held_nowhere texts key (option_map_or (λ (n : PlainNode). n.properties.items) (slice_get nodes number) []) none

  pub full_kept : (key : List ℕ) → IsPlaceOf key (option_map_or (λ (n : PlainNode). n.properties.items) (slice_get nodes number) []) None
      → is_full (nodes_in texts nodes) number key ≡ nat_le MOST_PROPERTIES (length (option_map_or (λ (n : PlainNode). n.properties.items) (slice_get nodes number) []))
  full_kept key none =
      ap (λ (o : Option Value). not (is_some o) && nat_le MOST_PROPERTIES (length (properties_of (nodes_in texts nodes) number))) (own_none key none)
      ∙ ap (nat_le MOST_PROPERTIES) (ap length properties_kept ∙ length-map (option_map_or (λ (n : PlainNode). n.properties.items) (slice_get nodes number) []) (property_in texts))

  pub own_some : (key : List ℕ) (place : ℕ) → IsPlaceOf key (option_map_or (λ (n : PlainNode). n.properties.items) (slice_get nodes number) []) (Some place) → is_some (own_value (nodes_in texts nodes) number key) ≡ true
  own_some key place found = ap is_some (own_kept key) ∙ held_somewhere texts key (option_map_or (λ (n : PlainNode). n.properties.items) (slice_get nodes number) []) place found

  pub not_full : (key : List ℕ) (place : ℕ) → IsPlaceOf key (option_map_or (λ (n : PlainNode). n.properties.items) (slice_get nodes number) []) (Some place) → is_full (nodes_in texts nodes) number key ≡ false
  not_full key place found = ap (λ (b : Bool). not b && nat_le MOST_PROPERTIES (length (properties_of (nodes_in texts nodes) number))) (own_some key place found)

  -- where there is no property of a key, the nodes are those without it
  pub without_none : (key : List ℕ) → IsPlaceOf key (option_map_or (λ (n : PlainNode). n.properties.items) (slice_get nodes number) []) None → nodes_in texts nodes ≡ without_own (nodes_in texts nodes) number key
  without_none key none = sym (changed_same (with_properties (remove_under key)) (nodes_in texts nodes) number (λ node at.
      let own : node.properties ≡ map (property_in texts) (option_map_or (λ (n : PlainNode). n.properties.items) (slice_get nodes number) []) = sym (ap (λ (o : Option Node). option_map_or (λ n. n.properties) o []) at) ∙ properties_kept in
      ap (λ (ps : List Property). record { kind = node.kind; prototype = node.prototype; frozen = node.frozen; properties = ps; elements = node.elements })
      (ap (remove_under key) own ∙ remove_none texts key (option_map_or (λ (n : PlainNode). n.properties.items) (slice_get nodes number) []) none ∙ sym own)))

-- What a plain store keeps, and what it stands for.
use Rattle.std.specs.Prelude.{◌≡◌, ◌≢◌, ℕ, ◌<◌, ◌^◌, All, List, map, length, slice_index_or, Option, None, Some}
use Rattle.std.specs.Coded.{Π_prop, Unit-prop, le_prop}
use Rattle.snap_arena.specs.Laws.{IsHeld-prop}
use Rattle.snap_arena.specs.Texts.{IsHeld, text_in}
use Rattle.snap_graph.specs.declared.node.Node.{Node}
use Rattle.snap_graph.specs.declared.value.Property.{Property}
use Rattle.snap_graph.specs.declared.value.Value.{Value}
use Rattle.snap_graph.specs.declared.value.Value.TheVariants as value
use Rattle.snap_graph.specs.Values.{IsPlace}
use Rattle.snap_store.specs.declared.plain_node.PlainNode.{PlainNode}
use Rattle.snap_store.specs.declared.plain_node.PlainProperty.{PlainProperty}
use Rattle.snap_store.specs.declared.plain_node.PlainValue.{PlainValue}
use Rattle.snap_store.specs.declared.plain_node.PlainValue.TheVariants as plain

-- what a kept value stands for, with its text in these buffers
abbrev pub value_in : List (List ℕ) → PlainValue → Value
value_in texts plain.Undefined = value.Undefined
value_in texts plain.Null = value.Null
value_in texts (plain.Bool b) = value.Bool b
value_in texts (plain.Int z) = value.Int z
value_in texts (plain.Text held) = value.Text (text_in texts held)
value_in texts (plain.Node node) = value.Node node
value_in texts plain.Empty = value.Empty

-- what a kept property and a kept node stand for
abbrev pub property_in : List (List ℕ) → PlainProperty → Property
property_in texts property = record { key = property.key; value = value_in texts property.value }

abbrev pub node_in : List (List ℕ) → PlainNode → Node
node_in texts node = record {
  kind = node.kind;
  prototype = value_in texts node.prototype;
  frozen = node.frozen;
  properties = map (property_in texts) node.properties.items;
  elements = map (value_in texts) node.elements.items;
}

-- the nodes that a store stands for
abbrev pub nodes_in : List (List ℕ) → List PlainNode → List Node
nodes_in texts nodes = map (node_in texts) nodes

-- a kept text stands in these buffers
abbrev pub IsWithin : List (List ℕ) → PlainValue → Type 0
IsWithin texts plain.Undefined = Unit {0}
IsWithin texts plain.Null = Unit {0}
IsWithin texts (plain.Bool b) = Unit {0}
IsWithin texts (plain.Int z) = Unit {0}
IsWithin texts (plain.Text held) = IsHeld texts held
IsWithin texts (plain.Node node) = Unit {0}
IsWithin texts plain.Empty = Unit {0}

-- the texts of a kept node stand in these buffers, and its elements can be counted in 32 bits
pub record IsNodeWithin (texts : List (List ℕ)) (node : PlainNode) : Type 0 where
  pub prototype : IsWithin texts node.prototype
  pub properties : All (λ property. IsWithin texts property.value) node.properties.items
  pub elements : All (IsWithin texts) node.elements.items
  pub few : length node.elements.items < 2 ^ 32

-- a kept value is a store's own, in its texts and among so many nodes
abbrev pub IsOwn : List (List ℕ) → ℕ → PlainValue → Type 0
IsOwn texts count held = IsWithin texts held × IsPlace count (value_in texts held)

-- the place of the property of a key, or that there is none
abbrev pub IsPlaceOf : List ℕ → List PlainProperty → Option ℕ → Type 0
IsPlaceOf text properties None = All (λ property. property.key ≢ text) properties
IsPlaceOf text properties (Some place) =
    (place < length properties)
    × ((k : ℕ) (d : PlainProperty) → k < place → (slice_index_or properties k d).key ≢ text)
    × ((d : PlainProperty) → (slice_index_or properties place d).key ≡ text)

IsWithin-prop : (texts : List (List ℕ)) (held : PlainValue) → IsProp (IsWithin texts held)
IsWithin-prop texts plain.Undefined = Unit-prop
IsWithin-prop texts plain.Null = Unit-prop
IsWithin-prop texts (plain.Bool b) = Unit-prop
IsWithin-prop texts (plain.Int z) = Unit-prop
IsWithin-prop texts (plain.Text held) = IsHeld-prop texts held
IsWithin-prop texts (plain.Node node) = Unit-prop
IsWithin-prop texts plain.Empty = Unit-prop

IsNodeWithin-prop : (texts : List (List ℕ)) (node : PlainNode) → IsProp (IsNodeWithin texts node)
IsNodeWithin-prop texts node x y =
    let prototype_prop = IsWithin-prop texts node.prototype in
    let properties_prop : IsProp (All (λ property. IsWithin texts property.value) node.properties.items) = Π_prop (λ k. Π_prop (λ d. Π_prop (λ h. IsWithin-prop texts _))) in
    let elements_prop : IsProp (All (IsWithin texts) node.elements.items) = Π_prop (λ k. Π_prop (λ d. Π_prop (λ h. IsWithin-prop texts _))) in
    let few_prop : IsProp (length node.elements.items < 2 ^ 32) = le_prop in
    λ i. record {
      prototype = prototype_prop x.prototype y.prototype i;
      properties = properties_prop x.properties y.properties i;
      elements = elements_prop x.elements y.elements i;
      few = few_prop x.few y.few i;
    }

pub nodes_within-prop : (texts : List (List ℕ)) (nodes : List PlainNode) → IsProp (All (IsNodeWithin texts) nodes)
nodes_within-prop texts nodes = Π_prop (λ k. Π_prop (λ d. Π_prop (λ h. IsNodeWithin-prop texts _)))

-- What is kept for a graph.
use Rattle.std.specs.Prelude.{◌≡◌, ℕ, All, List, map}
use Rattle.snap_graph.specs.declared.node.Node.{Node}
use Rattle.snap_graph.specs.declared.value.Property.{Property}
use Rattle.snap_graph.specs.declared.value.Value.{Value}
use Rattle.snap_store.specs.declared.plain_node.PlainNode.{PlainNode}
use Rattle.snap_store.specs.declared.plain_node.PlainProperty.{PlainProperty}
use Rattle.snap_store.specs.declared.plain_node.PlainValue.{PlainValue}
use Rattle.snap_store.specs.Plain.{IsNodeWithin, IsWithin, node_in, nodes_in, property_in, value_in}

-- a value, a property, a node or a list of such is kept, with its texts in these buffers
abbrev pub IsKept : List (List ℕ) → PlainValue → Value → Type 0
IsKept texts held value = IsWithin texts held × (value_in texts held ≡ value)

abbrev pub AreKept : List (List ℕ) → List PlainValue → List Value → Type 0
AreKept texts kept values = All (IsWithin texts) kept × (map (value_in texts) kept ≡ values)

abbrev pub ArePropertiesKept : List (List ℕ) → List PlainProperty → List Property → Type 0
ArePropertiesKept texts kept properties = All (λ property. IsWithin texts property.value) kept × (map (property_in texts) kept ≡ properties)

abbrev pub IsNodeKept : List (List ℕ) → PlainNode → Node → Type 0
IsNodeKept texts kept node = IsNodeWithin texts kept × (node_in texts kept ≡ node)

abbrev pub AreNodesKept : List (List ℕ) → List PlainNode → List Node → Type 0
AreNodesKept texts kept nodes = All (IsNodeWithin texts) kept × (nodes_in texts kept ≡ nodes)

-- What one operation does to a heap.
use Rattle.std.specs.Prelude.{◌≡◌, ℕ, zero, suc, ◌+◌, ◌-◌, ◌&&◌, Bool, true, false, not, nat_lt, nat_le, List, [], ◌∷◌, ◌++◌, length, map, filter, take, slice_get, slice_set, Option, None, Some, is_some, if◌then◌else◌}
use Rattle.std.specs.Option.{option_and_then, option_map, option_map_or}
use Rattle.std.specs.Str.{bytes_eq as text_eq}
use Rattle.snap_base.specs.declared.limits.TheConstants.{MOST_ITEMS, MOST_PRIVATE_NODES, MOST_PROPERTIES}
use Rattle.snap_base.specs.declared.stop.Stop.TheVariants.{TooLong, TooManyNodes}
use Rattle.snap_graph.specs.declared.intrinsic.TheConstants.{FUNCTION_PROTOTYPE}
use Rattle.snap_graph.specs.declared.kind.Kind.{Kind}
use Rattle.snap_graph.specs.declared.kind.Kind.TheVariants as kind
use Rattle.snap_graph.specs.declared.kind.ScopeKind.{ScopeKind}
use Rattle.snap_graph.specs.declared.node.Node.{Node}
use Rattle.snap_graph.specs.declared.value.Property.{Property}
use Rattle.snap_graph.specs.declared.value.Value.{Value}
use Rattle.snap_graph.specs.declared.value.Value.TheVariants.{Node as At}
use Rattle.snap_graph.specs.OwnKeys.{own_order}
use Rattle.snap_graph.specs.Values.{IsPlace, IsValue}
use Rattle.spec_values.specs.Answer.{◌>>=◌, Action, Gave, Heap, Stopped, give}

-- nodes of which one is changed; a number past them changes none
abbrev pub changed : (Node → Node) → List Node → ℕ → List Node
changed change [] number = []
changed change (node ∷ rest) zero = change node ∷ rest
changed change (node ∷ rest) (suc number) = node ∷ changed change rest number

-- what a property of a key holds
abbrev pub held_under : List ℕ → List Property → Option Value
held_under key [] = None
held_under key (property ∷ rest) = if text_eq property.key key then Some property.value else held_under key rest

-- a property is written in its place, or created behind all others
abbrev pub put_under : List ℕ → Value → List Property → List Property
put_under key value [] = record { key = key; value = value } ∷ []
put_under key value (property ∷ rest) =
    if text_eq property.key key then record { key = property.key; value = value } ∷ rest else property ∷ put_under key value rest

-- the other properties stay where one is removed
abbrev pub remove_under : List ℕ → List Property → List Property
remove_under key properties = filter (λ p. not (text_eq p.key key)) properties

-- a node without anything in it yet
abbrev pub new_node : Kind → Value → Node
new_node kind prototype = record { kind = kind; prototype = prototype; frozen = false; properties = []; elements = [] }

-- what a node holds under a key of its own
abbrev pub own_value : List Node → ℕ → List ℕ → Option Value
own_value nodes number key = option_and_then (λ node. held_under key node.properties) (slice_get nodes number)

-- the properties and the elements of a node
abbrev pub properties_of : List Node → ℕ → List Property
properties_of nodes number = option_map_or (λ node. node.properties) (slice_get nodes number) []

abbrev pub elements_of : List Node → ℕ → List Value
elements_of nodes number = option_map_or (λ node. node.elements) (slice_get nodes number) []

-- whether a node is frozen
abbrev pub is_frozen : List Node → ℕ → Bool
is_frozen nodes number = option_map_or (λ node. node.frozen) (slice_get nodes number) false

-- what a node is, and its prototype
abbrev pub kind_of : List Node → ℕ → Option Kind
kind_of nodes number = option_and_then (λ node. Some node.kind) (slice_get nodes number)

abbrev pub prototype_of : List Node → ℕ → Option Value
prototype_of nodes number = option_map (λ node. node.prototype) (slice_get nodes number)

-- the keys of a node's own properties, in the order of own keys
abbrev pub own_keys_of : List Node → ℕ → List (List ℕ)
own_keys_of nodes number = map (λ property. property.key) (own_order (properties_of nodes number))

-- what is seen of a heap, which stays as it is
abbrev pub see : {A : Type 0} → (List Node → A) → Action A
see look heap = Gave (look heap.nodes) heap

-- what is seen of one node: what it is, its prototype, what it holds under a key of its own, its own keys, how many elements it has,
-- one of them, and whether it is frozen
abbrev pub kind_at : ℕ → Action (Option Kind)
kind_at number = see (λ nodes. kind_of nodes number)

abbrev pub prototype_at : ℕ → Action (Option Value)
prototype_at number = see (λ nodes. prototype_of nodes number)

abbrev pub own_at : ℕ → List ℕ → Action (Option Value)
own_at number key = see (λ nodes. own_value nodes number key)

abbrev pub own_keys_at : ℕ → Action (List (List ℕ))
own_keys_at number = see (λ nodes. own_keys_of nodes number)

abbrev pub count_at : ℕ → Action ℕ
count_at number = see (λ nodes. length (elements_of nodes number))

abbrev pub element_at : ℕ → ℕ → Action (Option Value)
element_at number place = see (λ nodes. slice_get (elements_of nodes number) place)

abbrev pub frozen_at : ℕ → Action Bool
frozen_at number = see (λ nodes. is_frozen nodes number)

-- a node with other properties, and with other elements
abbrev pub with_properties : (List Property → List Property) → Node → Node
with_properties change node = record { kind = node.kind; prototype = node.prototype; frozen = node.frozen; properties = change node.properties; elements = node.elements }

abbrev pub with_elements : (List Value → List Value) → Node → Node
with_elements change node = record { kind = node.kind; prototype = node.prototype; frozen = node.frozen; properties = node.properties; elements = change node.elements }

-- a node that is frozen (ECMA-262, 20.1.2.6), and a resource that is closed
abbrev pub frozen_node : Node → Node
frozen_node node = record { kind = node.kind; prototype = node.prototype; frozen = true; properties = node.properties; elements = node.elements }

abbrev pub closed_kind : Kind → Kind
closed_kind kind.Plain = kind.Plain
closed_kind kind.Array = kind.Array
closed_kind (kind.Function script tree) = kind.Function script tree
closed_kind (kind.Native native) = kind.Native native
closed_kind (kind.Scope scope) = kind.Scope scope
closed_kind kind.Error = kind.Error
closed_kind kind.Map = kind.Map
closed_kind kind.Set = kind.Set
closed_kind (kind.Resource number closed) = kind.Resource number true

abbrev pub closed_node : Node → Node
closed_node node = record { kind = closed_kind node.kind; prototype = node.prototype; frozen = node.frozen; properties = node.properties; elements = node.elements }

-- what may stand among the elements of a node, by its kind and whether it is frozen: a value in an array that is not frozen or in a
-- function, and in a scope also the mark of an empty slot
abbrev pub MayHold : ℕ → Kind → Bool → Value → Type 0
MayHold count kind.Plain frozen value = ⊥
MayHold count kind.Array frozen value = (frozen ≡ false) × IsValue count value
MayHold count (kind.Function script tree) frozen value = IsValue count value
MayHold count (kind.Native native) frozen value = ⊥
MayHold count (kind.Scope scope) frozen value = IsPlace count value
MayHold count kind.Error frozen value = ⊥
MayHold count kind.Map frozen value = ⊥
MayHold count kind.Set frozen value = ⊥
MayHold count (kind.Resource number closed) frozen value = ⊥

-- nodes after one operation on the node of a number
abbrev pub with_own : List Node → ℕ → List ℕ → Value → List Node
with_own nodes number key value = changed (with_properties (put_under key value)) nodes number

abbrev pub without_own : List Node → ℕ → List ℕ → List Node
without_own nodes number key = changed (with_properties (remove_under key)) nodes number

abbrev pub with_element : List Node → ℕ → ℕ → Value → List Node
with_element nodes number place value = changed (with_elements (λ elements. slice_set elements place value)) nodes number

abbrev pub with_more : List Node → ℕ → Value → List Node
with_more nodes number value = changed (with_elements (λ elements. elements ++ value ∷ [])) nodes number

abbrev pub with_fewer : List Node → ℕ → List Node
with_fewer nodes number = changed (with_elements (λ elements. take (length elements - 1) elements)) nodes number

abbrev pub with_frozen : List Node → ℕ → List Node
with_frozen nodes number = changed frozen_node nodes number

abbrev pub with_closed : List Node → ℕ → List Node
with_closed nodes number = changed closed_node nodes number

-- a heap with other nodes
abbrev pub with_nodes : Heap → List Node → Heap
with_nodes heap nodes = record { nodes = nodes; private_nodes = heap.private_nodes; keys = heap.keys }

-- a node is made behind all others, and counts as private; there may not be too many
abbrev pub make : Kind → Value → Action ℕ
make kind prototype heap =
    if nat_lt heap.private_nodes MOST_PRIVATE_NODES
    then Gave (length heap.nodes) (record { nodes = heap.nodes ++ new_node kind prototype ∷ []; private_nodes = heap.private_nodes + 1; keys = heap.keys })
    else Stopped TooManyNodes heap

-- a property is written or created, where the node has not too many of its own
abbrev pub put_own : ℕ → List ℕ → Value → Action Unit
put_own number key value heap =
    if not (is_some (own_value heap.nodes number key)) && nat_le MOST_PROPERTIES (length (properties_of heap.nodes number))
    then Stopped TooLong heap
    else Gave tt (with_nodes heap (with_own heap.nodes number key value))

-- an element is put behind those of an array, where there are not too many
abbrev pub push_element : ℕ → Value → Action Unit
push_element number value heap =
    if nat_le MOST_ITEMS (length (elements_of heap.nodes number))
    then Stopped TooLong heap
    else Gave tt (with_nodes heap (with_more heap.nodes number value))

-- a node is changed, and nothing else
abbrev pub change_at : (Node → Node) → ℕ → Action Unit
change_at change number heap = Gave tt (with_nodes heap (changed change heap.nodes number))

-- an element is written in its place
abbrev pub set_element : ℕ → ℕ → Value → Action Unit
set_element number place value = change_at (with_elements (λ elements. slice_set elements place value)) number

-- the last element is taken, if there is one
abbrev pub pop_element : ℕ → Action (Option Value)
pop_element number =
    count_at number >>= λ count. element_at number (count - 1) >>= λ last.
    change_at (with_elements (λ elements. take (length elements - 1) elements)) number >>= λ _. give last

-- a property is removed, if there is one
abbrev pub remove_own : ℕ → List ℕ → Action Bool
remove_own number key =
    own_at number key >>= λ found. change_at (with_properties (remove_under key)) number >>= λ _. give (is_some found)

-- a node is frozen, and a resource closed
abbrev pub freeze : ℕ → Action Unit
freeze number = change_at frozen_node number

abbrev pub close : ℕ → Action Unit
close number = change_at closed_node number

-- a property is written in its place, if there is one, which it tells
abbrev pub write_own : ℕ → List ℕ → Value → Action Bool
write_own number key value heap =
    if is_some (own_value heap.nodes number key) then Gave true (with_nodes heap (with_own heap.nodes number key value)) else Gave false heap

-- an element is put behind those of a function or a scope, which have no limit
abbrev pub add_element : ℕ → Value → Action Unit
add_element number value = change_at (with_elements (λ elements. elements ++ value ∷ [])) number

-- elements are put behind those of a function or a scope, in order
abbrev pub add_elements : ℕ → List Value → Action Unit
add_elements number [] = give tt
add_elements number (value ∷ rest) = add_element number value >>= λ _. add_elements number rest

-- a function is made, which closes over a scope (ECMA-262, 10.2.3)
abbrev pub make_function : ℕ → ℕ → Value → Action ℕ
make_function script tree scope =
    make (kind.Function script tree) (At FUNCTION_PROTOTYPE) >>= λ number. add_element number scope >>= λ _. give number

-- a scope is made inside another, or inside none, with what its slots hold (9.1.2.2)
abbrev pub make_scope : ScopeKind → Value → List Value → Action ℕ
make_scope scope outer slots =
    make (kind.Scope scope) outer >>= λ number. add_elements number slots >>= λ _. give number

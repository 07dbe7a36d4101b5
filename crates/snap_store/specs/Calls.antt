-- What a store's calls ask for and answer.
use Rattle.std.specs.Prelude.{◌≡◌, ℕ, ◌&&◌, Bool, true, false, not, nat_le, nat_lt, List, [], length, Option, None, Some, is_some, unwrap_or, IfSome, Result, Ok, Err}
use Rattle.snap_base.specs.declared.limits.TheConstants.{MOST_ITEMS, MOST_PRIVATE_NODES, MOST_PROPERTIES}
use Rattle.snap_graph.specs.declared.kind.Kind.{Kind}
use Rattle.snap_graph.specs.declared.kind.Kind.TheVariants as kind
use Rattle.snap_graph.specs.declared.node.Node.{Node}
use Rattle.snap_graph.specs.declared.value.Value.{Value}
use Rattle.snap_graph.specs.declared.value.Value.TheVariants as value
use Rattle.snap_store.specs.declared.fault.StoreFault.{StoreFault}
use Rattle.snap_store.specs.declared.fault.StoreFault.TheVariants.{TooManyNodes, TooLong, NoMemory}
use Rattle.spec_values.specs.Access.{is_array}
use Rattle.spec_values.specs.Operations.{MayHold, elements_of, is_frozen, kind_of, own_value, properties_of}

-- a kind of nodes that stand for a dealing with the outside
abbrev pub IsResource : Kind → Type 0
IsResource kind.Plain = ⊥
IsResource kind.Array = ⊥
IsResource (kind.Function script tree) = ⊥
IsResource (kind.Native native) = ⊥
IsResource (kind.Scope scope) = ⊥
IsResource kind.Error = ⊥
IsResource kind.Map = ⊥
IsResource kind.Set = ⊥
IsResource (kind.Resource number closed) = Unit {0}

-- the units of a text; another value has none
abbrev pub text_units : Value → Option (List ℕ)
text_units value.Undefined = None
text_units value.Null = None
text_units (value.Bool b) = None
text_units (value.Int z) = None
text_units (value.Text text) = Some text
text_units (value.Node node) = None
text_units value.Empty = None

-- the units of a text, or none
abbrev pub units_in : Value → List ℕ
units_in value = unwrap_or (text_units value) []

-- a value may stand among the elements of a node
abbrev pub MayStandIn : List Node → ℕ → Value → Type 0
MayStandIn nodes number value = IfSome (kind_of nodes number) (λ kind. MayHold (length nodes) kind (is_frozen nodes number) value)

-- one more private node is not too many
abbrev pub has_room : ℕ → Bool
has_room private_nodes = nat_lt private_nodes MOST_PRIVATE_NODES

-- one more property would be too many, and the key is none of the node's
abbrev pub is_full : List Node → ℕ → List ℕ → Bool
is_full nodes number key = not (is_some (own_value nodes number key)) && nat_le MOST_PROPERTIES (length (properties_of nodes number))

-- one more element would be too many, which is so of an array alone
abbrev pub is_long : List Node → ℕ → Bool
is_long nodes number = is_array (kind_of nodes number) && nat_le MOST_ITEMS (length (elements_of nodes number))

-- refused with TooManyNodes exactly where there is no room, but for want of memory
abbrev pub MakesWhere : Bool → Result ℕ StoreFault → Type 0
MakesWhere room (Ok number) = room ≡ true
MakesWhere room (Err TooManyNodes) = room ≡ false
MakesWhere room (Err TooLong) = ⊥
MakesWhere room (Err NoMemory) = Unit {0}

-- refused with TooLong exactly where there would be too many, but for want of memory
abbrev pub EndsWhere : {A : Type 0} → Bool → Result A StoreFault → Type 0
EndsWhere full (Ok done) = full ≡ false
EndsWhere full (Err TooManyNodes) = ⊥
EndsWhere full (Err TooLong) = full ≡ true
EndsWhere full (Err NoMemory) = Unit {0}

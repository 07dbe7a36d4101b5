-- Which nodes are arrays, and the elements that keys name.
use Rattle.std.proofs.Common.{◌≡◌, ℕ, Bool, true, false, List, slice_get, Option, None, Some, refl, ap, ◌∙◌, if◌then◌else◌}
use Rattle.std.specs.Option.{option_and_then}
use Rattle.std.proofs.lemmas.Bool.{false≢true}
use Rattle.snap_graph.specs.declared.kind.Kind.{Kind}
use Rattle.snap_graph.specs.declared.kind.Kind.TheVariants as kind
use Rattle.snap_graph.specs.declared.node.Node.{Node}
use Rattle.spec_values.specs.Access.{is_array}
use Rattle.spec_values.specs.Operations.{kind_of}

-- the kind that an array has
array_kind : (own : Kind) → is_array (Some own) ≡ true → own ≡ kind.Array
array_kind kind.Plain e = absurd (false≢true e)
array_kind kind.Array e = refl
array_kind (kind.Function script tree) e = absurd (false≢true e)
array_kind (kind.Native native) e = absurd (false≢true e)
array_kind (kind.Scope scope) e = absurd (false≢true e)
array_kind kind.Error e = absurd (false≢true e)
array_kind kind.Map e = absurd (false≢true e)
array_kind kind.Set e = absurd (false≢true e)
array_kind (kind.Resource number closed) e = absurd (false≢true e)

array_node_as : (found : Option Node) → is_array (option_and_then (λ node. Some node.kind) found) ≡ true → (node : Node) × (found ≡ Some node) × (node.kind ≡ kind.Array)
array_node_as None e = absurd (false≢true e)
array_node_as (Some node) e = (node, refl, array_kind node.kind e)

pub array_node : (nodes : List Node) (number : ℕ) → is_array (kind_of nodes number) ≡ true → (node : Node) × (slice_get nodes number ≡ Some node) × (node.kind ≡ kind.Array)
array_node nodes number e = array_node_as (slice_get nodes number) e

pub is_an_array : (nodes : List Node) (number : ℕ) (node : Node) → slice_get nodes number ≡ Some node → node.kind ≡ kind.Array → is_array (kind_of nodes number) ≡ true
is_an_array nodes number node e k = ap (λ (found : Option Node). is_array (option_and_then (λ n. Some n.kind) found)) e ∙ ap (λ (own : Kind). is_array (Some own)) k

-- the element that a key names is an array's, and where it names none of an array the key is no index
pub an_array_as : (b : Bool) (index : Option ℕ) (place : ℕ) → (if b then index else None) ≡ Some place → b ≡ true
an_array_as true index place e = refl
an_array_as false index place e = absurd cc

pub no_index_as : (b : Bool) (index : Option ℕ) → (if b then index else None) ≡ None → b ≡ true → index ≡ None
no_index_as true index e an_array = e
no_index_as false index e an_array = absurd (false≢true an_array)

-- What is asked of values goes on from the heap in which it begins.
use Rattle.std.proofs.Common.{false, codes, if◌then◌else◌}
use Rattle.snap_base.specs.declared.stop.Stop.TheVariants.{NotInProfile}
use Rattle.snap_graph.specs.declared.value.Value.{Value}
use Rattle.snap_graph.specs.declared.value.Value.TheVariants.{Undefined, Null, Bool as Truth, Int, Node as At, Text, Empty}
use Rattle.spec_values.specs.Asking.{can_be_called, is_callable, type_of}
use Rattle.spec_values.specs.Operations.{kind_at, kind_of}
use Rattle.snap_action.proofs.Follows.{grows_then}
use Rattle.snap_action.proofs.Growing.{Goes, give_grows, see_grows, stop_grows}

pub type_of_grows : (value : Value) → Goes (type_of value)
type_of_grows Undefined = give_grows (codes "undefined")
type_of_grows Null = give_grows (codes "object")
type_of_grows (Truth b) = give_grows (codes "boolean")
type_of_grows (Int z) = give_grows (codes "number")
type_of_grows (Text text) = give_grows (codes "string")
type_of_grows (At number) = grows_then (kind_at number) _ (see_grows (λ nodes. kind_of nodes number)) (λ kind. give_grows (if can_be_called kind then codes "function" else codes "object"))
type_of_grows Empty = stop_grows NotInProfile

pub callable_grows : (value : Value) → Goes (is_callable value)
callable_grows Undefined = give_grows false
callable_grows Null = give_grows false
callable_grows (Truth b) = give_grows false
callable_grows (Int z) = give_grows false
callable_grows (Text text) = give_grows false
callable_grows (At number) = grows_then (kind_at number) _ (see_grows (λ nodes. kind_of nodes number)) (λ kind. give_grows (can_be_called kind))
callable_grows Empty = give_grows false

-- The sizes of Maps and Sets.
use Rattle.std.specs.Prelude.{◌≡◌, ℕ, Bool, List, Option, None, Some, slice_get}
use Rattle.snap_graph.specs.declared.node.Node.{Node}
use Rattle.snap_graph.specs.declared.value.Value.{Value}
use Rattle.snap_graph.specs.declared.value.Value.TheVariants.{Undefined, Null, Bool as Truth, Int, Text, Node as At, Empty}
use Rattle.spec_values.specs.Access.{entry_count, is_there}
use Rattle.spec_values.specs.Operations.{elements_of, kind_of}

-- how many entries a base has, read at one of the two prototypes
abbrev pub entries_of : List Node → ℕ → Value → Option ℕ
entries_of nodes prototype Undefined = None
entries_of nodes prototype Null = None
entries_of nodes prototype (Truth b) = None
entries_of nodes prototype (Int z) = None
entries_of nodes prototype (Text text) = None
entries_of nodes prototype (At number) = entry_count prototype (kind_of nodes number) (elements_of nodes number)
entries_of nodes prototype Empty = None

-- whether there is a value at a place, other than the mark of none
abbrev pub TellsWhether : List Value → ℕ → Bool → Type 0
TellsWhether elements place there = (value : Value) × (slice_get elements place ≡ Some value) × (is_there value ≡ there)

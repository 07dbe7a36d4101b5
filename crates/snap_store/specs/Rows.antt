-- The rows of the table of intrinsics.
use Rattle.std.specs.Prelude.{ℕ, List, map, Option, None, Some}
use Rattle.std.specs.Borrow.{Bor}
use Rattle.snap_graph.specs.declared.node.Node.{Node}
use Rattle.snap_graph.specs.declared.value.Property.{Property}
use Rattle.snap_graph.specs.declared.value.Value.{Value}
use Rattle.snap_graph.specs.declared.value.Value.TheVariants as value
use Rattle.snap_graph.specs.Intrinsics.{frozen_node, own}
use Rattle.snap_store.specs.declared.intrinsic_nodes.Row.{Row}

-- the property of a name and a node's number
abbrev pub own_in : Bor (List ℕ) × ℕ → Property
own_in row = own row.0.now row.1

abbrev pub prototype_in : Option ℕ → Value
prototype_in None = value.Null
prototype_in (Some number) = value.Node number

-- the node of a row
abbrev pub row_node : Row → Node
row_node row = frozen_node row.kind (prototype_in row.prototype) (map own_in row.own.now)

-- Ways through a graph.
use Rattle.std.specs.Prelude.{◌≡◌, ◌≢◌, ℕ, List, [], ◌∷◌, ◌++◌, length, map, slice_get, Option, None, Some}
use Rattle.std.specs.Option.{option_and_then, option_map_or}
use Rattle.std.specs.declared.cmp.Ordering.{Ordering}
use Rattle.std.specs.declared.cmp.Ordering.TheVariants.{Greater}
use Rattle.std.specs.Ordering.{nat_cmp, ordering_then}
use Rattle.std.specs.Cmp.Lexicographic.{slice_cmp}
use Rattle.snap_graph.specs.declared.node.Node.{Node}
use Rattle.snap_graph.specs.declared.value.Value.{Value}
use Rattle.snap_graph.specs.declared.value.Value.TheVariants as value
use Rattle.snap_graph.specs.OwnKeys.{own_order}
use Rattle.snap_graph.specs.Values.{node_of}

-- the edges of a node, by number: its prototype, its properties in own-key order and its elements, those that hold no node too
abbrev pub edges : Node → List Value
edges node = node.prototype ∷ map (λ p. p.value) (own_order node.properties) ++ node.elements

-- the edges of a value: those of the node that it is
abbrev pub edges_of : List Node → Value → List Value
edges_of nodes value = option_map_or edges (option_and_then (slice_get nodes) (node_of value)) []

-- what edges lead to from a value, one after another
abbrev pub led_to : List Node → List ℕ → Value → Option Value
led_to nodes [] value = Some value
led_to nodes (edge ∷ rest) value = option_and_then (led_to nodes rest) (slice_get (edges_of nodes value) edge)

-- what a path leads to: it has the number of a root, and then those of edges
abbrev pub path_value : List Node → List Value → List ℕ → Option Value
path_value nodes roots [] = None
path_value nodes roots (root ∷ rest) = option_and_then (led_to nodes rest) (slice_get roots root)

-- the path leads to the node of a number
abbrev pub IsPathTo : List Node → List Value → ℕ → List ℕ → Type 0
IsPathTo nodes roots number path = path_value nodes roots path ≡ Some (value.Node number)

-- some path from the roots leads to the node
abbrev pub IsReachable : List Node → List Value → ℕ → Type 0
IsReachable nodes roots number = (path : List ℕ) × IsPathTo nodes roots number path

-- paths are ordered by length, and then by the first number that differs
abbrev pub path_cmp : List ℕ → List ℕ → Ordering
path_cmp path other = ordering_then (nat_cmp (length path) (length other)) (slice_cmp nat_cmp path other)

-- the path is one of these, and none of these is less
abbrev pub IsLeast : (List ℕ → Type 0) → List ℕ → Type 0
IsLeast Among path = Among path × ((other : List ℕ) → Among other → path_cmp path other ≢ Greater)

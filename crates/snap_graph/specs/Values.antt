-- What values are.
use Rattle.std.specs.Prelude.{◌≡◌, ℕ, ◌+◌, ◌<◌, ◌^◌, ◌⊎◌, ℤ, pos, negsuc, Option, None, Some}
use Rattle.snap_graph.specs.declared.value.Value.{Value}
use Rattle.snap_graph.specs.declared.value.Value.TheVariants.{Undefined, Null, Bool, Int, Text, Node, Empty}

-- an integer from -(2^53 - 1) to 2^53 - 1 (ECMA-262, 21.1.2.8 and 21.1.2.6)
abbrev pub IsSafe : ℤ → Type 0
IsSafe (pos n) = n < 2 ^ 53
IsSafe (negsuc n) = n + 1 < 2 ^ 53

-- the number of a node, where the value is one
abbrev pub node_of : Value → Option ℕ
node_of Undefined = None
node_of Null = None
node_of (Bool b) = None
node_of (Int z) = None
node_of (Text text) = None
node_of (Node node) = Some node
node_of Empty = None

-- a value among so many nodes: its integer is safe, and its node is one of them; the mark of an empty place is no value
abbrev pub IsValue : ℕ → Value → Type 0
IsValue count Undefined = Unit {0}
IsValue count Null = Unit {0}
IsValue count (Bool b) = Unit {0}
IsValue count (Int z) = IsSafe z
IsValue count (Text text) = Unit {0}
IsValue count (Node node) = node < count
IsValue count Empty = ⊥

-- what a place holds that may be empty
abbrev pub IsPlace : ℕ → Value → Type 0
IsPlace count value = (value ≡ Empty) ⊎ IsValue count value

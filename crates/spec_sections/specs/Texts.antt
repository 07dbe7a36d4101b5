-- The texts of values.
use Rattle.std.specs.Prelude.{ℕ, Contains, List}
use Rattle.snap_graph.specs.declared.value.Value.{Value}
use Rattle.snap_graph.specs.declared.value.Value.TheVariants.{Undefined, Null, Bool, Int, Text, Node, Empty}

-- a text is one of the strings; other values have no text
abbrev pub HasText : List (List ℕ) → Value → Type 0
HasText strings Undefined = Unit {0}
HasText strings Null = Unit {0}
HasText strings (Bool b) = Unit {0}
HasText strings (Int z) = Unit {0}
HasText strings (Text text) = Contains strings text
HasText strings (Node node) = Unit {0}
HasText strings Empty = Unit {0}

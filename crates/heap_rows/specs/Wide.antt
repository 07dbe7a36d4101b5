-- A heap with a plain object of so many properties.
use Rattle.std.specs.Prelude.{ℕ, zero, suc, ◌/◌, ◌%◌, false, List, [], ◌∷◌, ◌++◌}
use Rattle.snap_graph.specs.declared.kind.Kind.TheVariants as kind
use Rattle.snap_graph.specs.declared.node.Node.{Node}
use Rattle.snap_graph.specs.declared.value.Property.{Property}
use Rattle.snap_graph.specs.declared.value.Value.TheVariants as value
use Rattle.snap_graph.specs.Intrinsics.{intrinsics}

-- a key of two units for each number below 2^32
abbrev pub key_of : ℕ → List ℕ
key_of n = n % 65536 ∷ n / 65536 ∷ []

abbrev pub property_of : ℕ → Property
property_of n = record { key = key_of n; value = value.Null }

unfoldable pub many : ℕ → List Property
many zero = []
many (suc n) = many n ++ property_of n ∷ []

abbrev pub object : List Property → Node
object properties = record { kind = kind.Plain; prototype = value.Null; frozen = false; properties = properties; elements = [] }

abbrev pub wide : ℕ → List Node
wide n = intrinsics ++ object (many n) ∷ []

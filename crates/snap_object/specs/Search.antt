-- Searching a property along prototypes.
use Rattle.std.specs.Prelude.{◌≡◌, ◌<◌, ℕ, List, [], ◌∷◌, length, Option, None, Some, if◌then◌else◌}
use Rattle.snap_graph.specs.declared.node.Node.{Node}
use Rattle.snap_graph.specs.declared.value.Value.{Value}
use Rattle.spec_values.specs.Access.{is_size, is_special, reached_from}
use Rattle.spec_values.specs.Operations.{kind_of, own_value}
use Rattle.snap_object.specs.declared.search.Found.{Found}
use Rattle.snap_object.specs.declared.search.Found.TheVariants.{Special, Size, Own, Absent}

-- what a node has, or what is found further along
abbrev pub own_or : ℕ → Option Value → Found Value → Found Value
own_or number None further = further
own_or number (Some value) further = Own number value

-- what is found at a node, or further along
abbrev pub found_at : List Node → List ℕ → ℕ → Found Value → Found Value
found_at nodes name number further =
    if is_special (kind_of nodes number) name then Special
    else (if is_size number name then Size number else own_or number (own_value nodes number name) further)

-- what is found first along nodes
abbrev pub found_along : List Node → List ℕ → List ℕ → Found Value
found_along nodes name [] = Absent
found_along nodes name (number ∷ rest) = found_at nodes name number (found_along nodes name rest)

-- what is found, as the values that are held
abbrev pub shown : {H : Type 0} → (H → Value) → Found H → Found Value
shown meaning Special = Special
shown meaning (Size prototype) = Size prototype
shown meaning (Own number held) = Own number (meaning held)
shown meaning Absent = Absent

abbrev pub shown_or : {H : Type 0} → (H → Value) → Option (Found H) → Found Value → Found Value
shown_or meaning None further = further
shown_or meaning (Some found) further = shown meaning found

-- what is found is the store's own, at one of so many nodes
abbrev pub IsOwn : {H : Type 0} → (H → Type 0) → ℕ → Found H → Type 0
IsOwn owns count Special = Unit {0}
IsOwn owns count (Size prototype) = Unit {0}
IsOwn owns count (Own number held) = (number < count) × owns held
IsOwn owns count Absent = Unit {0}

-- the next node along the prototypes, or none
abbrev pub Follows : List Node → ℕ → Option ℕ → Type 0
Follows nodes number None = reached_from nodes number ≡ number ∷ []
Follows nodes number (Some next) = (reached_from nodes number ≡ number ∷ reached_from nodes next) × (next < length nodes)

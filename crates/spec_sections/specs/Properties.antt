-- What the context section of a global object means: its properties, in order.
use Rattle.std.specs.Prelude.{◌≡◌, ℕ, ◌≤◌, All, Contains, List, map, Some, slice_get}
use Rattle.snap_graph.specs.declared.value.Value.{Value}
use Rattle.snap_graph.specs.declared.value.Value.TheVariants.{Undefined, Null, Bool, Int, Text, Node, Empty}
use Rattle.snap_graph.specs.declared.value.Property.{Property}
pub use Rattle.snap_graph.specs.Values.{IsSafe}
use Rattle.spec_format.specs.Shapes.{HasKeys}
use Rattle.spec_sections.specs.Global.{global_node, global_section}

-- what a global object may hold: a safe integer, one of the strings, an intrinsic or the global object itself, and the
-- four values that are spelled without a number; the mark of an empty slot is no value
abbrev pub IsGlobalValue : List (List ℕ) → Value → Type 0
IsGlobalValue strings Undefined = Unit {0}
IsGlobalValue strings Null = Unit {0}
IsGlobalValue strings (Bool b) = Unit {0}
IsGlobalValue strings (Int z) = IsSafe z
IsGlobalValue strings (Text text) = Contains strings text
IsGlobalValue strings (Node node) = node ≤ global_node
IsGlobalValue strings Empty = ⊥

-- properties that have the strings of these numbers as their keys, in order, and that a global object may hold
pub record AreProperties (strings : List (List ℕ)) (names : List ℕ) (properties : List Property) : Type 0 where
  pub keys : map (λ p. Some p.key) properties ≡ map (slice_get strings) names
  pub values : All (λ p. IsGlobalValue strings p.value) properties

-- the section is that of a global object with these properties, whose shape has their keys
pub record DenotesGlobal (strings : List (List ℕ)) (shapes : List (ℕ × ℕ)) (section : List ℕ) (properties : List Property) : Type 0 where
  pub shape : ℕ
  pub names : List ℕ
  pub has_keys : HasKeys shapes shape names
  pub are_properties : AreProperties strings names properties
  pub bytes : section ≡ global_section strings shape (map (λ p. p.value) properties)

-- What a build captures: the properties of the global object, and the texts among them.
use Rattle.std.specs.Prelude.{ℕ, List, [], ◌∷◌, ◌++◌, codes, map}
use Rattle.snap_graph.specs.declared.intrinsic.TheConstants.{OBJECT, ARRAY, STRING, MAP, SET, ERROR, TYPE_ERROR, REFERENCE_ERROR, RANGE_ERROR, CONSOLE, HOST, REQUIRE, GLOBAL_OBJECT}
use Rattle.snap_graph.specs.declared.value.Property.{Property}
use Rattle.snap_graph.specs.declared.value.Value.{Value}
use Rattle.snap_graph.specs.declared.value.Value.TheVariants as value
use Rattle.snap_commands.specs.Thin.{Globals}

-- a property that holds a node
abbrev pub own : List ℕ → ℕ → Property
own name node = record { key = name; value = value.Node node }

-- the properties that the global object has of its own: itself, and intrinsics
abbrev pub own_properties : List Property
own_properties =
    own (codes "globalThis") GLOBAL_OBJECT ∷ own (codes "Object") OBJECT ∷ own (codes "Array") ARRAY ∷ own (codes "String") STRING
    ∷ own (codes "Map") MAP ∷ own (codes "Set") SET ∷ own (codes "Error") ERROR ∷ own (codes "TypeError") TYPE_ERROR
    ∷ own (codes "ReferenceError") REFERENCE_ERROR ∷ own (codes "RangeError") RANGE_ERROR ∷ own (codes "console") CONSOLE ∷ own (codes "host") HOST
    ∷ own (codes "require") REQUIRE ∷ []

-- a global, as a property
abbrev pub property_of : List ℕ × Value → Property
property_of global = record { key = global.0; value = global.1 }

-- the properties of a global object with these globals: its own ones come first
abbrev pub properties_of : Globals → List Property
properties_of globals = own_properties ++ map property_of globals

-- the texts of a value
abbrev pub value_texts : Value → List (List ℕ)
value_texts value.Undefined = []
value_texts value.Null = []
value_texts (value.Bool b) = []
value_texts (value.Int z) = []
value_texts (value.Text text) = text ∷ []
value_texts (value.Node node) = []
value_texts value.Empty = []

-- the keys of properties and the texts that they hold, in order
abbrev pub texts_of : List Property → List (List ℕ)
texts_of [] = []
texts_of (property ∷ properties) = property.key ∷ value_texts property.value ++ texts_of properties

-- The nodes that every heap begins with: the intrinsic objects (ECMA-262, 6.1.7.4), the module v8 and the host's objects.
use Rattle.std.specs.Prelude.{◌≡◌, ℕ, zero, suc, ◌+◌, ◌≤◌, ◌⊎◌, true, List, [], ◌∷◌, ◌++◌, codes}
use Rattle.snap_graph.specs.declared.intrinsic.TheConstants.{OBJECT_PROTOTYPE, FUNCTION_PROTOTYPE, ARRAY_PROTOTYPE, STRING_PROTOTYPE, MAP_PROTOTYPE, SET_PROTOTYPE, ERROR_PROTOTYPE, TYPE_ERROR_PROTOTYPE, REFERENCE_ERROR_PROTOTYPE, RANGE_ERROR_PROTOTYPE, OBJECT, ARRAY, STRING, MAP, SET, ERROR, TYPE_ERROR, REFERENCE_ERROR, RANGE_ERROR, STARTUP_SNAPSHOT, REQUIRE, HAS_OWN_PROPERTY, ARRAY_FILTER, ARRAY_FOR_EACH, ARRAY_INDEX_OF, ARRAY_JOIN, ARRAY_MAP, ARRAY_POP, ARRAY_PUSH, ARRAY_SLICE, STRING_CHAR_CODE_AT, STRING_SLICE, MAP_CLEAR, MAP_DELETE, MAP_FOR_EACH, MAP_GET, MAP_HAS, MAP_SET, SET_ADD, SET_CLEAR, SET_DELETE, SET_FOR_EACH, SET_HAS, OBJECT_CREATE, OBJECT_FREEZE, OBJECT_GET_PROTOTYPE_OF, OBJECT_IS_FROZEN, OBJECT_KEYS, ARRAY_IS_ARRAY, CONSOLE_LOG, HOST_ARGS, HOST_CLOSE, HOST_ISOLATE, HOST_NATIVE, HOST_RESOURCE, ADD_DESERIALIZE_CALLBACK, ADD_SERIALIZE_CALLBACK, IS_BUILDING_SNAPSHOT, SET_DESERIALIZE_MAIN_FUNCTION}
use Rattle.snap_graph.specs.declared.kind.Kind.{Kind}
use Rattle.snap_graph.specs.declared.kind.Kind.TheVariants as kind
use Rattle.snap_graph.specs.declared.node.Node.{Node}
use Rattle.snap_graph.specs.declared.value.Property.{Property}
use Rattle.snap_graph.specs.declared.value.Value.{Value}
use Rattle.snap_graph.specs.declared.value.Value.TheVariants as value

-- the numbers of built-in functions: those of the intrinsics, and of the external functions 62 and 63
abbrev pub IsNative : ℕ → Type 0
IsNative n = (n ≡ 1) ⊎ ((10 ≤ n) × (n ≤ 18)) ⊎ ((23 ≤ n) × (n ≤ 63))

-- an own property that holds a node, and one that holds a text
abbrev pub own : List ℕ → ℕ → Property
own name node = record { key = name; value = value.Node node }

abbrev pub own_text : List ℕ → List ℕ → Property
own_text name text = record { key = name; value = value.Text text }

-- a frozen node without elements
abbrev pub frozen_node : Kind → Value → List Property → Node
frozen_node kind prototype properties = record { kind = kind; prototype = prototype; frozen = true; properties = properties; elements = [] }

-- a plain node whose prototype is Object.prototype
abbrev pub plain : List Property → Node
plain properties = frozen_node kind.Plain (value.Node OBJECT_PROTOTYPE) properties

-- a built-in function, whose prototype is Function.prototype
abbrev pub native : ℕ → List Property → Node
native number properties = frozen_node (kind.Native number) (value.Node FUNCTION_PROTOTYPE) properties

-- one of the constructors of errors that Error is the prototype of
abbrev pub error_native : ℕ → List Property → Node
error_native number properties = frozen_node (kind.Native number) (value.Node ERROR) properties

-- the prototype of errors of a name, which a constructor makes, and one whose prototype is Error.prototype
abbrev pub error_properties : ℕ → List ℕ → List Property
error_properties maker name = own (codes "constructor") maker ∷ own_text (codes "message") [] ∷ own_text (codes "name") name ∷ []

abbrev pub error_prototype : ℕ → List ℕ → Node
error_prototype maker name = frozen_node kind.Plain (value.Node ERROR_PROTOTYPE) (error_properties maker name)

-- 0 to 9: the prototypes of Object, Function, Array, String, Map, Set, Error, TypeError, ReferenceError and RangeError
unfoldable pub prototypes : List Node
prototypes =
    frozen_node kind.Plain value.Null (own (codes "constructor") OBJECT ∷ own (codes "hasOwnProperty") HAS_OWN_PROPERTY ∷ [])
    ∷ frozen_node (kind.Native FUNCTION_PROTOTYPE) (value.Node OBJECT_PROTOTYPE) []
    ∷ frozen_node kind.Array (value.Node OBJECT_PROTOTYPE) (own (codes "constructor") ARRAY ∷ own (codes "filter") ARRAY_FILTER ∷ own (codes "forEach") ARRAY_FOR_EACH ∷ own (codes "indexOf") ARRAY_INDEX_OF ∷ own (codes "join") ARRAY_JOIN ∷ own (codes "map") ARRAY_MAP ∷ own (codes "pop") ARRAY_POP ∷ own (codes "push") ARRAY_PUSH ∷ own (codes "slice") ARRAY_SLICE ∷ [])
    ∷ plain (own (codes "constructor") STRING ∷ own (codes "charCodeAt") STRING_CHAR_CODE_AT ∷ own (codes "slice") STRING_SLICE ∷ [])
    ∷ plain (own (codes "constructor") MAP ∷ own (codes "clear") MAP_CLEAR ∷ own (codes "delete") MAP_DELETE ∷ own (codes "forEach") MAP_FOR_EACH ∷ own (codes "get") MAP_GET ∷ own (codes "has") MAP_HAS ∷ own (codes "set") MAP_SET ∷ [])
    ∷ plain (own (codes "constructor") SET ∷ own (codes "add") SET_ADD ∷ own (codes "clear") SET_CLEAR ∷ own (codes "delete") SET_DELETE ∷ own (codes "forEach") SET_FOR_EACH ∷ own (codes "has") SET_HAS ∷ [])
    ∷ plain (error_properties ERROR (codes "Error"))
    ∷ error_prototype TYPE_ERROR (codes "TypeError")
    ∷ error_prototype REFERENCE_ERROR (codes "ReferenceError")
    ∷ error_prototype RANGE_ERROR (codes "RangeError")
    ∷ []

-- 10 to 18: Object, Array, String, Map, Set, Error, TypeError, ReferenceError and RangeError
unfoldable pub constructors : List Node
constructors =
    native OBJECT (own (codes "prototype") OBJECT_PROTOTYPE ∷ own (codes "create") OBJECT_CREATE ∷ own (codes "freeze") OBJECT_FREEZE ∷ own (codes "getPrototypeOf") OBJECT_GET_PROTOTYPE_OF ∷ own (codes "isFrozen") OBJECT_IS_FROZEN ∷ own (codes "keys") OBJECT_KEYS ∷ [])
    ∷ native ARRAY (own (codes "prototype") ARRAY_PROTOTYPE ∷ own (codes "isArray") ARRAY_IS_ARRAY ∷ [])
    ∷ native STRING (own (codes "prototype") STRING_PROTOTYPE ∷ [])
    ∷ native MAP (own (codes "prototype") MAP_PROTOTYPE ∷ [])
    ∷ native SET (own (codes "prototype") SET_PROTOTYPE ∷ [])
    ∷ native ERROR (own (codes "prototype") ERROR_PROTOTYPE ∷ [])
    ∷ error_native TYPE_ERROR (own (codes "prototype") TYPE_ERROR_PROTOTYPE ∷ [])
    ∷ error_native REFERENCE_ERROR (own (codes "prototype") REFERENCE_ERROR_PROTOTYPE ∷ [])
    ∷ error_native RANGE_ERROR (own (codes "prototype") RANGE_ERROR_PROTOTYPE ∷ [])
    ∷ []

-- 19 to 23: console, host, the module v8, its startupSnapshot, and require
unfoldable pub host_objects : List Node
host_objects =
    plain (own (codes "log") CONSOLE_LOG ∷ [])
    ∷ plain (own (codes "args") HOST_ARGS ∷ own (codes "close") HOST_CLOSE ∷ own (codes "isolate") HOST_ISOLATE ∷ own (codes "native") HOST_NATIVE ∷ own (codes "resource") HOST_RESOURCE ∷ [])
    ∷ plain (own (codes "startupSnapshot") STARTUP_SNAPSHOT ∷ [])
    ∷ plain (own (codes "addDeserializeCallback") ADD_DESERIALIZE_CALLBACK ∷ own (codes "addSerializeCallback") ADD_SERIALIZE_CALLBACK ∷ own (codes "isBuildingSnapshot") IS_BUILDING_SNAPSHOT ∷ own (codes "setDeserializeMainFunction") SET_DESERIALIZE_MAIN_FUNCTION ∷ [])
    ∷ native REQUIRE []
    ∷ []

-- the methods, built-in functions without own properties, from a number on
abbrev pub natives_from : ℕ → ℕ → List Node
natives_from number zero = []
natives_from number (suc count) = native number [] ∷ natives_from (number + 1) count

-- all 62, by number; 24 to 61 are the methods that the others name
unfoldable pub intrinsics : List Node
intrinsics = prototypes ++ constructors ++ host_objects ++ natives_from 24 38

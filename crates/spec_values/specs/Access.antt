-- Reading, writing and deleting a property (ECMA-262, 10.1.8 to 10.1.10, 10.4.2 and 10.4.3), and what this profile stops at.
use Rattle.std.specs.Prelude.{ℕ, ◌==◌, ◌&&◌, ◌||◌, ℤ, pos, negsuc, Bool, true, false, nat_lt, count_by, List, [], ◌∷◌, codes, length, slice_get, Option, None, Some, is_some, unwrap_or, if◌then◌else◌, Result, Ok, Err}
use Rattle.std.specs.Option.{option_and_then}
use Rattle.std.specs.Str.{bytes_eq as text_eq}
use Rattle.snap_base.specs.declared.stop.Stop.{Stop}
use Rattle.snap_base.specs.declared.stop.Stop.TheVariants.{NotInProfile}
use Rattle.snap_graph.specs.declared.intrinsic.TheConstants.{MAP_PROTOTYPE, SET_PROTOTYPE, STRING_PROTOTYPE, TYPE_ERROR_PROTOTYPE}
use Rattle.snap_graph.specs.declared.kind.Kind.{Kind}
use Rattle.snap_graph.specs.declared.kind.Kind.TheVariants as kind
use Rattle.snap_graph.specs.declared.node.Node.{Node}
use Rattle.snap_graph.specs.declared.value.Value.{Value}
use Rattle.snap_graph.specs.declared.value.Value.TheVariants.{Undefined, Null, Bool as Truth, Int, Text, Node as At, Empty}
use Rattle.snap_graph.specs.Lawful.{chain_within, record_keys}
use Rattle.snap_graph.specs.OwnKeys.{array_index, index_end}
use Rattle.spec_values.specs.Answer.{◌>>=◌, Action, give, stop, throw_value, use_key}
use Rattle.spec_values.specs.Conversions.{safe, text_of}
use Rattle.spec_values.specs.Operations.{count_at, element_at, elements_of, frozen_at, kind_at, kind_of, make, own_at, push_element, put_own, remove_own, see, set_element}

-- a result, or a stop
abbrev pub or_stop : {A : Type 0} → Result A Stop → Action A
or_stop (Ok result) = give result
or_stop (Err why) = stop why

-- an error is made, given its message, whose key is used, and thrown (20.5.1.1); its prototype tells its kind
abbrev pub throw_error : {A : Type 0} → ℕ → List ℕ → Action A
throw_error prototype message =
    make kind.Error (At prototype) >>= λ error.
    use_key (codes "message") >>= λ _.
    put_own error (codes "message") (Text message) >>= λ _.
    throw_value (At error)

abbrev pub type_error : {A : Type 0} → List ℕ → Action A
type_error message = throw_error TYPE_ERROR_PROTOTYPE message

abbrev pub not_writable : {A : Type 0} → Action A
not_writable = type_error (codes "not writable")

abbrev pub no_properties : {A : Type 0} → Action A
no_properties = type_error (codes "no properties")

-- the key of a property is the text of a value; it is used, and `__proto__` is not in this profile
abbrev pub named_key : Value → Action (List ℕ)
named_key key =
    or_stop (text_of key) >>= λ name.
    use_key name >>= λ _.
    if text_eq name (codes "__proto__") then stop NotInProfile else give name

-- the array index that a key is, as an integer or as its text
abbrev pub number_index : ℤ → Option ℕ
number_index (pos n) = if nat_lt n index_end then Some n else None
number_index (negsuc n) = None

abbrev pub index_of : Value → Option ℕ
index_of Undefined = None
index_of Null = None
index_of (Truth b) = None
index_of (Int z) = number_index z
index_of (Text text) = array_index text
index_of (At node) = None
index_of Empty = None

abbrev pub is_array : Option Kind → Bool
is_array None = false
is_array (Some kind.Plain) = false
is_array (Some kind.Array) = true
is_array (Some (kind.Function script tree)) = false
is_array (Some (kind.Native native)) = false
is_array (Some (kind.Scope scope)) = false
is_array (Some kind.Error) = false
is_array (Some kind.Map) = false
is_array (Some kind.Set) = false
is_array (Some (kind.Resource number closed)) = false

-- the element that a key names, which is an array's alone
abbrev pub element_named : Option Kind → Value → Option ℕ
element_named kind key = if is_array kind then index_of key else None

abbrev pub element_of : List Node → ℕ → Value → Option ℕ
element_of nodes number key = element_named (kind_of nodes number) key

-- the keys of a function, a built-in function or an error that are not in this profile
abbrev pub is_special : Option Kind → List ℕ → Bool
is_special None name = false
is_special (Some kind.Plain) name = false
is_special (Some kind.Array) name = false
is_special (Some (kind.Function script tree)) name = text_eq name (codes "name") || text_eq name (codes "length") || text_eq name (codes "prototype")
is_special (Some (kind.Native native)) name = text_eq name (codes "name") || text_eq name (codes "length")
is_special (Some (kind.Scope scope)) name = false
is_special (Some kind.Error) name = text_eq name (codes "stack")
is_special (Some kind.Map) name = false
is_special (Some kind.Set) name = false
is_special (Some (kind.Resource number closed)) name = false

-- `size` of Map.prototype and Set.prototype, which ECMA-262 has as accessors (24.1.3.10 and 24.2.3.9)
abbrev pub is_size : ℕ → List ℕ → Bool
is_size number name = (number == MAP_PROTOTYPE || number == SET_PROTOTYPE) && text_eq name (codes "size")

-- `length` of an array
abbrev pub names_length : Option Kind → List ℕ → Bool
names_length kind name = is_array kind && text_eq name (codes "length")

abbrev pub is_length : List Node → ℕ → List ℕ → Bool
is_length nodes number name = names_length (kind_of nodes number) name

-- no chain of prototypes is longer: the number of a node has 32 bits
abbrev pub chain_end : ℕ
chain_end = 4294967296

-- a node, and then those along its prototypes
abbrev pub reached_from : List Node → ℕ → List ℕ
reached_from nodes number = number ∷ unwrap_or (option_and_then (λ node. chain_within nodes chain_end node.prototype) (slice_get nodes number)) []

abbrev pub reached : ℕ → Action (List ℕ)
reached number = see (λ nodes. reached_from nodes number)

-- how many records there are that were not removed
abbrev pub is_there : Value → Bool
is_there Undefined = true
is_there Null = true
is_there (Truth b) = true
is_there (Int z) = true
is_there (Text text) = true
is_there (At node) = true
is_there Empty = false

-- the number of entries of a Map for Map.prototype, and of a Set for Set.prototype
abbrev pub entry_count : ℕ → Option Kind → List Value → Option ℕ
entry_count prototype None elements = None
entry_count prototype (Some kind.Plain) elements = None
entry_count prototype (Some kind.Array) elements = None
entry_count prototype (Some (kind.Function script tree)) elements = None
entry_count prototype (Some (kind.Native native)) elements = None
entry_count prototype (Some (kind.Scope scope)) elements = None
entry_count prototype (Some kind.Error) elements = None
entry_count prototype (Some kind.Map) elements = if prototype == MAP_PROTOTYPE then Some (count_by is_there (record_keys elements)) else None
entry_count prototype (Some kind.Set) elements = if prototype == SET_PROTOTYPE then Some (count_by is_there elements) else None
entry_count prototype (Some (kind.Resource number closed)) elements = None

-- how many records a node has that were not removed, for one of the two prototypes
abbrev pub entries_at : ℕ → ℕ → Action (Option ℕ)
entries_at prototype number = see (λ nodes. entry_count prototype (kind_of nodes number) (elements_of nodes number))

-- a number of units, elements or records as a value, where it is safe
abbrev pub count_value : ℕ → Action Value
count_value n = or_stop (safe (pos n))

abbrev pub size_or_throw : Option ℕ → Action Value
size_or_throw None = type_error (codes "wrong receiver")
size_or_throw (Some n) = count_value n

-- the size of a base, read at one of the two prototypes
abbrev pub size_of : ℕ → Value → Action Value
size_of prototype Undefined = size_or_throw None
size_of prototype Null = size_or_throw None
size_of prototype (Truth b) = size_or_throw None
size_of prototype (Int z) = size_or_throw None
size_of prototype (Text text) = size_or_throw None
size_of prototype (At base) = entries_at prototype base >>= λ count. size_or_throw count
size_of prototype Empty = size_or_throw None

-- what is found at a node, or further along the prototypes
abbrev pub found_or : Option Value → Action (Option Value) → Action (Option Value)
found_or None further = further
found_or (Some held) further = give (Some held)

-- looking a key up along nodes, for a base: what it holds, or none where it is absent
abbrev pub look_up : Value → List ℕ → List ℕ → Action (Option Value)
look_up base name [] = give None
look_up base name (number ∷ rest) =
    kind_at number >>= λ kind. own_at number name >>= λ found.
    if is_special kind name then stop NotInProfile
    else (if is_size number name then (size_of number base >>= λ size. give (Some size))
    else found_or found (look_up base name rest))

-- undefined stands for what is absent
abbrev pub or_undefined : Option Value → Value
or_undefined found = unwrap_or found Undefined

-- reading along nodes
abbrev pub read_along : Value → List ℕ → List ℕ → Action Value
read_along base name numbers = look_up base name numbers >>= λ found. give (or_undefined found)

-- the text of one unit, or undefined where there is none
abbrev pub unit_or_undefined : Option ℕ → Value
unit_or_undefined None = Undefined
unit_or_undefined (Some unit) = Text (unit ∷ [])

-- reading from a text (10.4.3.5): its units, its length, and otherwise along String.prototype
abbrev pub get_of_text : List ℕ → Value → Option ℕ → Action Value
get_of_text text key (Some place) = give (unit_or_undefined (slice_get text place))
get_of_text text key None =
    named_key key >>= λ name. reached STRING_PROTOTYPE >>= λ numbers.
    if text_eq name (codes "length") then count_value (length text) else read_along (Text text) name numbers

-- reading from a node: an element of an array, its length, and otherwise along the prototypes
abbrev pub get_of_node : ℕ → Value → Option ℕ → Action Value
get_of_node number key (Some place) = element_at number place >>= λ found. give (or_undefined found)
get_of_node number key None =
    named_key key >>= λ name. kind_at number >>= λ kind. count_at number >>= λ count. reached number >>= λ numbers.
    if names_length kind name then count_value count else read_along (At number) name numbers

-- reading a property (13.3.2 and 6.2.5.5, GetValue)
abbrev pub get : Value → Value → Action Value
get Undefined key = no_properties
get Null key = no_properties
get (Truth b) key = named_key key >>= λ _. stop NotInProfile
get (Int z) key = named_key key >>= λ _. stop NotInProfile
get (Text text) key = get_of_text text key (index_of key)
get (At number) key = kind_at number >>= λ kind. get_of_node number key (element_named kind key)
get Empty key = stop NotInProfile

-- whether a write of a key may go on, looking along nodes: a frozen node that has it, and `size`, refuse it (10.1.9.2)
abbrev pub may_write : List ℕ → List ℕ → Action Unit
may_write name [] = give tt
may_write name (number ∷ rest) =
    kind_at number >>= λ kind. own_at number name >>= λ found. frozen_at number >>= λ frozen.
    if is_special kind name then stop NotInProfile
    else (if is_size number name then not_writable
    else (if is_some found then (if frozen then not_writable else give tt)
    else may_write name rest))

-- an element of an array is written, or added behind the last one
abbrev pub set_element_of : ℕ → ℕ → Value → Action Unit
set_element_of number place held =
    count_at number >>= λ count. frozen_at number >>= λ frozen.
    if frozen then not_writable
    else (if nat_lt place count then set_element number place held
    else (if place == count then push_element number held else stop NotInProfile))

-- a property of a node is written, or created
abbrev pub set_named : ℕ → List ℕ → Value → Action Unit
set_named number name held =
    kind_at number >>= λ kind. frozen_at number >>= λ frozen. reached number >>= λ numbers.
    if names_length kind name then (if frozen then not_writable else stop NotInProfile)
    else (may_write name numbers >>= λ _. frozen_at number >>= λ now.
    if now then not_writable else put_own number name held)

abbrev pub set_of_node : ℕ → Value → Value → Option ℕ → Action Unit
set_of_node number key held (Some place) = set_element_of number place held
set_of_node number key held None = named_key key >>= λ name. set_named number name held

-- a text has no property that could be written; an index is no use of a key
abbrev pub set_of_text : Value → Option ℕ → Action Unit
set_of_text key (Some place) = not_writable
set_of_text key None = named_key key >>= λ _. not_writable

-- writing a property (6.2.5.6, PutValue)
abbrev pub set : Value → Value → Value → Action Unit
set Undefined key held = no_properties
set Null key held = no_properties
set (Truth b) key held = named_key key >>= λ _. not_writable
set (Int z) key held = named_key key >>= λ _. not_writable
set (Text text) key held = set_of_text key (index_of key)
set (At number) key held = kind_at number >>= λ kind. set_of_node number key held (element_named kind key)
set Empty key held = stop NotInProfile

-- a property of a node is deleted; deleting what is not there is no fault
abbrev pub delete_named : ℕ → List ℕ → Action Bool
delete_named number name =
    kind_at number >>= λ kind. own_at number name >>= λ found. frozen_at number >>= λ frozen.
    if is_special kind name || names_length kind name then stop NotInProfile
    else (if is_size number name || (is_some found && frozen) then not_writable
    else (remove_own number name >>= λ _. give true))

abbrev pub delete_of_node : ℕ → Value → Option ℕ → Action Bool
delete_of_node number key (Some place) = stop NotInProfile
delete_of_node number key None = named_key key >>= λ name. delete_named number name

abbrev pub delete_of_text : Value → Option ℕ → Action Bool
delete_of_text key (Some place) = stop NotInProfile
delete_of_text key None = named_key key >>= λ _. stop NotInProfile

-- deleting a property (13.5.1)
abbrev pub delete : Value → Value → Action Bool
delete Undefined key = no_properties
delete Null key = no_properties
delete (Truth b) key = named_key key >>= λ _. stop NotInProfile
delete (Int z) key = named_key key >>= λ _. stop NotInProfile
delete (Text text) key = delete_of_text key (index_of key)
delete (At number) key = kind_at number >>= λ kind. delete_of_node number key (element_named kind key)
delete Empty key = stop NotInProfile

-- Parts of an access.
use Rattle.std.specs.Prelude.{ℕ, ◌&&◌, ◌||◌, Bool, true, List, codes, length, Option, None, Some, is_some, if◌then◌else◌}
use Rattle.std.specs.Str.{bytes_eq as text_eq}
use Rattle.snap_base.specs.declared.stop.Stop.TheVariants.{NotInProfile}
use Rattle.snap_graph.specs.declared.intrinsic.TheConstants.{STRING_PROTOTYPE}
use Rattle.snap_graph.specs.declared.node.Node.{Node}
use Rattle.snap_graph.specs.declared.value.Value.{Value}
use Rattle.snap_graph.specs.declared.value.Value.TheVariants.{Undefined, Null, Bool as Truth, Int, Node as At, Text, Empty}
use Rattle.spec_values.specs.Access.{count_value, is_length, is_size, is_special, look_up, may_write, named_key, names_length, no_properties, not_writable, or_undefined, reached, reached_from, read_along, set_named, size_of}
use Rattle.spec_values.specs.Answer.{◌>>=◌, Action, give, stop}
use Rattle.spec_values.specs.Asking.{not_defined}
use Rattle.snap_object.specs.declared.search.Found.{Found}
use Rattle.snap_object.specs.declared.search.Found.TheVariants.{Special, Size, Own, Absent}
use Rattle.spec_values.specs.Operations.{count_at, element_at, is_frozen, kind_at, kind_of, own_value, put_own, remove_own}

-- a key is used, and what follows is not in this profile
abbrev pub outside : {A : Type 0} → Value → Action A
outside key = named_key key >>= λ _. stop NotInProfile

-- an access by a key that has no text in this profile
abbrev pub unspelled : {A : Type 0} → Value → Action A
unspelled Undefined = no_properties
unspelled Null = no_properties
unspelled (Truth b) = stop NotInProfile
unspelled (Int z) = stop NotInProfile
unspelled (Text text) = stop NotInProfile
unspelled (At number) = stop NotInProfile
unspelled Empty = stop NotInProfile

-- looking a key up from a node on, and reading it there
abbrev pub found_from : Value → List ℕ → ℕ → Action (Option Value)
found_from base name from = reached from >>= λ numbers. look_up base name numbers

abbrev pub looked_up : Value → List ℕ → ℕ → Action Value
looked_up base name from = found_from base name from >>= λ found. give (or_undefined found)

-- whether there is anything under a key from a node on
abbrev pub defined_from : Value → List ℕ → ℕ → Action Bool
defined_from base name from = found_from base name from >>= λ found. give (is_some found)

-- a name of the global object is written, where it is there
abbrev pub set_defined : ℕ → List ℕ → Value → Bool → Action Unit
set_defined global name value there = if there then set_named global name value else not_defined

-- a key is used, and what has no properties is asked for one
abbrev pub nothing_owned : {A : Type 0} → Value → Action A
nothing_owned key = named_key key >>= λ _. no_properties

-- the size of a base, which is there
abbrev pub size_found : ℕ → Value → Action (Option Value)
size_found prototype base = size_of prototype base >>= λ size. give (Some size)

-- reading an element
abbrev pub element_read : ℕ → ℕ → Action Value
element_read number place = element_at number place >>= λ found. give (or_undefined found)

-- reading a name from a text, and from a node
abbrev pub text_rest : List ℕ → List ℕ → Action Value
text_rest text name =
    reached STRING_PROTOTYPE >>= λ numbers. if text_eq name (codes "length") then count_value (length text) else read_along (Text text) name numbers

abbrev pub node_rest : ℕ → List ℕ → Action Value
node_rest number name =
    kind_at number >>= λ kind. count_at number >>= λ count. reached number >>= λ numbers.
    if names_length kind name then count_value count else read_along (At number) name numbers

-- an index is no use of a key; a key is used, and what follows is not in this profile
abbrev pub outside_unless : {A : Type 0} → Option ℕ → Value → Action A
outside_unless (Some place) key = stop NotInProfile
outside_unless None key = outside key

-- a name that can't be deleted from a node in this profile
abbrev pub is_outside : List Node → ℕ → List ℕ → Bool
is_outside nodes number name = is_special (kind_of nodes number) name || is_length nodes number name

-- a property that may not be deleted
abbrev pub is_kept : List Node → ℕ → List ℕ → Bool
is_kept nodes number name = is_size number name || (is_some (own_value nodes number name) && is_frozen nodes number)

-- a property is removed, if there is one
abbrev pub without : ℕ → List ℕ → Action Bool
without number name = remove_own number name >>= λ _. give true

-- a frozen node refuses a write
abbrev pub unless_frozen : ℕ → Action Unit
unless_frozen number heap = (if is_frozen heap.nodes number then not_writable else give tt) heap

-- `length` of an array is not written
abbrev pub length_kept : ℕ → Action Unit
length_kept number heap = (if is_frozen heap.nodes number then not_writable else stop NotInProfile) heap

-- whether a write may go on, from a node on
abbrev pub may_write_from : List ℕ → ℕ → Action Unit
may_write_from name from heap = may_write name (reached_from heap.nodes from) heap

-- a property is put on a node that is not frozen
abbrev pub put_unless_frozen : ℕ → List ℕ → Value → Action Unit
put_unless_frozen number name value heap = (if is_frozen heap.nodes number then not_writable else put_own number name value) heap

-- a write goes on along the prototypes
abbrev pub set_along : ℕ → List ℕ → Value → Action Unit
set_along number name value = may_write_from name number >>= λ _. put_unless_frozen number name value

-- a key is used, and the write refused
abbrev pub refused : Value → Action Unit
refused key = named_key key >>= λ _. not_writable

-- what a write comes to where this was found
abbrev pub write_where : Found Value → Action Unit
write_where Special = stop NotInProfile
write_where (Size prototype) = not_writable
write_where (Own number value) = unless_frozen number
write_where Absent = give tt

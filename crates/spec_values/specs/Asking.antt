-- What is asked of a value and of its properties, and what names stand for that no scope holds.
use Rattle.std.specs.Prelude.{ℕ, ◌||◌, Bool, true, false, nat_lt, List, codes, length, Option, None, Some, is_some, if◌then◌else◌}
use Rattle.std.specs.Str.{bytes_eq as text_eq}
use Rattle.snap_base.specs.declared.stop.Stop.TheVariants.{NotInProfile}
use Rattle.snap_graph.specs.declared.intrinsic.TheConstants.{REFERENCE_ERROR_PROTOTYPE}
use Rattle.snap_graph.specs.declared.kind.Kind.{Kind}
use Rattle.snap_graph.specs.declared.kind.Kind.TheVariants as kind
use Rattle.snap_graph.specs.declared.value.Value.{Value}
use Rattle.snap_graph.specs.declared.value.Value.TheVariants.{Undefined, Null, Bool as Truth, Int, Text, Node as At, Empty}
use Rattle.spec_values.specs.Access.{element_named, index_of, is_size, is_special, look_up, named_key, names_length, no_properties, reached, set_named, throw_error}
use Rattle.spec_values.specs.Answer.{◌>>=◌, Action, give, stop}
use Rattle.spec_values.specs.Operations.{count_at, kind_at, own_at}

-- a kind of nodes that can be called (ECMA-262, 7.2.3, IsCallable)
abbrev pub can_be_called : Option Kind → Bool
can_be_called None = false
can_be_called (Some kind.Plain) = false
can_be_called (Some kind.Array) = false
can_be_called (Some (kind.Function script tree)) = true
can_be_called (Some (kind.Native native)) = true
can_be_called (Some (kind.Scope scope)) = false
can_be_called (Some kind.Error) = false
can_be_called (Some kind.Map) = false
can_be_called (Some kind.Set) = false
can_be_called (Some (kind.Resource number closed)) = false

-- whether a value can be called
abbrev pub is_callable : Value → Action Bool
is_callable Undefined = give false
is_callable Null = give false
is_callable (Truth b) = give false
is_callable (Int z) = give false
is_callable (Text text) = give false
is_callable (At number) = kind_at number >>= λ kind. give (can_be_called kind)
is_callable Empty = give false

-- what `typeof` gives of a value (13.5.3)
abbrev pub type_of : Value → Action (List ℕ)
type_of Undefined = give (codes "undefined")
type_of Null = give (codes "object")
type_of (Truth b) = give (codes "boolean")
type_of (Int z) = give (codes "number")
type_of (Text text) = give (codes "string")
type_of (At number) = kind_at number >>= λ kind. give (if can_be_called kind then codes "function" else codes "object")
type_of Empty = stop NotInProfile

-- a text has its units and its length as properties of its own (10.4.3.5)
abbrev pub has_own_of_text : List ℕ → Value → Option ℕ → Action Bool
has_own_of_text text key (Some place) = give (nat_lt place (length text))
has_own_of_text text key None = named_key key >>= λ name. give (text_eq name (codes "length"))

-- a node has a name as that of a property of its own; along its prototypes nothing is looked for
abbrev pub has_own_named : ℕ → List ℕ → Action Bool
has_own_named number name =
    kind_at number >>= λ kind. own_at number name >>= λ found.
    if is_special kind name then stop NotInProfile else give (names_length kind name || (is_size number name || is_some found))

abbrev pub has_own_of_node : ℕ → Value → Option ℕ → Action Bool
has_own_of_node number key (Some place) = count_at number >>= λ count. give (nat_lt place count)
has_own_of_node number key None = named_key key >>= λ name. has_own_named number name

-- whether a base has a property of its own (20.1.3.2, Object.prototype.hasOwnProperty): its key is used before the base is judged
abbrev pub has_own : Value → Value → Action Bool
has_own Undefined key = named_key key >>= λ _. no_properties
has_own Null key = named_key key >>= λ _. no_properties
has_own (Truth b) key = named_key key >>= λ _. stop NotInProfile
has_own (Int z) key = named_key key >>= λ _. stop NotInProfile
has_own (Text text) key = has_own_of_text text key (index_of key)
has_own (At number) key = kind_at number >>= λ kind. has_own_of_node number key (element_named kind key)
has_own Empty key = stop NotInProfile

-- what a name stands for that no scope holds: what the global object has under it, or none where it is absent (9.1.1.2.1 and
-- 9.1.1.2.6). This is the use of its key.
abbrev pub find_global : ℕ → List ℕ → Action (Option Value)
find_global global text =
    named_key (Text text) >>= λ name. reached global >>= λ numbers. look_up (At global) name numbers

abbrev pub not_defined : {A : Type 0} → Action A
not_defined = throw_error REFERENCE_ERROR_PROTOTYPE (codes "not defined")

-- reading such a name
abbrev pub defined : Option Value → Action Value
defined None = not_defined
defined (Some held) = give held

-- Writing one whose key was used when it was looked for (9.1.1.2.5): it may be absent by now. Its key is not used again.
abbrev pub set_global : ℕ → List ℕ → Value → Action Unit
set_global global name held =
    reached global >>= λ numbers. look_up (At global) name numbers >>= λ found.
    if is_some found then set_named global name held else not_defined

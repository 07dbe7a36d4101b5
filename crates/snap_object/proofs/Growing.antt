-- Property access goes on from the heap in which it begins.
use Rattle.std.proofs.Common.{ℕ, ◌==◌, Bool, true, nat_lt, pos, List, [], ◌∷◌, codes, length, slice_get, slice_set, Option, None, Some, is_some, if◌then◌else◌}
use Rattle.std.specs.Str.{bytes_eq as text_eq}
use Rattle.snap_base.specs.declared.stop.Stop.TheVariants.{NotInProfile}
use Rattle.snap_graph.specs.declared.intrinsic.TheConstants.{REFERENCE_ERROR_PROTOTYPE, STRING_PROTOTYPE, TYPE_ERROR_PROTOTYPE}
use Rattle.snap_graph.specs.declared.value.Value.{Value}
use Rattle.snap_graph.specs.declared.value.Value.TheVariants.{Undefined, Null, Bool as Truth, Int, Text, Node as At, Empty}
use Rattle.spec_values.specs.Access.{count_value, delete, delete_named, delete_of_node, delete_of_text, element_of, entry_count, found_or, get, get_of_node, get_of_text, index_of, is_length, is_size, is_special, look_up, may_write, named_key, not_writable, or_stop, or_undefined, reached_from, read_along, set, set_element_of, set_named, set_of_node, set_of_text, size_of, size_or_throw, unit_or_undefined}
use Rattle.spec_values.specs.Answer.{◌>>=◌, Action, give, stop, use_key}
use Rattle.spec_values.specs.Asking.{has_own, has_own_named, has_own_of_node, has_own_of_text}
use Rattle.spec_values.specs.Conversions.{safe, text_of}
use Rattle.spec_values.specs.Operations.{elements_of, is_frozen, kind_of, own_value, put_own, remove_own, with_elements}
use Rattle.snap_action.proofs.Follows.{grows_then}
use Rattle.snap_action.proofs.Growing.{Goes, by_heap_grows, change_grows, chosen_grows, error_grows, give_grows, or_stop_grows, push_grows, put_grows, remove_grows, stop_grows, use_grows}
use Rattle.snap_object.specs.Parts.{found_from, is_kept, is_outside, looked_up, may_write_from, node_rest, nothing_owned, outside, put_unless_frozen, refused, set_defined, text_rest, without}

pub named_grows : (key : Value) → Goes (named_key key)
named_grows key =
    grows_then (or_stop (text_of key)) _ (or_stop_grows (text_of key)) (λ name.
    grows_then (use_key name) _ (use_grows name) (λ used. chosen_grows (text_eq name (codes "__proto__")) (stop NotInProfile) (give name) (stop_grows NotInProfile) (give_grows name)))

pub count_grows : (n : ℕ) → Goes (count_value n)
count_grows n = or_stop_grows (safe (pos n))

size_grows : (found : Option ℕ) → Goes (size_or_throw found)
size_grows None = error_grows TYPE_ERROR_PROTOTYPE (codes "wrong receiver")
size_grows (Some n) = count_grows n

pub size_of_grows : (prototype : ℕ) (base : Value) → Goes (size_of prototype base)
size_of_grows prototype Undefined = size_grows None
size_of_grows prototype Null = size_grows None
size_of_grows prototype (Truth b) = size_grows None
size_of_grows prototype (Int z) = size_grows None
size_of_grows prototype (Text text) = size_grows None
size_of_grows prototype (At base) = by_heap_grows (λ heap. size_or_throw (entry_count prototype (kind_of heap.nodes base) (elements_of heap.nodes base))) (λ heap. size_grows (entry_count prototype (kind_of heap.nodes base) (elements_of heap.nodes base)))
size_of_grows prototype Empty = size_grows None

found_grows : (found : Option Value) (further : Action (Option Value)) → Goes further → Goes (found_or found further)
found_grows None further f = f
found_grows (Some held) further f = give_grows (Some held)

pub size_found_grows : (prototype : ℕ) (base : Value) → Goes (size_of prototype base >>= λ size. give (Some size))
size_found_grows prototype base = grows_then (size_of prototype base) _ (size_of_grows prototype base) (λ size. give_grows (Some size))

pub look_up_grows : (base : Value) (name numbers : List ℕ) → Goes (look_up base name numbers)
look_up_grows base name [] = give_grows None
look_up_grows base name (number ∷ rest) = record {
  on = λ heap.
      (chosen_grows (is_special (kind_of heap.nodes number) name) _ _ (stop_grows NotInProfile)
      (chosen_grows (is_size number name) _ _ (size_found_grows number base) (found_grows (own_value heap.nodes number name) _ (look_up_grows base name rest)))).on heap;
}

pub may_write_grows : (name numbers : List ℕ) → Goes (may_write name numbers)
may_write_grows name [] = give_grows (tt {0})
may_write_grows name (number ∷ rest) = record {
  on = λ heap.
      (chosen_grows (is_special (kind_of heap.nodes number) name) _ _ (stop_grows NotInProfile)
      (chosen_grows (is_size number name) _ _ (error_grows TYPE_ERROR_PROTOTYPE (codes "not writable"))
      (chosen_grows (is_some (own_value heap.nodes number name)) _ _ (chosen_grows (is_frozen heap.nodes number) _ _ (error_grows TYPE_ERROR_PROTOTYPE (codes "not writable")) (give_grows (tt {0}))) (may_write_grows name rest)))).on heap;
}

pub found_from_grows : (base : Value) (name : List ℕ) (from : ℕ) → Goes (found_from base name from)
found_from_grows base name from = by_heap_grows (λ heap. look_up base name (reached_from heap.nodes from)) (λ heap. look_up_grows base name (reached_from heap.nodes from))

pub looked_up_grows : (base : Value) (name : List ℕ) (from : ℕ) → Goes (looked_up base name from)
looked_up_grows base name from = grows_then (found_from base name from) _ (found_from_grows base name from) (λ found. give_grows (or_undefined found))

along_grows : (base : Value) (name numbers : List ℕ) → Goes (read_along base name numbers)
along_grows base name numbers = grows_then (look_up base name numbers) _ (look_up_grows base name numbers) (λ found. give_grows (or_undefined found))

pub text_rest_grows : (text name : List ℕ) → Goes (text_rest text name)
text_rest_grows text name =
    by_heap_grows (λ heap. if text_eq name (codes "length") then count_value (length text) else read_along (Text text) name (reached_from heap.nodes STRING_PROTOTYPE))
    (λ heap. chosen_grows (text_eq name (codes "length")) _ _ (count_grows (length text)) (along_grows (Text text) name (reached_from heap.nodes STRING_PROTOTYPE)))

pub node_rest_grows : (number : ℕ) (name : List ℕ) → Goes (node_rest number name)
node_rest_grows number name =
    by_heap_grows (λ heap. if is_length heap.nodes number name then count_value (length (elements_of heap.nodes number)) else read_along (At number) name (reached_from heap.nodes number))
    (λ heap. chosen_grows (is_length heap.nodes number name) _ _ (count_grows (length (elements_of heap.nodes number))) (along_grows (At number) name (reached_from heap.nodes number)))

-- what goes on by the name that a key is
outside_grows : {A : Type 0} (key : Value) → Goes (outside {A = A} key)
outside_grows key = grows_then (named_key key) _ (named_grows key) (λ name. stop_grows NotInProfile)

pub refuses_grows : Goes (not_writable {A = Unit})
refuses_grows = error_grows TYPE_ERROR_PROTOTYPE (codes "not writable")

pub get_of_text_grows : (text : List ℕ) (key : Value) (place : Option ℕ) → Goes (get_of_text text key place)
get_of_text_grows text key (Some place) = give_grows (unit_or_undefined (slice_get text place))
get_of_text_grows text key None = grows_then (named_key key) (text_rest text) (named_grows key) (text_rest_grows text)

get_of_node_grows : (number : ℕ) (key : Value) (place : Option ℕ) → Goes (get_of_node number key place)
get_of_node_grows number key (Some place) = by_heap_grows (λ heap. give (or_undefined (slice_get (elements_of heap.nodes number) place))) (λ heap. give_grows (or_undefined (slice_get (elements_of heap.nodes number) place)))
get_of_node_grows number key None = grows_then (named_key key) (node_rest number) (named_grows key) (node_rest_grows number)

pub get_grows : (base key : Value) → Goes (get base key)
get_grows Undefined key = error_grows TYPE_ERROR_PROTOTYPE (codes "no properties")
get_grows Null key = error_grows TYPE_ERROR_PROTOTYPE (codes "no properties")
get_grows (Truth b) key = outside_grows key
get_grows (Int z) key = outside_grows key
get_grows (Text text) key = get_of_text_grows text key (index_of key)
get_grows (At number) key = by_heap_grows (λ heap. get_of_node number key (element_of heap.nodes number key)) (λ heap. get_of_node_grows number key (element_of heap.nodes number key))
get_grows Empty key = stop_grows NotInProfile

-- writing
pub may_write_from_grows : (name : List ℕ) (from : ℕ) → Goes (may_write_from name from)
may_write_from_grows name from = by_heap_grows (λ heap. may_write name (reached_from heap.nodes from)) (λ heap. may_write_grows name (reached_from heap.nodes from))

pub put_unless_grows : (number : ℕ) (name : List ℕ) (value : Value) → Goes (put_unless_frozen number name value)
put_unless_grows number name value =
    by_heap_grows (λ heap. if is_frozen heap.nodes number then not_writable else put_own number name value)
    (λ heap. chosen_grows (is_frozen heap.nodes number) _ _ refuses_grows (put_grows number name value))

pub set_named_grows : (number : ℕ) (name : List ℕ) (value : Value) → Goes (set_named number name value)
set_named_grows number name value = record {
  on = λ heap.
      (chosen_grows (is_length heap.nodes number name) _ _
      (chosen_grows (is_frozen heap.nodes number) not_writable (stop NotInProfile) refuses_grows (stop_grows NotInProfile))
      (grows_then (may_write name (reached_from heap.nodes number)) _ (may_write_grows name (reached_from heap.nodes number)) (λ done. put_unless_grows number name value))).on heap;
}

refused_grows : (key : Value) → Goes (refused key)
refused_grows key = grows_then (named_key key) _ (named_grows key) (λ name. refuses_grows)

set_element_grows : (number place : ℕ) (value : Value) → Goes (set_element_of number place value)
set_element_grows number place value = record {
  on = λ heap.
      (chosen_grows (is_frozen heap.nodes number) _ _ refuses_grows
      (chosen_grows (nat_lt place (length (elements_of heap.nodes number))) _ _ (change_grows (with_elements (λ elements. slice_set elements place value)) number)
      (chosen_grows (place == length (elements_of heap.nodes number)) _ _ (push_grows number value) (stop_grows NotInProfile)))).on heap;
}

set_of_node_grows : (number : ℕ) (key value : Value) (place : Option ℕ) → Goes (set_of_node number key value place)
set_of_node_grows number key value (Some place) = set_element_grows number place value
set_of_node_grows number key value None = grows_then (named_key key) _ (named_grows key) (λ name. set_named_grows number name value)

set_of_text_grows : (key : Value) (place : Option ℕ) → Goes (set_of_text key place)
set_of_text_grows key (Some place) = refuses_grows
set_of_text_grows key None = refused_grows key

pub set_grows : (base key value : Value) → Goes (set base key value)
set_grows Undefined key value = error_grows TYPE_ERROR_PROTOTYPE (codes "no properties")
set_grows Null key value = error_grows TYPE_ERROR_PROTOTYPE (codes "no properties")
set_grows (Truth b) key value = refused_grows key
set_grows (Int z) key value = refused_grows key
set_grows (Text text) key value = set_of_text_grows key (index_of key)
set_grows (At number) key value = by_heap_grows (λ heap. set_of_node number key value (element_of heap.nodes number key)) (λ heap. set_of_node_grows number key value (element_of heap.nodes number key))
set_grows Empty key value = stop_grows NotInProfile

-- deleting
pub without_grows : (number : ℕ) (name : List ℕ) → Goes (without number name)
without_grows number name = grows_then (remove_own number name) _ (remove_grows number name) (λ removed. give_grows true)

pub delete_named_grows : (number : ℕ) (name : List ℕ) → Goes (delete_named number name)
delete_named_grows number name = record {
  on = λ heap.
      (chosen_grows (is_outside heap.nodes number name) (stop NotInProfile) _ (stop_grows NotInProfile)
      (chosen_grows (is_kept heap.nodes number name) not_writable (without number name) (error_grows TYPE_ERROR_PROTOTYPE (codes "not writable")) (without_grows number name))).on heap;
}

delete_of_node_grows : (number : ℕ) (key : Value) (place : Option ℕ) → Goes (delete_of_node number key place)
delete_of_node_grows number key (Some place) = stop_grows NotInProfile
delete_of_node_grows number key None = grows_then (named_key key) (delete_named number) (named_grows key) (delete_named_grows number)

delete_of_text_grows : (key : Value) (place : Option ℕ) → Goes (delete_of_text key place)
delete_of_text_grows key (Some place) = stop_grows NotInProfile
delete_of_text_grows key None = outside_grows key

pub delete_grows : (base key : Value) → Goes (delete base key)
delete_grows Undefined key = error_grows TYPE_ERROR_PROTOTYPE (codes "no properties")
delete_grows Null key = error_grows TYPE_ERROR_PROTOTYPE (codes "no properties")
delete_grows (Truth b) key = outside_grows key
delete_grows (Int z) key = outside_grows key
delete_grows (Text text) key = delete_of_text_grows key (index_of key)
delete_grows (At number) key = by_heap_grows (λ heap. delete_of_node number key (element_of heap.nodes number key)) (λ heap. delete_of_node_grows number key (element_of heap.nodes number key))
delete_grows Empty key = stop_grows NotInProfile

-- tests of own properties
pub has_own_named_grows : (number : ℕ) (name : List ℕ) → Goes (has_own_named number name)
has_own_named_grows number name = record { on = λ heap. (chosen_grows (is_special (kind_of heap.nodes number) name) (stop NotInProfile) _ (stop_grows NotInProfile) (give_grows _)).on heap }

nothing_owned_grows : (key : Value) → Goes (nothing_owned {A = Bool} key)
nothing_owned_grows key = grows_then (named_key key) _ (named_grows key) (λ name. error_grows TYPE_ERROR_PROTOTYPE (codes "no properties"))

has_own_of_text_grows : (text : List ℕ) (key : Value) (place : Option ℕ) → Goes (has_own_of_text text key place)
has_own_of_text_grows text key (Some place) = give_grows (nat_lt place (length text))
has_own_of_text_grows text key None = grows_then (named_key key) _ (named_grows key) (λ name. give_grows (text_eq name (codes "length")))

has_own_of_node_grows : (number : ℕ) (key : Value) (place : Option ℕ) → Goes (has_own_of_node number key place)
has_own_of_node_grows number key (Some place) = by_heap_grows (λ heap. give (nat_lt place (length (elements_of heap.nodes number)))) (λ heap. give_grows (nat_lt place (length (elements_of heap.nodes number))))
has_own_of_node_grows number key None = grows_then (named_key key) (has_own_named number) (named_grows key) (has_own_named_grows number)

pub has_own_grows : (base key : Value) → Goes (has_own base key)
has_own_grows Undefined key = nothing_owned_grows key
has_own_grows Null key = nothing_owned_grows key
has_own_grows (Truth b) key = outside_grows key
has_own_grows (Int z) key = outside_grows key
has_own_grows (Text text) key = has_own_of_text_grows text key (index_of key)
has_own_grows (At number) key = by_heap_grows (λ heap. has_own_of_node number key (element_of heap.nodes number key)) (λ heap. has_own_of_node_grows number key (element_of heap.nodes number key))
has_own_grows Empty key = stop_grows NotInProfile

-- writing a name of the global object
pub set_defined_grows : (global : ℕ) (name : List ℕ) (value : Value) (there : Bool) → Goes (set_defined global name value there)
set_defined_grows global name value there = chosen_grows there _ _ (set_named_grows global name value) (error_grows REFERENCE_ERROR_PROTOTYPE (codes "not defined"))

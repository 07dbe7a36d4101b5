-- Reading a property leaves a heap, and gives a value of it.
use Rattle.std.proofs.Common.{◌≡◌, ℕ, zero, suc, ◌⊎◌, inl, inr, Bool, true, false, ◌||◌, nat_lt, pos, All, List, [], ◌∷◌, ◌++◌, codes, length, slice_get, Option, None, Some, IfSome, is_some, Result, Ok, Err, refl, sym, ap, subst, ⊎_elim, if◌then◌else◌}
use Rattle.std.specs.List.{AllByRecursion}
use Rattle.std.specs.Option.{option_and_then, option_map_or}
use Rattle.std.specs.Str.{bytes_eq as text_eq}
use Rattle.std.proofs.lemmas.List.Elements.{recursion_from_All}
use Rattle.std.proofs.lemmas.Option.{get_or_from_slice_get, slice_get_within}
use Rattle.snap_base.specs.declared.stop.Stop.{Stop}
use Rattle.snap_base.specs.declared.stop.Stop.TheVariants.{NotInProfile}
use Rattle.snap_graph.specs.declared.node.Node.{Node}
use Rattle.snap_graph.specs.declared.value.Property.{Property}
use Rattle.snap_graph.specs.declared.value.Value.{Value}
use Rattle.snap_graph.specs.declared.value.Value.TheVariants.{Undefined, Null, Bool as Truth, Int, Text, Node as At, Empty}
use Rattle.snap_graph.specs.Lawful.{AreElements, IsLawful, IsLawfulNode}
use Rattle.snap_graph.specs.Values.{IsValue}
use Rattle.spec_values.specs.Access.{count_value, element_of, entry_count, found_or, get, get_of_node, get_of_text, index_of, is_array, is_length, is_size, is_special, look_up, named_key, names_length, no_properties, or_stop, or_undefined, reached_from, read_along, size_of, size_or_throw, unit_or_undefined}
use Rattle.spec_values.specs.Answer.{◌>>=◌, Action, Gave, Heap, HeapAnswer, Stopped, Threw, followed, give, stop}
use Rattle.spec_values.specs.Asking.{find_global, has_own, has_own_named, has_own_of_node, has_own_of_text}
use Rattle.spec_values.specs.Conversions.{safe, text_of}
use Rattle.spec_values.specs.Leaving.{GivesAny, GivesValue, LeavesHeap}
use Rattle.spec_values.specs.Operations.{elements_of, held_under, kind_of, own_value}
use Rattle.spec_values.proofs.Arrays.{an_array_as, array_node}
use Rattle.spec_values.proofs.Ending.{Ends, either, ends_then, given, halted, leaves, throws}
use Rattle.spec_values.proofs.Results.{safe_value}

-- a heap is left, whatever the result; and one of which the result is a value, if there is one
AnyHeap : {A : Type 0} → A → Heap → Type 0
AnyHeap result heap = IsLawful heap.nodes

AValue : Value → Heap → Type 0
AValue value heap = IsLawful heap.nodes × IsValue (length heap.nodes) value

AnyFound : Option Value → Heap → Type 0
AnyFound found heap = IsLawful heap.nodes × IfSome found (IsValue (length heap.nodes))

-- the key of a name was used, and the nodes stay
unfoldable pub Named : Value → Heap → List ℕ → Heap → Type 0
Named key heap name after = (after.nodes ≡ heap.nodes) × (text_of key ≡ Ok name)

or_stop_ends : (key : Value) (result : Result (List ℕ) Stop) (heap : Heap) → IsLawful heap.nodes → text_of key ≡ result → Ends (Named key heap) (or_stop result heap)
unfolding Named
or_stop_ends key (Ok name) heap lawful e = given (Named key heap) name heap (refl, e)
or_stop_ends key (Err why) heap lawful e = halted (Named key heap) why heap lawful

pub named_ends : (key : Value) (heap : Heap) → IsLawful heap.nodes → Ends (Named key heap) (named_key key heap)
unfolding Named
named_ends key heap lawful =
    ends_then (Named key heap) (Named key heap) (or_stop (text_of key) heap) _ (or_stop_ends key (text_of key) heap lawful refl)
    (λ name h named.
    let used : Heap = record { nodes = h.nodes; private_nodes = h.private_nodes; keys = h.keys ++ name ∷ [] } in
    either (Named key heap) (text_eq name (codes "__proto__")) (stop NotInProfile) (give name) used
    (λ proto. halted (Named key heap) NotInProfile used (subst IsLawful (sym named.0) lawful))
    (λ other. given (Named key heap) name used (named.0, named.1)))

-- a primitive that has no properties in this profile
pub outside : {A : Type 0} (Q : A → Heap → Type 0) (key : Value) (heap : Heap) → IsLawful heap.nodes → Ends Q (followed (named_key key heap) (λ name. stop NotInProfile))
unfolding Named
outside Q key heap lawful =
    ends_then (Named key heap) Q (named_key key heap) (λ name. stop NotInProfile) (named_ends key heap lawful) (λ name h named. halted Q NotInProfile h (subst IsLawful (sym named.0) lawful))

-- what a lawful node holds under a key, and among the elements of an array
held_valued : (P : Value → Type 0) (key : List ℕ) (properties : List Property) → AllByRecursion (λ (p : Property). P p.value) properties → IfSome (held_under key properties) P
held_valued P key [] h = tt
held_valued P key (property ∷ rest) h =
    let more = held_valued P key rest h.1 in
    elim (text_eq property.key key) as (λ b. IfSome (if b then Some property.value else held_under key rest) P) [ true ↦ h.0 | false ↦ more ]

lawful_at : (nodes : List Node) (number : ℕ) (node : Node) → IsLawful nodes → slice_get nodes number ≡ Some node → IsLawfulNode nodes node
lawful_at nodes number node lawful e = subst (IsLawfulNode nodes) (get_or_from_slice_get nodes number node node e) (lawful.each number node (slice_get_within nodes number node e))

own_valued : (nodes : List Node) (number : ℕ) (key : List ℕ) → IsLawful nodes → IfSome (own_value nodes number key) (IsValue (length nodes))
own_valued nodes number key lawful = by (slice_get nodes number) refl
  where
    by : (found : Option Node) → slice_get nodes number ≡ found → IfSome (option_and_then (λ (node : Node). held_under key node.properties) found) (IsValue (length nodes))
    by None e = tt
    by (Some node) e = held_valued (IsValue (length nodes)) key node.properties (recursion_from_All (λ (p : Property). IsValue (length nodes) p.value) node.properties (lawful_at nodes number node lawful e).values)

place_valued : (P : Value → Type 0) (values : List Value) (place : ℕ) → AllByRecursion P values → P (or_undefined (slice_get values place)) ⊎ (slice_get values place ≡ None)
place_valued P [] place h = inr refl
place_valued P (value ∷ rest) zero h = inl h.0
place_valued P (value ∷ rest) (suc place) h = place_valued P rest place h.1

element_valued : (nodes : List Node) (number place : ℕ) → IsLawful nodes → is_array (kind_of nodes number) ≡ true → IsValue (length nodes) (or_undefined (slice_get (elements_of nodes number) place))
element_valued nodes number place lawful an_array =
    let node = array_node nodes number an_array in
    let elements : elements_of nodes number ≡ node.0.elements = ap (λ (found : Option Node). option_map_or (λ n. n.elements) found []) node.1 in
    let all : All (IsValue (length nodes)) node.0.elements = subst (λ own. AreElements (length nodes) own node.0.elements) node.2 (lawful_at nodes number node.0 lawful node.1).elements in
    subst (λ (values : List Value). IsValue (length nodes) (or_undefined (slice_get values place))) (sym elements)
    (⊎_elim (λ h. h) (λ none. subst (λ (found : Option Value). IsValue (length nodes) (or_undefined found)) (sym none) tt)
    (place_valued (IsValue (length nodes)) node.0.elements place (recursion_from_All (IsValue (length nodes)) node.0.elements all)))

-- a number of units, elements or records
count_ends : (n : ℕ) (heap : Heap) → IsLawful heap.nodes → Ends AValue (count_value n heap)
unfolding AValue
count_ends n heap lawful = by (safe (pos n)) refl
  where
    by : (result : Result Value Stop) → safe (pos n) ≡ result → Ends AValue (or_stop result heap)
    by (Ok value) e = given AValue value heap (lawful, safe_value (length heap.nodes) (pos n) value e)
    by (Err why) e = halted AValue why heap lawful

-- looking up
size_ends : (found : Option ℕ) (heap : Heap) → IsLawful heap.nodes → Ends AValue (size_or_throw found heap)
size_ends None heap lawful = throws AValue (codes "wrong receiver") heap lawful
size_ends (Some n) heap lawful = count_ends n heap lawful

size_of_ends : (prototype : ℕ) (base : Value) (heap : Heap) → IsLawful heap.nodes → Ends AValue (size_of prototype base heap)
size_of_ends prototype Undefined heap lawful = size_ends None heap lawful
size_of_ends prototype Null heap lawful = size_ends None heap lawful
size_of_ends prototype (Truth b) heap lawful = size_ends None heap lawful
size_of_ends prototype (Int z) heap lawful = size_ends None heap lawful
size_of_ends prototype (Text text) heap lawful = size_ends None heap lawful
size_of_ends prototype (At node) heap lawful = size_ends (entry_count prototype (kind_of heap.nodes node) (elements_of heap.nodes node)) heap lawful
size_of_ends prototype Empty heap lawful = size_ends None heap lawful

found_ends : (found : Option Value) (further : Action (Option Value)) (heap : Heap) → IsLawful heap.nodes → IfSome found (IsValue (length heap.nodes)) → Ends AnyFound (further heap) → Ends AnyFound (found_or found further heap)
unfolding AnyFound
found_ends None further heap lawful valued more = more
found_ends (Some held) further heap lawful valued more = given AnyFound (Some held) heap (lawful, valued)

look_up_ends : (base : Value) (name numbers : List ℕ) (heap : Heap) → IsLawful heap.nodes → Ends AnyFound (look_up base name numbers heap)
unfolding AnyFound AValue
look_up_ends base name [] heap lawful = given AnyFound None heap (lawful, tt)
look_up_ends base name (number ∷ rest) heap lawful =
    let more = look_up_ends base name rest heap lawful in
    either AnyFound (is_special (kind_of heap.nodes number) name) (stop NotInProfile) _ heap
    (λ special. halted AnyFound NotInProfile heap lawful)
    (λ plain.
    either AnyFound (is_size number name) (size_of number base >>= λ size. give (Some size)) (found_or (own_value heap.nodes number name) (look_up base name rest)) heap
    (λ size. ends_then AValue AnyFound (size_of number base heap) (λ size. give (Some size)) (size_of_ends number base heap lawful) (λ size h left. given AnyFound (Some size) h left))
    (λ other. found_ends (own_value heap.nodes number name) (look_up base name rest) heap lawful (own_valued heap.nodes number name lawful) more))

or_undefined_valued : (count : ℕ) (found : Option Value) → IfSome found (IsValue count) → IsValue count (or_undefined found)
or_undefined_valued count None h = tt
or_undefined_valued count (Some value) h = h

along_ends : (base : Value) (name numbers : List ℕ) (heap : Heap) → IsLawful heap.nodes → Ends AValue (read_along base name numbers heap)
unfolding AnyFound AValue
along_ends base name numbers heap lawful =
    ends_then AnyFound AValue (look_up base name numbers heap) (λ found. give (or_undefined found)) (look_up_ends base name numbers heap lawful)
    (λ found h left. given AValue (or_undefined found) h (left.0, or_undefined_valued (length h.nodes) found left.1))

unit_valued : (count : ℕ) (unit : Option ℕ) → IsValue count (unit_or_undefined unit)
unit_valued count None = tt
unit_valued count (Some unit) = tt

text_ends : (text : List ℕ) (key : Value) (place : Option ℕ) (heap : Heap) → IsLawful heap.nodes → Ends AValue (get_of_text text key place heap)
unfolding AValue Named
text_ends text key (Some place) heap lawful = given AValue (unit_or_undefined (slice_get text place)) heap (lawful, unit_valued (length heap.nodes) (slice_get text place))
text_ends text key None heap lawful =
    ends_then (Named key heap) AValue (named_key key heap) _ (named_ends key heap lawful)
    (λ name h named.
    let here = subst IsLawful (sym named.0) lawful in
    either AValue (text_eq name (codes "length")) (count_value (length text)) (read_along (Text text) name (reached_from h.nodes 3)) h
    (λ is. count_ends (length text) h here)
    (λ other. along_ends (Text text) name (reached_from h.nodes 3) h here))

node_ends : (number : ℕ) (key : Value) (place : Option ℕ) (heap : Heap) → IsLawful heap.nodes → element_of heap.nodes number key ≡ place → Ends AValue (get_of_node number key place heap)
unfolding AValue Named
node_ends number key (Some place) heap lawful e =
    given AValue (or_undefined (slice_get (elements_of heap.nodes number) place)) heap (lawful, element_valued heap.nodes number place lawful (an_array_as (is_array (kind_of heap.nodes number)) (index_of key) place e))
node_ends number key None heap lawful e =
    ends_then (Named key heap) AValue (named_key key heap) _ (named_ends key heap lawful)
    (λ name h named.
    let here = subst IsLawful (sym named.0) lawful in
    either AValue (is_length h.nodes number name) (count_value (length (elements_of h.nodes number))) (read_along (At number) name (reached_from h.nodes number)) h
    (λ is. count_ends (length (elements_of h.nodes number)) h here)
    (λ other. along_ends (At number) name (reached_from h.nodes number) h here))

get_ends : (base key : Value) (heap : Heap) → IsLawful heap.nodes → Ends AValue (get base key heap)
get_ends Undefined key heap lawful = throws AValue (codes "no properties") heap lawful
get_ends Null key heap lawful = throws AValue (codes "no properties") heap lawful
get_ends (Truth b) key heap lawful = outside AValue key heap lawful
get_ends (Int z) key heap lawful = outside AValue key heap lawful
get_ends (Text text) key heap lawful = text_ends text key (index_of key) heap lawful
get_ends (At number) key heap lawful = node_ends number key (element_of heap.nodes number key) heap lawful refl
get_ends Empty key heap lawful = halted AValue NotInProfile heap lawful

pub get_leaves : (base key : Value) (heap : Heap) → IsLawful heap.nodes → LeavesHeap (get base key heap)
unfolding AValue
get_leaves base key heap lawful = leaves AValue (λ v h left. left.0) (get base key heap) (get_ends base key heap lawful)

pub get_gives : (base key : Value) (heap : Heap) → IsLawful heap.nodes → GivesValue (get base key heap)
unfolding Ends AValue
get_gives base key heap lawful = by (get base key heap) (get_ends base key heap lawful)
  where
    by : (answer : HeapAnswer Value) → Ends AValue answer → GivesValue answer
    by (Gave value h) e = e.1
    by (Threw value h) e = tt
    by (Stopped why h) e = tt

-- what a name stands for in a global object
global_ends : (global : ℕ) (text : List ℕ) (heap : Heap) → IsLawful heap.nodes → Ends AnyFound (find_global global text heap)
unfolding AnyFound Named
global_ends global text heap lawful =
    ends_then (Named (Text text) heap) AnyFound (named_key (Text text) heap) _ (named_ends (Text text) heap lawful)
    (λ name h named. look_up_ends (At global) name (reached_from h.nodes global) h (subst IsLawful (sym named.0) lawful))

pub global_leaves : (global : ℕ) (text : List ℕ) (heap : Heap) → IsLawful heap.nodes → LeavesHeap (find_global global text heap)
unfolding AnyFound
global_leaves global text heap lawful = leaves AnyFound (λ found h left. left.0) (find_global global text heap) (global_ends global text heap lawful)

pub global_gives : (global : ℕ) (text : List ℕ) (heap : Heap) → IsLawful heap.nodes → GivesAny (find_global global text heap)
unfolding Ends AnyFound
global_gives global text heap lawful = by (find_global global text heap) (global_ends global text heap lawful)
  where
    by : (answer : HeapAnswer (Option Value)) → Ends AnyFound answer → GivesAny answer
    by (Gave found h) e = e.1
    by (Threw value h) e = tt
    by (Stopped why h) e = tt

-- a test of an own property
own_named_ends : (number : ℕ) (name : List ℕ) (heap : Heap) → IsLawful heap.nodes → Ends AnyHeap (has_own_named number name heap)
unfolding AnyHeap
own_named_ends number name heap lawful =
    let has : Bool = names_length (kind_of heap.nodes number) name || (is_size number name || is_some (own_value heap.nodes number name)) in
    either AnyHeap (is_special (kind_of heap.nodes number) name) (stop NotInProfile) (give has) heap
    (λ special. halted AnyHeap NotInProfile heap lawful) (λ plain. given AnyHeap has heap lawful)

own_text_ends : (text : List ℕ) (key : Value) (place : Option ℕ) (heap : Heap) → IsLawful heap.nodes → Ends AnyHeap (has_own_of_text text key place heap)
unfolding AnyHeap Named
own_text_ends text key (Some place) heap lawful = given AnyHeap (nat_lt place (length text)) heap lawful
own_text_ends text key None heap lawful =
    ends_then (Named key heap) AnyHeap (named_key key heap) _ (named_ends key heap lawful) (λ name h named. given AnyHeap (text_eq name (codes "length")) h (subst IsLawful (sym named.0) lawful))

own_node_ends : (number : ℕ) (key : Value) (place : Option ℕ) (heap : Heap) → IsLawful heap.nodes → Ends AnyHeap (has_own_of_node number key place heap)
unfolding AnyHeap Named
own_node_ends number key (Some place) heap lawful = given AnyHeap (nat_lt place (length (elements_of heap.nodes number))) heap lawful
own_node_ends number key None heap lawful =
    ends_then (Named key heap) AnyHeap (named_key key heap) (λ name. has_own_named number name) (named_ends key heap lawful) (λ name h named. own_named_ends number name h (subst IsLawful (sym named.0) lawful))

own_nothing_ends : (key : Value) (heap : Heap) → IsLawful heap.nodes → Ends (AnyHeap {A = Bool}) (followed (named_key key heap) (λ name. no_properties))
unfolding AnyHeap Named
own_nothing_ends key heap lawful =
    ends_then (Named key heap) AnyHeap (named_key key heap) (λ name. no_properties) (named_ends key heap lawful) (λ name h named. throws AnyHeap (codes "no properties") h (subst IsLawful (sym named.0) lawful))

has_own_ends : (base key : Value) (heap : Heap) → IsLawful heap.nodes → Ends AnyHeap (has_own base key heap)
unfolding AnyHeap
has_own_ends Undefined key heap lawful = own_nothing_ends key heap lawful
has_own_ends Null key heap lawful = own_nothing_ends key heap lawful
has_own_ends (Truth b) key heap lawful = outside AnyHeap key heap lawful
has_own_ends (Int z) key heap lawful = outside AnyHeap key heap lawful
has_own_ends (Text text) key heap lawful = own_text_ends text key (index_of key) heap lawful
has_own_ends (At number) key heap lawful = own_node_ends number key (element_of heap.nodes number key) heap lawful
has_own_ends Empty key heap lawful = halted AnyHeap NotInProfile heap lawful

pub has_own_leaves : (base key : Value) (heap : Heap) → IsLawful heap.nodes → LeavesHeap (has_own base key heap)
unfolding AnyHeap
has_own_leaves base key heap lawful = leaves AnyHeap (λ has h left. left) (has_own base key heap) (has_own_ends base key heap lawful)

-- Writing and deleting a property leaves a heap.
use Rattle.std.proofs.Common.{◌≡◌, ℕ, ◌==◌, ◌&&◌, ◌||◌, inl, inr, Bool, true, false, not, nat_lt, nat_le, pos, List, [], ◌∷◌, codes, length, slice_get, Option, None, Some, is_some, Result, Ok, Err, refl, sym, ap, subst, ◌∙◌, ⊎_elim, if◌then◌else◌}
use Rattle.std.specs.Option.{option_and_then, option_map_or}
use Rattle.std.specs.Str.{bytes_eq as text_eq}
use Rattle.std.proofs.lemmas.Bool.{and_from, false≢true, true≢false}
use Rattle.std.proofs.lemmas.Option.{slice_get_cases}
use Rattle.std.proofs.lemmas.Slice.Eq.{bytes_eq-Decides}
use Rattle.snap_base.specs.declared.limits.TheConstants.{MOST_ITEMS}
use Rattle.snap_base.specs.declared.stop.Stop.{Stop}
use Rattle.snap_base.specs.declared.stop.Stop.TheVariants.{NotInProfile, TooLong}
use Rattle.snap_graph.specs.declared.intrinsic.TheConstants.{REFERENCE_ERROR_PROTOTYPE}
use Rattle.snap_graph.specs.declared.kind.Kind.{Kind}
use Rattle.snap_graph.specs.declared.node.Node.{Node}
use Rattle.snap_graph.specs.declared.value.Property.{Property}
use Rattle.snap_graph.specs.declared.value.Value.{Value}
use Rattle.snap_graph.specs.declared.value.Value.TheVariants.{Undefined, Null, Bool as Truth, Int, Text, Node as At, Empty}
use Rattle.snap_graph.specs.Lawful.{IsElementKey, IsLawful}
use Rattle.snap_graph.specs.OwnKeys.{array_index}
use Rattle.snap_graph.specs.Values.{IsValue}
use Rattle.spec_values.specs.Access.{count_value, delete, delete_named, delete_of_node, delete_of_text, element_of, entry_count, found_or, index_of, is_array, is_length, is_size, is_special, look_up, may_write, named_key, not_writable, or_stop, reached_from, set, set_element_of, set_named, set_of_node, set_of_text, size_of, size_or_throw}
use Rattle.spec_values.specs.Answer.{◌>>=◌, Action, Gave, Heap, Stopped, followed, give, stop}
use Rattle.spec_values.specs.Asking.{not_defined, set_global}
use Rattle.spec_values.specs.Conversions.{safe}
use Rattle.spec_values.specs.Leaving.{LeavesHeap}
use Rattle.spec_values.specs.Operations.{elements_of, held_under, is_frozen, kind_of, MayHold, own_value, push_element, put_own, put_under, remove_under, with_element, with_more, with_nodes, with_own, with_properties, without_own}
use Rattle.spec_values.proofs.Arrays.{an_array_as, array_node, is_an_array, no_index_as}
use Rattle.spec_values.proofs.Changes.{changed_same}
use Rattle.spec_values.proofs.Elements.{with_element_lawful, with_more_lawful, with_own_lawful, without_own_lawful}
use Rattle.spec_values.proofs.Ending.{Ends, either, ends_then, given, halted, leaves, one_of, put_ends, reference_error_prototype, throws, throws_of, weaker}
use Rattle.spec_values.proofs.Naming.{name_text}
use Rattle.spec_values.proofs.Reading.{Named, named_ends, outside}

-- a heap is left, whatever the result
AnyHeap : {A : Type 0} → A → Heap → Type 0
AnyHeap result heap = IsLawful heap.nodes

-- the heap is the one that was
Same : {A : Type 0} → Heap → A → Heap → Type 0
Same heap result after = after ≡ heap

-- the mark of a node
frozen_is : (nodes : List Node) (number : ℕ) (node : Node) (b : Bool) → slice_get nodes number ≡ Some node → is_frozen nodes number ≡ b → node.frozen ≡ b
frozen_is nodes number node b e f = sym (ap (λ (found : Option Node). option_map_or (λ n. n.frozen) found false) e) ∙ f

-- a write looks along nodes and leaves the heap as it is
may_write_ends : (name numbers : List ℕ) (heap : Heap) → IsLawful heap.nodes → Ends (Same heap) (may_write name numbers heap)
unfolding Same
may_write_ends name [] heap lawful = given (Same heap) tt heap refl
may_write_ends name (number ∷ rest) heap lawful =
    let more = may_write_ends name rest heap lawful in
    either (Same heap) (is_special (kind_of heap.nodes number) name) (stop NotInProfile) _ heap
    (λ special. halted (Same heap) NotInProfile heap lawful)
    (λ plain.
    either (Same heap) (is_size number name) not_writable _ heap
    (λ size. throws (Same heap) (codes "not writable") heap lawful)
    (λ other.
    either (Same heap) (is_some (own_value heap.nodes number name)) _ (may_write name rest) heap
    (λ has. either (Same heap) (is_frozen heap.nodes number) not_writable (give tt) heap (λ frozen. throws (Same heap) (codes "not writable") heap lawful) (λ loose. given (Same heap) tt heap refl))
    (λ without. more)))

-- an element is added behind the others
push_ends : (number : ℕ) (held : Value) (heap : Heap) → IsLawful heap.nodes → IsLawful (with_more heap.nodes number held) → Ends AnyHeap (push_element number held heap)
unfolding AnyHeap
push_ends number held heap lawful pushed =
    one_of AnyHeap (nat_le MOST_ITEMS (length (elements_of heap.nodes number))) (Stopped TooLong heap) (Gave tt (with_nodes heap (with_more heap.nodes number held)))
    (λ full. halted AnyHeap TooLong heap lawful)
    (λ room. given AnyHeap tt (with_nodes heap (with_more heap.nodes number held)) pushed)

element_ends : (number place : ℕ) (held : Value) (heap : Heap) → IsLawful heap.nodes → is_array (kind_of heap.nodes number) ≡ true → IsValue (length heap.nodes) held → Ends AnyHeap (set_element_of number place held heap)
unfolding AnyHeap
element_ends number place held heap lawful an_array is_value =
    let node = array_node heap.nodes number an_array in
    either AnyHeap (is_frozen heap.nodes number) not_writable _ heap
    (λ frozen. throws AnyHeap (codes "not writable") heap lawful)
    (λ loose.
    let may : MayHold (length heap.nodes) node.0.kind node.0.frozen held = subst (λ (own : Kind). MayHold (length heap.nodes) own node.0.frozen held) (sym node.2) (frozen_is heap.nodes number node.0 false node.1 loose, is_value) in
    either AnyHeap (nat_lt place (length (elements_of heap.nodes number))) (λ h. Gave tt (with_nodes h (with_element h.nodes number place held))) _ heap
    (λ within. given AnyHeap tt (with_nodes heap (with_element heap.nodes number place held)) (with_element_lawful heap.nodes number node.0 lawful node.1 place held may))
    (λ past.
    either AnyHeap (place == length (elements_of heap.nodes number)) (push_element number held) (stop NotInProfile) heap
    (λ next. push_ends number held heap lawful (with_more_lawful heap.nodes number node.0 lawful node.1 held may))
    (λ far. halted AnyHeap NotInProfile heap lawful)))

-- a property of a node that is not frozen is put
put_lawful_at : (nodes : List Node) (number : ℕ) (name : List ℕ) (held : Value) → IsLawful nodes → is_frozen nodes number ≡ false → IsValue (length nodes) held
    → (is_array (kind_of nodes number) ≡ true → IsElementKey name → ⊥) → IsLawful (with_own nodes number name held)
put_lawful_at nodes number name held lawful loose is_value free =
    ⊎_elim
    (λ found. with_own_lawful nodes number found.0 lawful found.2 name held (frozen_is nodes number found.0 false found.2 loose) is_value (λ k. free (is_an_array nodes number found.0 found.2 k)))
    (λ none. subst IsLawful (sym (changed_same (with_properties (put_under name held)) nodes number (λ node e. absurd cc))) lawful)
    (slice_get_cases nodes number).1

-- what an array's key is not
no_element : (nodes : List Node) (number : ℕ) (name : List ℕ) → is_length nodes number name ≡ false → (is_array (kind_of nodes number) ≡ true → array_index name ≡ None) → is_array (kind_of nodes number) ≡ true → IsElementKey name → ⊥
no_element nodes number name no_length no_index an_array (inl index) = false≢true (sym (ap is_some (no_index an_array)) ∙ index)
no_element nodes number name no_length no_index an_array (inr length) = true≢false (sym (and_from (is_array (kind_of nodes number)) (text_eq name (codes "length")) an_array ((bytes_eq-Decides name (codes "length")).1 length)) ∙ no_length)

named_write_ends : (number : ℕ) (name : List ℕ) (held : Value) (heap : Heap) → IsLawful heap.nodes → IsValue (length heap.nodes) held
    → (is_array (kind_of heap.nodes number) ≡ true → array_index name ≡ None) → Ends AnyHeap (set_named number name held heap)
unfolding AnyHeap Same
named_write_ends number name held heap lawful is_value no_index =
    either AnyHeap (is_length heap.nodes number name) _ _ heap
    (λ is. either AnyHeap (is_frozen heap.nodes number) not_writable (stop NotInProfile) heap (λ frozen. throws AnyHeap (codes "not writable") heap lawful) (λ loose. halted AnyHeap NotInProfile heap lawful))
    (λ other.
    ends_then (Same heap) AnyHeap (may_write name (reached_from heap.nodes number) heap) _ (may_write_ends name (reached_from heap.nodes number) heap lawful)
    (λ done h same.
    subst (λ (x : Heap). Ends AnyHeap ((if is_frozen x.nodes number then not_writable else put_own number name held) x)) (sym same)
    (either AnyHeap (is_frozen heap.nodes number) not_writable (put_own number name held) heap
    (λ frozen. throws AnyHeap (codes "not writable") heap lawful)
    (λ loose.
    let put = put_lawful_at heap.nodes number name held lawful loose is_value (no_element heap.nodes number name other no_index) in
    weaker (λ (done : Unit) after. after.nodes ≡ with_own heap.nodes number name held) AnyHeap (λ done after e. subst IsLawful (sym e) put) (put_own number name held heap) (put_ends number name held heap lawful put)))))

-- a refused write to a primitive
refused : (key : Value) (heap : Heap) → IsLawful heap.nodes → Ends AnyHeap (followed (named_key key heap) (λ name. not_writable {A = Unit}))
unfolding AnyHeap Named
refused key heap lawful =
    ends_then (Named key heap) AnyHeap (named_key key heap) (λ name. not_writable) (named_ends key heap lawful) (λ name h named. throws AnyHeap (codes "not writable") h (subst IsLawful (sym named.0) lawful))

text_write_ends : (key : Value) (place : Option ℕ) (heap : Heap) → IsLawful heap.nodes → Ends AnyHeap (set_of_text key place heap)
text_write_ends key (Some place) heap lawful = throws AnyHeap (codes "not writable") heap lawful
text_write_ends key None heap lawful = refused key heap lawful

node_write_ends : (number : ℕ) (key held : Value) (place : Option ℕ) (heap : Heap) → IsLawful heap.nodes → IsValue (length heap.nodes) key → IsValue (length heap.nodes) held
    → element_of heap.nodes number key ≡ place → Ends AnyHeap (set_of_node number key held place heap)
unfolding AnyHeap Named
node_write_ends number key held (Some place) heap lawful is_key is_value e =
    element_ends number place held heap lawful (an_array_as (is_array (kind_of heap.nodes number)) (index_of key) place e) is_value
node_write_ends number key held None heap lawful is_key is_value e =
    ends_then (Named key heap) AnyHeap (named_key key heap) (λ name. set_named number name held) (named_ends key heap lawful)
    (λ name h named.
    named_write_ends number name held h (subst IsLawful (sym named.0) lawful) (subst (λ (ns : List Node). IsValue (length ns) held) (sym named.0) is_value)
    (λ an_array. name_text (length heap.nodes) key name is_key (no_index_as (is_array (kind_of heap.nodes number)) (index_of key) e (subst (λ (ns : List Node). is_array (kind_of ns number) ≡ true) named.0 an_array)) named.1))

set_ends : (base key held : Value) (heap : Heap) → IsLawful heap.nodes → IsValue (length heap.nodes) key → IsValue (length heap.nodes) held → Ends AnyHeap (set base key held heap)
unfolding AnyHeap
set_ends Undefined key held heap lawful is_key is_value = throws AnyHeap (codes "no properties") heap lawful
set_ends Null key held heap lawful is_key is_value = throws AnyHeap (codes "no properties") heap lawful
set_ends (Truth b) key held heap lawful is_key is_value = refused key heap lawful
set_ends (Int z) key held heap lawful is_key is_value = refused key heap lawful
set_ends (Text text) key held heap lawful is_key is_value = text_write_ends key (index_of key) heap lawful
set_ends (At number) key held heap lawful is_key is_value = node_write_ends number key held (element_of heap.nodes number key) heap lawful is_key is_value refl
set_ends Empty key held heap lawful is_key is_value = halted AnyHeap NotInProfile heap lawful

pub set_leaves : (base key held : Value) (heap : Heap) → IsLawful heap.nodes → IsValue (length heap.nodes) key → IsValue (length heap.nodes) held → LeavesHeap (set base key held heap)
unfolding AnyHeap
set_leaves base key held heap lawful is_key is_value = leaves AnyHeap (λ done h left. left) (set base key held heap) (set_ends base key held heap lawful is_key is_value)

-- a look-up leaves the heap as it is
count_stays : (n : ℕ) (heap : Heap) → IsLawful heap.nodes → Ends (Same heap) (count_value n heap)
unfolding Same
count_stays n heap lawful = by (safe (pos n))
  where
    by : (result : Result Value Stop) → Ends (Same heap) (or_stop result heap)
    by (Ok value) = given (Same heap) value heap refl
    by (Err why) = halted (Same heap) why heap lawful

size_stays : (found : Option ℕ) (heap : Heap) → IsLawful heap.nodes → Ends (Same heap) (size_or_throw found heap)
size_stays None heap lawful = throws (Same heap) (codes "wrong receiver") heap lawful
size_stays (Some n) heap lawful = count_stays n heap lawful

size_of_stays : (prototype : ℕ) (base : Value) (heap : Heap) → IsLawful heap.nodes → Ends (Same heap) (size_of prototype base heap)
size_of_stays prototype Undefined heap lawful = size_stays None heap lawful
size_of_stays prototype Null heap lawful = size_stays None heap lawful
size_of_stays prototype (Truth b) heap lawful = size_stays None heap lawful
size_of_stays prototype (Int z) heap lawful = size_stays None heap lawful
size_of_stays prototype (Text text) heap lawful = size_stays None heap lawful
size_of_stays prototype (At node) heap lawful = size_stays (entry_count prototype (kind_of heap.nodes node) (elements_of heap.nodes node)) heap lawful
size_of_stays prototype Empty heap lawful = size_stays None heap lawful

found_stays : (found : Option Value) (further : Action (Option Value)) (heap : Heap) → Ends (Same heap) (further heap) → Ends (Same heap) (found_or found further heap)
unfolding Same
found_stays None further heap more = more
found_stays (Some held) further heap more = given (Same heap) (Some held) heap refl

look_up_stays : (base : Value) (name numbers : List ℕ) (heap : Heap) → IsLawful heap.nodes → Ends (Same heap) (look_up base name numbers heap)
unfolding Same
look_up_stays base name [] heap lawful = given (Same heap) None heap refl
look_up_stays base name (number ∷ rest) heap lawful =
    let more = look_up_stays base name rest heap lawful in
    either (Same heap) (is_special (kind_of heap.nodes number) name) (stop NotInProfile) _ heap
    (λ special. halted (Same heap) NotInProfile heap lawful)
    (λ plain.
    either (Same heap) (is_size number name) (size_of number base >>= λ size. give (Some size)) (found_or (own_value heap.nodes number name) (look_up base name rest)) heap
    (λ size. ends_then (Same heap) (Same heap) (size_of number base heap) (λ size. give (Some size)) (size_of_stays number base heap lawful) (λ size h left. given (Same heap) (Some size) h left))
    (λ other. found_stays (own_value heap.nodes number name) (look_up base name rest) heap more))

-- a name of a global object is written, where it is there still
set_global_ends : (global : ℕ) (name : List ℕ) (held : Value) (heap : Heap) → IsLawful heap.nodes → IsValue (length heap.nodes) held
    → is_array (kind_of heap.nodes global) ≡ false → Ends AnyHeap (set_global global name held heap)
unfolding AnyHeap Same
set_global_ends global name held heap lawful is_value plain =
    ends_then (Same heap) AnyHeap (look_up (At global) name (reached_from heap.nodes global) heap) _ (look_up_stays (At global) name (reached_from heap.nodes global) heap lawful)
    (λ found h same.
    subst (λ (x : Heap). Ends AnyHeap ((if is_some found then set_named global name held else not_defined) x)) (sym same)
    (either AnyHeap (is_some found) (set_named global name held) not_defined heap
    (λ there. named_write_ends global name held heap lawful is_value (λ an_array. absurd (false≢true (sym plain ∙ an_array))))
    (λ absent. throws_of AnyHeap REFERENCE_ERROR_PROTOTYPE reference_error_prototype (codes "not defined") heap lawful)))

pub set_global_leaves : (global : ℕ) (name : List ℕ) (held : Value) (heap : Heap) → IsLawful heap.nodes → IsValue (length heap.nodes) held
    → is_array (kind_of heap.nodes global) ≡ false → LeavesHeap (set_global global name held heap)
unfolding AnyHeap
set_global_leaves global name held heap lawful is_value plain = leaves AnyHeap (λ done h left. left) (set_global global name held heap) (set_global_ends global name held heap lawful is_value plain)

-- where no property has the key, removing it changes nothing
nothing_removed : (key : List ℕ) (properties : List Property) → held_under key properties ≡ None → remove_under key properties ≡ properties
nothing_removed key [] e = refl
nothing_removed key (property ∷ rest) e = by (text_eq property.key key) refl (λ more. nothing_removed key rest more)
  where
    by : (b : Bool) → text_eq property.key key ≡ b → (held_under key rest ≡ None → remove_under key rest ≡ rest) → remove_under key (property ∷ rest) ≡ property ∷ rest
    by true f more =
        let found : held_under key (property ∷ rest) ≡ Some property.value = ap (λ (b : Bool). if b then Some property.value else held_under key rest) f in
        absurd cc
    by false f more =
        let further : held_under key (property ∷ rest) ≡ held_under key rest = ap (λ (b : Bool). if b then Some property.value else held_under key rest) f in
        let stays : remove_under key (property ∷ rest) ≡ property ∷ remove_under key rest = ap (λ (b : Bool). if not b then property ∷ remove_under key rest else remove_under key rest) f in
        stays ∙ ap (λ (ps : List Property). property ∷ ps) (more (sym further ∙ e))

none_held : (found : Option Value) → is_some found ≡ false → found ≡ None
none_held None e = refl
none_held (Some v) e = absurd (true≢false e)

-- a property is removed from a node that is not frozen, or that does not have it
removed_lawful_at : (nodes : List Node) (number : ℕ) (name : List ℕ) → IsLawful nodes → (is_some (own_value nodes number name) && is_frozen nodes number) ≡ false → IsLawful (without_own nodes number name)
removed_lawful_at nodes number name lawful free =
    ⊎_elim
    (λ found. at found.0 found.0.frozen refl found.2)
    (λ none. subst IsLawful (sym (changed_same (with_properties (remove_under name)) nodes number (λ node e. absurd cc))) lawful)
    (slice_get_cases nodes number).1
  where
    at : (node : Node) (b : Bool) → node.frozen ≡ b → slice_get nodes number ≡ Some node → IsLawful (without_own nodes number name)
    at node false f e = without_own_lawful nodes number node lawful e name f
    at node true f e =
        let is : is_frozen nodes number ≡ true = ap (λ (found : Option Node). option_map_or (λ n. n.frozen) found false) e ∙ f in
        let own : own_value nodes number name ≡ held_under name node.properties = ap (λ (found : Option Node). option_and_then (λ n. held_under name n.properties) found) e in
        let without : held_under name node.properties ≡ None = none_held (held_under name node.properties) (ap is_some (sym own) ∙ lone (is_some (own_value nodes number name)) (is_frozen nodes number) free is) in
        subst IsLawful (sym (changed_same (with_properties (remove_under name)) nodes number (λ other g. let same : node ≡ other = cc in subst (λ (n : Node). with_properties (remove_under name) n ≡ n) same (unchanged node without)))) lawful
      where
        lone : (b c : Bool) → (b && c) ≡ false → c ≡ true → b ≡ false
        lone true c e f = absurd (true≢false (sym f ∙ e))
        lone false c e f = refl

        unchanged : (n : Node) → held_under name n.properties ≡ None → with_properties (remove_under name) n ≡ n
        unchanged n e = ap (λ (ps : List Property). record { kind = n.kind; prototype = n.prototype; frozen = n.frozen; properties = ps; elements = n.elements }) (nothing_removed name n.properties e)

named_delete_ends : (number : ℕ) (name : List ℕ) (heap : Heap) → IsLawful heap.nodes → Ends AnyHeap (delete_named number name heap)
unfolding AnyHeap
named_delete_ends number name heap lawful =
    either AnyHeap (is_special (kind_of heap.nodes number) name || is_length heap.nodes number name) (stop NotInProfile) _ heap
    (λ out. halted AnyHeap NotInProfile heap lawful)
    (λ plain.
    either AnyHeap (is_size number name || (is_some (own_value heap.nodes number name) && is_frozen heap.nodes number)) not_writable (λ h. Gave true (with_nodes h (without_own h.nodes number name))) heap
    (λ guarded. throws AnyHeap (codes "not writable") heap lawful)
    (λ free. given AnyHeap true (with_nodes heap (without_own heap.nodes number name)) (removed_lawful_at heap.nodes number name lawful (last (is_size number name) (is_some (own_value heap.nodes number name) && is_frozen heap.nodes number) free))))
  where
    last : (b c : Bool) → (b || c) ≡ false → c ≡ false
    last true c e = absurd (true≢false e)
    last false c e = e

node_delete_ends : (number : ℕ) (key : Value) (place : Option ℕ) (heap : Heap) → IsLawful heap.nodes → Ends AnyHeap (delete_of_node number key place heap)
unfolding AnyHeap Named
node_delete_ends number key (Some place) heap lawful = halted AnyHeap NotInProfile heap lawful
node_delete_ends number key None heap lawful =
    ends_then (Named key heap) AnyHeap (named_key key heap) (λ name. delete_named number name) (named_ends key heap lawful) (λ name h named. named_delete_ends number name h (subst IsLawful (sym named.0) lawful))

text_delete_ends : (key : Value) (place : Option ℕ) (heap : Heap) → IsLawful heap.nodes → Ends AnyHeap (delete_of_text key place heap)
unfolding AnyHeap
text_delete_ends key (Some place) heap lawful = halted AnyHeap NotInProfile heap lawful
text_delete_ends key None heap lawful = outside AnyHeap key heap lawful

delete_ends : (base key : Value) (heap : Heap) → IsLawful heap.nodes → Ends AnyHeap (delete base key heap)
unfolding AnyHeap
delete_ends Undefined key heap lawful = throws AnyHeap (codes "no properties") heap lawful
delete_ends Null key heap lawful = throws AnyHeap (codes "no properties") heap lawful
delete_ends (Truth b) key heap lawful = outside AnyHeap key heap lawful
delete_ends (Int z) key heap lawful = outside AnyHeap key heap lawful
delete_ends (Text text) key heap lawful = text_delete_ends key (index_of key) heap lawful
delete_ends (At number) key heap lawful = node_delete_ends number key (element_of heap.nodes number key) heap lawful
delete_ends Empty key heap lawful = halted AnyHeap NotInProfile heap lawful

pub delete_leaves : (base key : Value) (heap : Heap) → IsLawful heap.nodes → LeavesHeap (delete base key heap)
unfolding AnyHeap
delete_leaves base key heap lawful = leaves AnyHeap (λ done h left. left) (delete base key heap) (delete_ends base key heap lawful)

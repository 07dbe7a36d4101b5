-- The nodes that were there stand still while properties are accessed.
use Rattle.std.proofs.Common.{◌≡◌, ℕ, ◌+◌, ◌==◌, ◌&&◌, ◌||◌, Bool, true, false, not, nat_lt, nat_le, pos, List, [], ◌∷◌, ◌++◌, codes, length, slice_get, Option, None, Some, is_some, Result, Ok, Err, refl, sym, ap, subst, ◌∙◌, ⊎_elim, arith, if◌then◌else◌, length-append}
use Rattle.std.specs.List.{slice_set}
use Rattle.std.specs.Option.{option_map}
use Rattle.std.specs.Str.{bytes_eq as text_eq}
use Rattle.std.proofs.lemmas.Bool.{cases_eq}
use Rattle.snap_base.specs.declared.limits.TheConstants.{MOST_ITEMS, MOST_PRIVATE_NODES, MOST_PROPERTIES}
use Rattle.snap_base.specs.declared.stop.Stop.{Stop}
use Rattle.snap_base.specs.declared.stop.Stop.TheVariants.{NotInProfile, TooLong, TooManyNodes}
use Rattle.snap_graph.specs.declared.kind.Kind.TheVariants as kind
use Rattle.snap_graph.specs.declared.node.Node.{Node}
use Rattle.snap_graph.specs.declared.value.Property.{Property}
use Rattle.snap_graph.specs.declared.value.Value.{Value}
use Rattle.snap_graph.specs.declared.value.Value.TheVariants.{Undefined, Null, Bool as Truth, Int, Text, Node as At, Empty}
use Rattle.spec_values.specs.Access.{count_value, delete, delete_named, delete_of_node, delete_of_text, element_of, entry_count, found_or, get, get_of_node, get_of_text, index_of, is_array, is_length, is_size, is_special, look_up, may_write, named_key, no_properties, not_writable, or_stop, or_undefined, reached_from, read_along, set, set_element_of, set_named, set_of_node, set_of_text, size_of, size_or_throw, throw_error, type_error}
use Rattle.spec_values.specs.Answer.{◌>>=◌, Action, HeapAnswer, Gave, Heap, Stopped, Threw, followed, give, stop, throw_value}
use Rattle.spec_values.specs.Asking.{find_global, has_own, has_own_named, has_own_of_node, has_own_of_text, not_defined, set_global}
use Rattle.spec_values.specs.Conversions.{safe, text_of}
use Rattle.spec_values.specs.Leaving.{LeavesNodes, StandStill}
use Rattle.spec_values.specs.Operations.{changed, elements_of, is_frozen, kind_of, make, new_node, own_value, properties_of, push_element, put_own, put_under, remove_under, with_element, with_elements, with_more, with_nodes, with_own, with_properties, without_own}
use Rattle.spec_values.proofs.Arrays.{an_array_as, array_node}
use Rattle.spec_values.proofs.Changes.{changed_elsewhere, changed_here, length-changed}
use Rattle.spec_values.proofs.Made.{read_before}

still : (nodes : List Node) → StandStill nodes nodes
still nodes = record { count = omega arith; each = λ number node e. (node, e, refl, refl, λ other. refl) }

further : (nodes mid after : List Node) → StandStill nodes mid → StandStill mid after → StandStill nodes after
further nodes mid after one two = record {
  count = omega (arith, one.count, two.count);
  each = λ number node e.
      let there = one.each number node e in
      let now = two.each number there.0 there.1 in
      (now.0, now.1, now.2 ∙ there.2, now.3 ∙ there.3, λ other. now.4 (λ k. other (sym there.2 ∙ k)) ∙ there.4 other);
}

-- one more node
one_more : (nodes : List Node) (x : Node) → StandStill nodes (nodes ++ x ∷ [])
one_more nodes x = record { count = omega (arith, length-append nodes (x ∷ [])); each = λ number node e. (node, read_before nodes x number node e, refl, refl, λ other. refl) }

-- one node with other properties, and an array with other elements
changed_still : (change : Node → Node) (nodes : List Node) (number : ℕ) → ((node : Node) → (change node).kind ≡ node.kind) → ((node : Node) → (change node).prototype ≡ node.prototype)
    → ((node : Node) → slice_get nodes number ≡ Some node → (node.kind ≡ kind.Array → ⊥) → (change node).elements ≡ node.elements) → StandStill nodes (changed change nodes number)
changed_still change nodes number kinds prototypes elements = record {
  count = omega (arith, length-changed change nodes number);
  each = λ n node e.
      ⊎_elim
      (λ (here : n ≡ number).
      let at = subst (λ (k : ℕ). slice_get nodes k ≡ Some node) here e in
      (change node, subst (λ (k : ℕ). slice_get (changed change nodes number) k ≡ Some (change node)) (sym here) (changed_here change nodes number ∙ ap (option_map change) at), kinds node, prototypes node, elements node at))
      (λ (apart : n ≡ number → ⊥). (node, changed_elsewhere change nodes number n apart ∙ e, refl, refl, λ other. refl))
      (cases_eq n number);
}

properties_still : (change : List Property → List Property) (nodes : List Node) (number : ℕ) → StandStill nodes (changed (with_properties change) nodes number)
properties_still change nodes number = changed_still (with_properties change) nodes number (λ node. refl) (λ node. refl) (λ node e other. refl)

elements_still : (change : List Value → List Value) (nodes : List Node) (number : ℕ) → is_array (kind_of nodes number) ≡ true → StandStill nodes (changed (with_elements change) nodes number)
elements_still change nodes number an_array =
    let is = array_node nodes number an_array in
    changed_still (with_elements change) nodes number (λ node. refl) (λ node. refl) (λ node e other. let same : is.0 ≡ node = cc in absurd (other (sym (ap (λ (n : Node). n.kind) same) ∙ is.2)))

module _ (nodes : List Node) where
  chosen : {A : Type 0} (b : Bool) (x y : HeapAnswer A) → LeavesNodes nodes x → LeavesNodes nodes y → LeavesNodes nodes (if b then x else y)
  chosen true x y f g = f
  chosen false x y f g = g

  done : {A : Type 0} (b : Bool) (x y : Action A) (h : Heap) → LeavesNodes nodes (x h) → LeavesNodes nodes (y h) → LeavesNodes nodes ((if b then x else y) h)
  done true x y h f g = f
  done false x y h f g = g

  then_still : {A B : Type 0} (answer : HeapAnswer A) (next : A → Action B) → LeavesNodes nodes answer → ((a : A) (h : Heap) → StandStill nodes h.nodes → LeavesNodes nodes (next a h)) → LeavesNodes nodes (followed answer next)
  then_still (Gave a h) next e f = f a h e
  then_still (Threw v h) next e f = e
  then_still (Stopped why h) next e f = e

  put_still : (number : ℕ) (name : List ℕ) (held : Value) (heap : Heap) → StandStill nodes heap.nodes → LeavesNodes nodes (put_own number name held heap)
  put_still number name held heap s =
      chosen (not (is_some (own_value heap.nodes number name)) && nat_le MOST_PROPERTIES (length (properties_of heap.nodes number))) (Stopped TooLong heap) (Gave tt (with_nodes heap (with_own heap.nodes number name held)))
      s (further nodes heap.nodes (with_own heap.nodes number name held) s (properties_still (put_under name held) heap.nodes number))

  throws_of_still : (A : Type 0) (prototype : ℕ) (message : List ℕ) (heap : Heap) → StandStill nodes heap.nodes → LeavesNodes {A = A} nodes (throw_error prototype message heap)
  throws_of_still A prototype message heap s =
      let more = further nodes heap.nodes (heap.nodes ++ new_node kind.Error (At prototype) ∷ []) s (one_more heap.nodes (new_node kind.Error (At prototype))) in
      then_still (make kind.Error (At prototype) heap) _
      (chosen (nat_lt heap.private_nodes MOST_PRIVATE_NODES) (Gave (length heap.nodes) (record { nodes = heap.nodes ++ new_node kind.Error (At prototype) ∷ []; private_nodes = heap.private_nodes + 1; keys = heap.keys })) (Stopped TooManyNodes heap) more s)
      (λ error h here.
      let used : Heap = record { nodes = h.nodes; private_nodes = h.private_nodes; keys = h.keys ++ codes "message" ∷ [] } in
      then_still (put_own error (codes "message") (Text message) used) (λ put. throw_value (At error)) (put_still error (codes "message") (Text message) used here) (λ put h3 there. there))

  throws_still : (A : Type 0) (message : List ℕ) (heap : Heap) → StandStill nodes heap.nodes → LeavesNodes {A = A} nodes (type_error message heap)
  throws_still A message heap s = throws_of_still A 7 message heap s

  refuses_still : (A : Type 0) (heap : Heap) → StandStill nodes heap.nodes → LeavesNodes {A = A} nodes (not_writable heap)
  refuses_still A heap s = throws_still A (codes "not writable") heap s

  named_still : (key : Value) (heap : Heap) → StandStill nodes heap.nodes → LeavesNodes nodes (named_key key heap)
  named_still key heap s = by (text_of key)
    where
      judged : (name : List ℕ) (b : Bool) (h : Heap) → StandStill nodes h.nodes → LeavesNodes nodes ((if b then stop NotInProfile else give name) h)
      judged name true h s = s
      judged name false h s = s

      by : (r : Result (List ℕ) Stop) → LeavesNodes nodes (followed (or_stop r heap) (λ name h.
          (if text_eq name (codes "__proto__") then stop NotInProfile else give name) (record { nodes = h.nodes; private_nodes = h.private_nodes; keys = h.keys ++ name ∷ [] })))
      by (Ok name) = judged name (text_eq name (codes "__proto__")) (record { nodes = heap.nodes; private_nodes = heap.private_nodes; keys = heap.keys ++ name ∷ [] }) s
      by (Err why) = s

  count_still : (n : ℕ) (heap : Heap) → StandStill nodes heap.nodes → LeavesNodes nodes (count_value n heap)
  count_still n heap s = by (safe (pos n))
    where
      by : (result : Result Value Stop) → LeavesNodes nodes (or_stop result heap)
      by (Ok value) = s
      by (Err why) = s

  size_still : (found : Option ℕ) (heap : Heap) → StandStill nodes heap.nodes → LeavesNodes nodes (size_or_throw found heap)
  size_still None heap s = throws_still Value (codes "wrong receiver") heap s
  size_still (Some n) heap s = count_still n heap s

  size_of_still : (prototype : ℕ) (base : Value) (heap : Heap) → StandStill nodes heap.nodes → LeavesNodes nodes (size_of prototype base heap)
  size_of_still prototype Undefined heap s = size_still None heap s
  size_of_still prototype Null heap s = size_still None heap s
  size_of_still prototype (Truth b) heap s = size_still None heap s
  size_of_still prototype (Int z) heap s = size_still None heap s
  size_of_still prototype (Text text) heap s = size_still None heap s
  size_of_still prototype (At node) heap s = size_still (entry_count prototype (kind_of heap.nodes node) (elements_of heap.nodes node)) heap s
  size_of_still prototype Empty heap s = size_still None heap s

  found_still : (found : Option Value) (on : Action (Option Value)) (heap : Heap) → StandStill nodes heap.nodes → LeavesNodes nodes (on heap) → LeavesNodes nodes (found_or found on heap)
  found_still None on heap s more = more
  found_still (Some held) on heap s more = s

  look_up_still : (base : Value) (name numbers : List ℕ) (heap : Heap) → StandStill nodes heap.nodes → LeavesNodes nodes (look_up base name numbers heap)
  look_up_still base name [] heap s = s
  look_up_still base name (number ∷ rest) heap s =
      let more = look_up_still base name rest heap s in
      done (is_special (kind_of heap.nodes number) name) (stop NotInProfile) _ heap s
      (done (is_size number name) (size_of number base >>= λ size. give (Some size)) (found_or (own_value heap.nodes number name) (look_up base name rest)) heap
      (then_still (size_of number base heap) (λ size. give (Some size)) (size_of_still number base heap s) (λ size h here. here))
      (found_still (own_value heap.nodes number name) (look_up base name rest) heap s more))

  along_still : (base : Value) (name numbers : List ℕ) (heap : Heap) → StandStill nodes heap.nodes → LeavesNodes nodes (read_along base name numbers heap)
  along_still base name numbers heap s = then_still (look_up base name numbers heap) (λ found. give (or_undefined found)) (look_up_still base name numbers heap s) (λ found h here. here)

  may_write_still : (name numbers : List ℕ) (heap : Heap) → StandStill nodes heap.nodes → LeavesNodes nodes (may_write name numbers heap)
  may_write_still name [] heap s = s
  may_write_still name (number ∷ rest) heap s =
      let more = may_write_still name rest heap s in
      done (is_special (kind_of heap.nodes number) name) (stop NotInProfile) _ heap s
      (done (is_size number name) not_writable _ heap (refuses_still Unit heap s)
      (done (is_some (own_value heap.nodes number name)) _ (may_write name rest) heap (done (is_frozen heap.nodes number) not_writable (give tt) heap (refuses_still Unit heap s) s) more))

  push_still : (number : ℕ) (held : Value) (heap : Heap) → StandStill nodes heap.nodes → is_array (kind_of heap.nodes number) ≡ true → LeavesNodes nodes (push_element number held heap)
  push_still number held heap s an_array =
      chosen (nat_le MOST_ITEMS (length (elements_of heap.nodes number))) (Stopped TooLong heap) (Gave tt (with_nodes heap (with_more heap.nodes number held)))
      s (further nodes heap.nodes (with_more heap.nodes number held) s (elements_still (λ elements. elements ++ held ∷ []) heap.nodes number an_array))

  element_still : (number place : ℕ) (held : Value) (heap : Heap) → StandStill nodes heap.nodes → is_array (kind_of heap.nodes number) ≡ true → LeavesNodes nodes (set_element_of number place held heap)
  element_still number place held heap s an_array =
      done (is_frozen heap.nodes number) not_writable _ heap (refuses_still Unit heap s)
      (done (nat_lt place (length (elements_of heap.nodes number))) (λ h. Gave tt (with_nodes h (with_element h.nodes number place held))) _ heap
      (further nodes heap.nodes (with_element heap.nodes number place held) s (elements_still (λ elements. slice_set elements place held) heap.nodes number an_array))
      (done (place == length (elements_of heap.nodes number)) (push_element number held) (stop NotInProfile) heap (push_still number held heap s an_array) s))

  set_named_still : (number : ℕ) (name : List ℕ) (held : Value) (heap : Heap) → StandStill nodes heap.nodes → LeavesNodes nodes (set_named number name held heap)
  set_named_still number name held heap s =
      done (is_length heap.nodes number name) _ _ heap
      (done (is_frozen heap.nodes number) not_writable (stop NotInProfile) heap (refuses_still Unit heap s) s)
      (then_still (may_write name (reached_from heap.nodes number) heap) _ (may_write_still name (reached_from heap.nodes number) heap s)
      (λ written h here. done (is_frozen h.nodes number) not_writable (put_own number name held) h (refuses_still Unit h here) (put_still number name held h here)))

  delete_named_still : (number : ℕ) (name : List ℕ) (heap : Heap) → StandStill nodes heap.nodes → LeavesNodes nodes (delete_named number name heap)
  delete_named_still number name heap s =
      done (is_special (kind_of heap.nodes number) name || is_length heap.nodes number name) (stop NotInProfile) _ heap s
      (done (is_size number name || (is_some (own_value heap.nodes number name) && is_frozen heap.nodes number)) not_writable (λ h. Gave true (with_nodes h (without_own h.nodes number name))) heap (refuses_still Bool heap s)
      (further nodes heap.nodes (without_own heap.nodes number name) s (properties_still (remove_under name) heap.nodes number)))

  outside_still : (A : Type 0) (key : Value) (heap : Heap) → StandStill nodes heap.nodes → LeavesNodes nodes (followed {B = A} (named_key key heap) (λ name. stop NotInProfile))
  outside_still A key heap s = then_still (named_key key heap) (λ name. stop NotInProfile) (named_still key heap s) (λ name h here. here)

  refused_still : (key : Value) (heap : Heap) → StandStill nodes heap.nodes → LeavesNodes nodes (followed (named_key key heap) (λ name. not_writable {A = Unit}))
  refused_still key heap s = then_still (named_key key heap) (λ name. not_writable) (named_still key heap s) (λ name h here. refuses_still Unit h here)

  text_get_still : (text : List ℕ) (key : Value) (place : Option ℕ) (heap : Heap) → StandStill nodes heap.nodes → LeavesNodes nodes (get_of_text text key place heap)
  text_get_still text key (Some place) heap s = s
  text_get_still text key None heap s =
      then_still (named_key key heap) _ (named_still key heap s) (λ name h here. done (text_eq name (codes "length")) (count_value (length text)) (read_along (Text text) name (reached_from h.nodes 3)) h (count_still (length text) h here) (along_still (Text text) name (reached_from h.nodes 3) h here))

  node_get_still : (number : ℕ) (key : Value) (place : Option ℕ) (heap : Heap) → StandStill nodes heap.nodes → LeavesNodes nodes (get_of_node number key place heap)
  node_get_still number key (Some place) heap s = s
  node_get_still number key None heap s =
      then_still (named_key key heap) _ (named_still key heap s)
      (λ name h here. done (is_length h.nodes number name) (count_value (length (elements_of h.nodes number))) (read_along (At number) name (reached_from h.nodes number)) h (count_still (length (elements_of h.nodes number)) h here) (along_still (At number) name (reached_from h.nodes number) h here))

  text_set_still : (key : Value) (place : Option ℕ) (heap : Heap) → StandStill nodes heap.nodes → LeavesNodes nodes (set_of_text key place heap)
  text_set_still key (Some place) heap s = refuses_still Unit heap s
  text_set_still key None heap s = refused_still key heap s

  node_set_still : (number : ℕ) (key held : Value) (place : Option ℕ) (heap : Heap) → StandStill nodes heap.nodes → element_of heap.nodes number key ≡ place → LeavesNodes nodes (set_of_node number key held place heap)
  node_set_still number key held (Some place) heap s e = element_still number place held heap s (an_array_as (is_array (kind_of heap.nodes number)) (index_of key) place e)
  node_set_still number key held None heap s e = then_still (named_key key heap) (λ name. set_named number name held) (named_still key heap s) (λ name h here. set_named_still number name held h here)

  node_delete_still : (number : ℕ) (key : Value) (place : Option ℕ) (heap : Heap) → StandStill nodes heap.nodes → LeavesNodes nodes (delete_of_node number key place heap)
  node_delete_still number key (Some place) heap s = s
  node_delete_still number key None heap s = then_still (named_key key heap) (λ name. delete_named number name) (named_still key heap s) (λ name h here. delete_named_still number name h here)

  text_delete_still : (key : Value) (place : Option ℕ) (heap : Heap) → StandStill nodes heap.nodes → LeavesNodes nodes (delete_of_text key place heap)
  text_delete_still key (Some place) heap s = s
  text_delete_still key None heap s = outside_still Bool key heap s

  global_still : (global : ℕ) (text : List ℕ) (heap : Heap) → StandStill nodes heap.nodes → LeavesNodes nodes (find_global global text heap)
  global_still global text heap s =
      then_still (named_key (Text text) heap) _ (named_still (Text text) heap s) (λ name h here. look_up_still (At global) name (reached_from h.nodes global) h here)

  global_set_still : (global : ℕ) (name : List ℕ) (held : Value) (heap : Heap) → StandStill nodes heap.nodes → LeavesNodes nodes (set_global global name held heap)
  global_set_still global name held heap s =
      then_still (look_up (At global) name (reached_from heap.nodes global) heap) _ (look_up_still (At global) name (reached_from heap.nodes global) heap s)
      (λ found h here. done (is_some found) (set_named global name held) not_defined h (set_named_still global name held h here) (throws_of_still Unit 8 (codes "not defined") h here))

  own_named_still : (number : ℕ) (name : List ℕ) (heap : Heap) → StandStill nodes heap.nodes → LeavesNodes nodes (has_own_named number name heap)
  own_named_still number name heap s = done (is_special (kind_of heap.nodes number) name) (stop NotInProfile) _ heap s s

  own_nothing_still : (key : Value) (heap : Heap) → StandStill nodes heap.nodes → LeavesNodes nodes (followed {B = Bool} (named_key key heap) (λ name. no_properties))
  own_nothing_still key heap s = then_still (named_key key heap) (λ name. no_properties) (named_still key heap s) (λ name h here. throws_still Bool (codes "no properties") h here)

  own_text_still : (text : List ℕ) (key : Value) (place : Option ℕ) (heap : Heap) → StandStill nodes heap.nodes → LeavesNodes nodes (has_own_of_text text key place heap)
  own_text_still text key (Some place) heap s = s
  own_text_still text key None heap s = then_still (named_key key heap) _ (named_still key heap s) (λ name h here. here)

  own_node_still : (number : ℕ) (key : Value) (place : Option ℕ) (heap : Heap) → StandStill nodes heap.nodes → LeavesNodes nodes (has_own_of_node number key place heap)
  own_node_still number key (Some place) heap s = s
  own_node_still number key None heap s = then_still (named_key key heap) (λ name. has_own_named number name) (named_still key heap s) (λ name h here. own_named_still number name h here)

pub get_still : (base key : Value) (heap : Heap) → LeavesNodes heap.nodes (get base key heap)
get_still Undefined key heap = throws_still heap.nodes Value (codes "no properties") heap (still heap.nodes)
get_still Null key heap = throws_still heap.nodes Value (codes "no properties") heap (still heap.nodes)
get_still (Truth b) key heap = outside_still heap.nodes Value key heap (still heap.nodes)
get_still (Int z) key heap = outside_still heap.nodes Value key heap (still heap.nodes)
get_still (Text text) key heap = text_get_still heap.nodes text key (index_of key) heap (still heap.nodes)
get_still (At number) key heap = node_get_still heap.nodes number key (element_of heap.nodes number key) heap (still heap.nodes)
get_still Empty key heap = still heap.nodes

pub set_still : (base key held : Value) (heap : Heap) → LeavesNodes heap.nodes (set base key held heap)
set_still Undefined key held heap = throws_still heap.nodes Unit (codes "no properties") heap (still heap.nodes)
set_still Null key held heap = throws_still heap.nodes Unit (codes "no properties") heap (still heap.nodes)
set_still (Truth b) key held heap = refused_still heap.nodes key heap (still heap.nodes)
set_still (Int z) key held heap = refused_still heap.nodes key heap (still heap.nodes)
set_still (Text text) key held heap = text_set_still heap.nodes key (index_of key) heap (still heap.nodes)
set_still (At number) key held heap = node_set_still heap.nodes number key held (element_of heap.nodes number key) heap (still heap.nodes) refl
set_still Empty key held heap = still heap.nodes

pub delete_still : (base key : Value) (heap : Heap) → LeavesNodes heap.nodes (delete base key heap)
delete_still Undefined key heap = throws_still heap.nodes Bool (codes "no properties") heap (still heap.nodes)
delete_still Null key heap = throws_still heap.nodes Bool (codes "no properties") heap (still heap.nodes)
delete_still (Truth b) key heap = outside_still heap.nodes Bool key heap (still heap.nodes)
delete_still (Int z) key heap = outside_still heap.nodes Bool key heap (still heap.nodes)
delete_still (Text text) key heap = text_delete_still heap.nodes key (index_of key) heap (still heap.nodes)
delete_still (At number) key heap = node_delete_still heap.nodes number key (element_of heap.nodes number key) heap (still heap.nodes)
delete_still Empty key heap = still heap.nodes

pub has_own_still : (base key : Value) (heap : Heap) → LeavesNodes heap.nodes (has_own base key heap)
has_own_still Undefined key heap = own_nothing_still heap.nodes key heap (still heap.nodes)
has_own_still Null key heap = own_nothing_still heap.nodes key heap (still heap.nodes)
has_own_still (Truth b) key heap = outside_still heap.nodes Bool key heap (still heap.nodes)
has_own_still (Int z) key heap = outside_still heap.nodes Bool key heap (still heap.nodes)
has_own_still (Text text) key heap = own_text_still heap.nodes text key (index_of key) heap (still heap.nodes)
has_own_still (At number) key heap = own_node_still heap.nodes number key (element_of heap.nodes number key) heap (still heap.nodes)
has_own_still Empty key heap = still heap.nodes

pub find_global_still : (global : ℕ) (text : List ℕ) (heap : Heap) → LeavesNodes heap.nodes (find_global global text heap)
find_global_still global text heap = global_still heap.nodes global text heap (still heap.nodes)

pub set_global_still : (global : ℕ) (name : List ℕ) (held : Value) (heap : Heap) → LeavesNodes heap.nodes (set_global global name held heap)
set_global_still global name held heap = global_set_still heap.nodes global name held heap (still heap.nodes)

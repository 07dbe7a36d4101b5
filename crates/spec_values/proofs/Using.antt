-- Each access uses its key once.
use Rattle.std.proofs.Common.{◌≡◌, ℕ, ◌+◌, ◌==◌, ◌&&◌, ◌||◌, Bool, true, false, not, nat_lt, nat_le, pos, List, [], ◌∷◌, ◌++◌, codes, length, slice_get, Option, None, Some, is_some, Result, Ok, Err, refl, sym, ap, subst, if◌then◌else◌}
use Rattle.std.specs.Option.{option_map_or}
use Rattle.std.specs.Str.{bytes_eq as text_eq}
use Rattle.std.proofs.lemmas.Bool.{true≢false}
use Rattle.std.proofs.lemmas.List.{append-nil}
use Rattle.snap_base.specs.declared.limits.TheConstants.{MOST_ITEMS, MOST_PRIVATE_NODES, MOST_PROPERTIES}
use Rattle.snap_base.specs.declared.stop.Stop.{Stop}
use Rattle.snap_base.specs.declared.stop.Stop.TheVariants.{NotInProfile, TooLong, TooManyNodes}
use Rattle.snap_graph.specs.declared.kind.Kind.TheVariants as kind
use Rattle.snap_graph.specs.declared.node.Node.{Node}
use Rattle.snap_graph.specs.declared.value.Value.{Value}
use Rattle.snap_graph.specs.declared.value.Value.TheVariants.{Undefined, Null, Bool as Truth, Int, Text, Node as At, Empty}
use Rattle.spec_values.specs.Access.{count_value, delete, delete_named, delete_of_node, delete_of_text, element_of, entry_count, found_or, get, get_of_node, get_of_text, index_of, is_length, is_size, is_special, look_up, may_write, named_key, no_properties, not_writable, or_stop, or_undefined, reached_from, read_along, set, set_element_of, set_named, set_of_node, set_of_text, size_of, size_or_throw, throw_error, type_error}
use Rattle.spec_values.specs.Answer.{◌>>=◌, Action, HeapAnswer, Gave, Heap, Stopped, Threw, followed, give, stop, throw_value}
use Rattle.spec_values.specs.Asking.{find_global, has_own, has_own_named, has_own_of_node, has_own_of_text, not_defined, set_global}
use Rattle.spec_values.specs.Conversions.{safe, text_of}
use Rattle.spec_values.specs.Operations.{elements_of, is_frozen, kind_of, new_node, own_value, properties_of, push_element, put_own, with_element, with_more, with_nodes, with_own, without_own}
use Rattle.spec_values.specs.Uses.{HasUsed, text_used, used_by, used_by_test, used_unless}
use Rattle.spec_values.proofs.Ending.{read_last}

module _ (keys : List (List ℕ)) where
  chosen : {A : Type 0} (b : Bool) (x y : HeapAnswer A) → (b ≡ true → HasUsed keys x) → (b ≡ false → HasUsed keys y) → HasUsed keys (if b then x else y)
  chosen true x y f g = f refl
  chosen false x y f g = g refl

  done : {A : Type 0} (b : Bool) (x y : Action A) (h : Heap) → HasUsed keys (x h) → HasUsed keys (y h) → HasUsed keys ((if b then x else y) h)
  done true x y h f g = f
  done false x y h f g = g

  then_used : {A B : Type 0} (answer : HeapAnswer A) (next : A → Action B) → HasUsed keys answer → ((a : A) (h : Heap) → h.keys ≡ keys → HasUsed keys (next a h)) → HasUsed keys (followed answer next)
  then_used (Gave a h) next e f = f a h e
  then_used (Threw v h) next e f = e
  then_used (Stopped why h) next e f = e

  -- an error that is thrown uses `message` behind
  message_used : (A : Type 0) (prototype : ℕ) (message : List ℕ) (error : ℕ) (heap : Heap) → heap.keys ≡ keys ++ codes "message" ∷ [] → slice_get heap.nodes error ≡ Some (new_node kind.Error (At prototype))
      → HasUsed keys (followed {B = A} (put_own error (codes "message") (Text message) heap) (λ put. throw_value (At error)))
  message_used A prototype message error heap used last =
      let few : nat_le MOST_PROPERTIES (length (properties_of heap.nodes error)) ≡ false = ap (λ (found : Option Node). nat_le MOST_PROPERTIES (length (option_map_or (λ node. node.properties) found []))) last in
      put_room A (not (is_some (own_value heap.nodes error (codes "message")))) (nat_le MOST_PROPERTIES (length (properties_of heap.nodes error))) few
    where
      put_room : (A : Type 0) (b c : Bool) → c ≡ false
          → HasUsed keys (followed {B = A} (if b && c then Stopped TooLong heap else Gave (tt {0}) (with_nodes heap (with_own heap.nodes error (codes "message") (Text message)))) (λ put. throw_value (At error)))
      put_room A true true e = absurd (true≢false e)
      put_room A true false e = used
      put_room A false c e = used

  throws_of_used : (A : Type 0) (prototype : ℕ) (message : List ℕ) (heap : Heap) → heap.keys ≡ keys → HasUsed {A = A} keys (throw_error prototype message heap)
  throws_of_used A prototype message heap used = by (nat_lt heap.private_nodes MOST_PRIVATE_NODES)
    where
      by : (b : Bool) → HasUsed {A = A} keys (followed (if b then Gave (length heap.nodes) (record { nodes = heap.nodes ++ new_node kind.Error (At prototype) ∷ []; private_nodes = heap.private_nodes + 1; keys = heap.keys }) else Stopped TooManyNodes heap)
          (λ error h. followed (put_own error (codes "message") (Text message) (record { nodes = h.nodes; private_nodes = h.private_nodes; keys = h.keys ++ codes "message" ∷ [] })) (λ put. throw_value (At error))))
      by true =
          message_used A prototype message (length heap.nodes) (record { nodes = heap.nodes ++ new_node kind.Error (At prototype) ∷ []; private_nodes = heap.private_nodes + 1; keys = heap.keys ++ codes "message" ∷ [] })
          (ap (λ (ks : List (List ℕ)). ks ++ codes "message" ∷ []) used) (read_last heap.nodes (new_node kind.Error (At prototype)))
      by false = used

  throws_used : (A : Type 0) (message : List ℕ) (heap : Heap) → heap.keys ≡ keys → HasUsed {A = A} keys (type_error message heap)
  throws_used A message heap used = throws_of_used A 7 message heap used

  refuses_used : (A : Type 0) (heap : Heap) → heap.keys ≡ keys → HasUsed {A = A} keys (not_writable heap)
  refuses_used A heap used = throws_used A (codes "not writable") heap used

  -- looking up
  count_used : (n : ℕ) (heap : Heap) → heap.keys ≡ keys → HasUsed keys (count_value n heap)
  count_used n heap used = by (safe (pos n))
    where
      by : (result : Result Value Stop) → HasUsed keys (or_stop result heap)
      by (Ok value) = used
      by (Err why) = used

  size_used : (found : Option ℕ) (heap : Heap) → heap.keys ≡ keys → HasUsed keys (size_or_throw found heap)
  size_used None heap used = throws_used Value (codes "wrong receiver") heap used
  size_used (Some n) heap used = count_used n heap used

  size_of_used : (prototype : ℕ) (base : Value) (heap : Heap) → heap.keys ≡ keys → HasUsed keys (size_of prototype base heap)
  size_of_used prototype Undefined heap used = size_used None heap used
  size_of_used prototype Null heap used = size_used None heap used
  size_of_used prototype (Truth b) heap used = size_used None heap used
  size_of_used prototype (Int z) heap used = size_used None heap used
  size_of_used prototype (Text text) heap used = size_used None heap used
  size_of_used prototype (At node) heap used = size_used (entry_count prototype (kind_of heap.nodes node) (elements_of heap.nodes node)) heap used
  size_of_used prototype Empty heap used = size_used None heap used

  found_used : (found : Option Value) (further : Action (Option Value)) (heap : Heap) → heap.keys ≡ keys → HasUsed keys (further heap) → HasUsed keys (found_or found further heap)
  found_used None further heap used more = more
  found_used (Some held) further heap used more = used

  look_up_used : (base : Value) (name numbers : List ℕ) (heap : Heap) → heap.keys ≡ keys → HasUsed keys (look_up base name numbers heap)
  look_up_used base name [] heap used = used
  look_up_used base name (number ∷ rest) heap used =
      let more = look_up_used base name rest heap used in
      done (is_special (kind_of heap.nodes number) name) (stop NotInProfile) _ heap used
      (done (is_size number name) (size_of number base >>= λ size. give (Some size)) (found_or (own_value heap.nodes number name) (look_up base name rest)) heap
      (then_used (size_of number base heap) (λ size. give (Some size)) (size_of_used number base heap used) (λ size h here. here))
      (found_used (own_value heap.nodes number name) (look_up base name rest) heap used more))

  along_used : (base : Value) (name numbers : List ℕ) (heap : Heap) → heap.keys ≡ keys → HasUsed keys (read_along base name numbers heap)
  along_used base name numbers heap used = then_used (look_up base name numbers heap) (λ found. give (or_undefined found)) (look_up_used base name numbers heap used) (λ found h here. here)

  may_write_used : (name numbers : List ℕ) (heap : Heap) → heap.keys ≡ keys → HasUsed keys (may_write name numbers heap)
  may_write_used name [] heap used = used
  may_write_used name (number ∷ rest) heap used =
      let more = may_write_used name rest heap used in
      done (is_special (kind_of heap.nodes number) name) (stop NotInProfile) _ heap used
      (done (is_size number name) not_writable _ heap (refuses_used Unit heap used)
      (done (is_some (own_value heap.nodes number name)) _ (may_write name rest) heap (done (is_frozen heap.nodes number) not_writable (give tt) heap (refuses_used Unit heap used) used) more))

  -- putting
  put_used : (number : ℕ) (name : List ℕ) (held : Value) (heap : Heap) → heap.keys ≡ keys → HasUsed keys (put_own number name held heap)
  put_used number name held heap used =
      chosen (not (is_some (own_value heap.nodes number name)) && nat_le MOST_PROPERTIES (length (properties_of heap.nodes number))) (Stopped TooLong heap) (Gave tt (with_nodes heap (with_own heap.nodes number name held))) (λ full. used) (λ room. used)

  push_used : (number : ℕ) (held : Value) (heap : Heap) → heap.keys ≡ keys → HasUsed keys (push_element number held heap)
  push_used number held heap used =
      chosen (nat_le MOST_ITEMS (length (elements_of heap.nodes number))) (Stopped TooLong heap) (Gave tt (with_nodes heap (with_more heap.nodes number held))) (λ full. used) (λ room. used)

  element_used : (number place : ℕ) (held : Value) (heap : Heap) → heap.keys ≡ keys → HasUsed keys (set_element_of number place held heap)
  element_used number place held heap used =
      done (is_frozen heap.nodes number) not_writable _ heap (refuses_used Unit heap used)
      (done (nat_lt place (length (elements_of heap.nodes number))) (λ h. Gave tt (with_nodes h (with_element h.nodes number place held))) _ heap used
      (done (place == length (elements_of heap.nodes number)) (push_element number held) (stop NotInProfile) heap (push_used number held heap used) used))

  set_named_used : (number : ℕ) (name : List ℕ) (held : Value) (heap : Heap) → heap.keys ≡ keys → HasUsed keys (set_named number name held heap)
  set_named_used number name held heap used =
      done (is_length heap.nodes number name) _ _ heap
      (done (is_frozen heap.nodes number) not_writable (stop NotInProfile) heap (refuses_used Unit heap used) used)
      (then_used (may_write name (reached_from heap.nodes number) heap) _ (may_write_used name (reached_from heap.nodes number) heap used)
      (λ written h here. done (is_frozen h.nodes number) not_writable (put_own number name held) h (refuses_used Unit h here) (put_used number name held h here)))

  delete_named_used : (number : ℕ) (name : List ℕ) (heap : Heap) → heap.keys ≡ keys → HasUsed keys (delete_named number name heap)
  delete_named_used number name heap used =
      done (is_special (kind_of heap.nodes number) name || is_length heap.nodes number name) (stop NotInProfile) _ heap used
      (done (is_size number name || (is_some (own_value heap.nodes number name) && is_frozen heap.nodes number)) not_writable (λ h. Gave true (with_nodes h (without_own h.nodes number name))) heap (refuses_used Bool heap used) used)

-- the key of a name is used, and then what follows uses none
named_used : {B : Type 0} (key : Value) (heap : Heap) (next : List ℕ → Action B) → ((name : List ℕ) (h : Heap) → h.keys ≡ heap.keys ++ text_used (text_of key) → HasUsed (heap.keys ++ text_used (text_of key)) (next name h))
    → HasUsed (heap.keys ++ text_used (text_of key)) (followed (named_key key heap) next)
named_used {B} key heap next rest = by (text_of key) rest
  where
    judged : (name : List ℕ) (b : Bool) (h : Heap) → h.keys ≡ heap.keys ++ name ∷ [] → HasUsed (heap.keys ++ name ∷ []) (next name h)
        → HasUsed (heap.keys ++ name ∷ []) (followed {B = B} ((if b then stop NotInProfile else give name) h) next)
    judged name true h used more = used
    judged name false h used more = more

    by : (r : Result (List ℕ) Stop) → ((name : List ℕ) (h : Heap) → h.keys ≡ heap.keys ++ text_used r → HasUsed (heap.keys ++ text_used r) (next name h))
        → HasUsed (heap.keys ++ text_used r) (followed {B = B} (followed (or_stop r heap) (λ name h.
        (if text_eq name (codes "__proto__") then stop NotInProfile else give name) (record { nodes = h.nodes; private_nodes = h.private_nodes; keys = h.keys ++ name ∷ [] }))) next)
    by (Ok name) rest =
        let used : Heap = record { nodes = heap.nodes; private_nodes = heap.private_nodes; keys = heap.keys ++ name ∷ [] } in
        judged name (text_eq name (codes "__proto__")) used refl (rest name used refl)
    by (Err why) rest = sym (append-nil heap.keys)

-- an access that uses no key
none_used : {A : Type 0} (heap : Heap) (answer : HeapAnswer A) → HasUsed heap.keys answer → HasUsed (heap.keys ++ []) answer
none_used heap answer used = subst (λ ks. HasUsed ks answer) (sym (append-nil heap.keys)) used

pub get_uses : (base key : Value) (heap : Heap) → HasUsed (heap.keys ++ used_by heap.nodes base key) (get base key heap)
get_uses Undefined key heap = none_used heap (get Undefined key heap) (throws_used heap.keys Value (codes "no properties") heap refl)
get_uses Null key heap = none_used heap (get Null key heap) (throws_used heap.keys Value (codes "no properties") heap refl)
get_uses (Truth b) key heap = named_used key heap (λ name. stop NotInProfile) (λ name h used. used)
get_uses (Int z) key heap = named_used key heap (λ name. stop NotInProfile) (λ name h used. used)
get_uses (Text text) key heap = by (index_of key)
  where
    by : (place : Option ℕ) → HasUsed (heap.keys ++ used_unless place (text_used (text_of key))) (get_of_text text key place heap)
    by (Some place) = sym (append-nil heap.keys)
    by None = named_used key heap _ (λ name h used.
        done (heap.keys ++ text_used (text_of key)) (text_eq name (codes "length")) (count_value (length text)) (read_along (Text text) name (reached_from h.nodes 3)) h (count_used (heap.keys ++ text_used (text_of key)) (length text) h used)
        (along_used (heap.keys ++ text_used (text_of key)) (Text text) name (reached_from h.nodes 3) h used))
get_uses (At number) key heap = by (element_of heap.nodes number key)
  where
    by : (place : Option ℕ) → HasUsed (heap.keys ++ used_unless place (text_used (text_of key))) (get_of_node number key place heap)
    by (Some place) = sym (append-nil heap.keys)
    by None = named_used key heap _ (λ name h used.
        done (heap.keys ++ text_used (text_of key)) (is_length h.nodes number name) (count_value (length (elements_of h.nodes number))) (read_along (At number) name (reached_from h.nodes number)) h (count_used (heap.keys ++ text_used (text_of key)) (length (elements_of h.nodes number)) h used)
        (along_used (heap.keys ++ text_used (text_of key)) (At number) name (reached_from h.nodes number) h used))
get_uses Empty key heap = sym (append-nil heap.keys)

refused_uses : (key : Value) (heap : Heap) → HasUsed (heap.keys ++ text_used (text_of key)) (followed (named_key key heap) (λ name. not_writable {A = Unit}))
refused_uses key heap = named_used key heap (λ name. not_writable) (λ name h used. refuses_used (heap.keys ++ text_used (text_of key)) Unit h used)

pub set_uses : (base key held : Value) (heap : Heap) → HasUsed (heap.keys ++ used_by heap.nodes base key) (set base key held heap)
set_uses Undefined key held heap = none_used heap (set Undefined key held heap) (throws_used heap.keys Unit (codes "no properties") heap refl)
set_uses Null key held heap = none_used heap (set Null key held heap) (throws_used heap.keys Unit (codes "no properties") heap refl)
set_uses (Truth b) key held heap = refused_uses key heap
set_uses (Int z) key held heap = refused_uses key heap
set_uses (Text text) key held heap = by (index_of key)
  where
    by : (place : Option ℕ) → HasUsed (heap.keys ++ used_unless place (text_used (text_of key))) (set_of_text key place heap)
    by (Some place) = none_used heap (set_of_text key (Some place) heap) (refuses_used heap.keys Unit heap refl)
    by None = refused_uses key heap
set_uses (At number) key held heap = by (element_of heap.nodes number key)
  where
    by : (place : Option ℕ) → HasUsed (heap.keys ++ used_unless place (text_used (text_of key))) (set_of_node number key held place heap)
    by (Some place) = none_used heap (set_of_node number key held (Some place) heap) (element_used heap.keys number place held heap refl)
    by None = named_used key heap (λ name. set_named number name held) (λ name h used. set_named_used (heap.keys ++ text_used (text_of key)) number name held h used)
set_uses Empty key held heap = sym (append-nil heap.keys)

pub delete_uses : (base key : Value) (heap : Heap) → HasUsed (heap.keys ++ used_by heap.nodes base key) (delete base key heap)
delete_uses Undefined key heap = none_used heap (delete Undefined key heap) (throws_used heap.keys Bool (codes "no properties") heap refl)
delete_uses Null key heap = none_used heap (delete Null key heap) (throws_used heap.keys Bool (codes "no properties") heap refl)
delete_uses (Truth b) key heap = named_used key heap (λ name. stop NotInProfile) (λ name h used. used)
delete_uses (Int z) key heap = named_used key heap (λ name. stop NotInProfile) (λ name h used. used)
delete_uses (Text text) key heap = by (index_of key)
  where
    by : (place : Option ℕ) → HasUsed (heap.keys ++ used_unless place (text_used (text_of key))) (delete_of_text key place heap)
    by (Some place) = sym (append-nil heap.keys)
    by None = named_used key heap (λ name. stop NotInProfile) (λ name h used. used)
delete_uses (At number) key heap = by (element_of heap.nodes number key)
  where
    by : (place : Option ℕ) → HasUsed (heap.keys ++ used_unless place (text_used (text_of key))) (delete_of_node number key place heap)
    by (Some place) = sym (append-nil heap.keys)
    by None = named_used key heap (λ name. delete_named number name) (λ name h used. delete_named_used (heap.keys ++ text_used (text_of key)) number name h used)
delete_uses Empty key heap = sym (append-nil heap.keys)

-- a name of a global object is looked for with one use of its key, and written with none
pub find_global_uses : (global : ℕ) (text : List ℕ) (heap : Heap) → HasUsed (heap.keys ++ text ∷ []) (find_global global text heap)
find_global_uses global text heap = named_used (Text text) heap _ (λ name h used. look_up_used (heap.keys ++ text ∷ []) (At global) name (reached_from h.nodes global) h used)

pub set_global_uses : (global : ℕ) (name : List ℕ) (held : Value) (heap : Heap) → HasUsed heap.keys (set_global global name held heap)
set_global_uses global name held heap =
    then_used heap.keys (look_up (At global) name (reached_from heap.nodes global) heap) _ (look_up_used heap.keys (At global) name (reached_from heap.nodes global) heap refl)
    (λ found h used. done heap.keys (is_some found) (set_named global name held) not_defined h (set_named_used heap.keys global name held h used) (throws_of_used heap.keys Unit 8 (codes "not defined") h used))

own_nothing_uses : (key : Value) (heap : Heap) → HasUsed (heap.keys ++ text_used (text_of key)) (followed {B = Bool} (named_key key heap) (λ name. no_properties))
own_nothing_uses key heap = named_used key heap (λ name. no_properties) (λ name h used. throws_used (heap.keys ++ text_used (text_of key)) Bool (codes "no properties") h used)

own_named_used : (keys : List (List ℕ)) (number : ℕ) (name : List ℕ) (heap : Heap) → heap.keys ≡ keys → HasUsed keys (has_own_named number name heap)
own_named_used keys number name heap used = done keys (is_special (kind_of heap.nodes number) name) (stop NotInProfile) _ heap used used

pub has_own_uses : (base key : Value) (heap : Heap) → HasUsed (heap.keys ++ used_by_test heap.nodes base key) (has_own base key heap)
has_own_uses Undefined key heap = own_nothing_uses key heap
has_own_uses Null key heap = own_nothing_uses key heap
has_own_uses (Truth b) key heap = named_used key heap (λ name. stop NotInProfile) (λ name h used. used)
has_own_uses (Int z) key heap = named_used key heap (λ name. stop NotInProfile) (λ name h used. used)
has_own_uses (Text text) key heap = by (index_of key)
  where
    by : (place : Option ℕ) → HasUsed (heap.keys ++ used_unless place (text_used (text_of key))) (has_own_of_text text key place heap)
    by (Some place) = sym (append-nil heap.keys)
    by None = named_used key heap _ (λ name h used. used)
has_own_uses (At number) key heap = by (element_of heap.nodes number key)
  where
    by : (place : Option ℕ) → HasUsed (heap.keys ++ used_unless place (text_used (text_of key))) (has_own_of_node number key place heap)
    by (Some place) = sym (append-nil heap.keys)
    by None = named_used key heap (λ name. has_own_named number name) (λ name h used. own_named_used (heap.keys ++ text_used (text_of key)) number name h used)
has_own_uses Empty key heap = sym (append-nil heap.keys)

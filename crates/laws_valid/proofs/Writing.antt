-- Writing and deleting keep nodes fit for scripts.
use Rattle.std.proofs.Common.{◌≡◌, ℕ, ◌==◌, ◌&&◌, ◌||◌, Bool, true, false, not, nat_lt, nat_le, List, [], ◌∷◌, ◌++◌, codes, length, Option, None, Some, is_some, refl, ap, if◌then◌else◌}
use Rattle.std.specs.List.{slice_set}
use Rattle.std.specs.Str.{bytes_eq as text_eq}
use Rattle.std.proofs.lemmas.List.Elements.{All-filter, All-push, All-set}
use Rattle.snap_ast.specs.declared.tree.Tree.{Tree}
use Rattle.snap_base.specs.declared.limits.TheConstants.{MOST_ITEMS}
use Rattle.snap_base.specs.declared.stop.Stop.TheVariants.{NotInProfile, TooLong}
use Rattle.snap_graph.specs.declared.intrinsic.TheConstants.{TYPE_ERROR_PROTOTYPE}
use Rattle.snap_graph.specs.declared.node.Node.{Node}
use Rattle.snap_graph.specs.declared.value.Property.{Property}
use Rattle.snap_graph.specs.declared.value.Value.{Value}
use Rattle.snap_graph.specs.declared.value.Value.TheVariants.{Undefined, Null, Bool as Truth, Int, Text, Node as At, Empty}
use Rattle.spec_values.specs.Access.{delete, delete_named, delete_of_node, delete_of_text, element_of, index_of, is_array, is_length, is_size, is_special, may_write, named_key, not_writable, reached_from, set, set_element_of, set_named, set_of_node, set_of_text}
use Rattle.spec_values.specs.Answer.{Gave, Heap, Stopped, followed, give, stop}
use Rattle.spec_values.specs.Operations.{changed, elements_of, is_frozen, kind_of, own_value, push_element, put_own, remove_under, with_element, with_elements, with_more, with_nodes, without_own}
use Rattle.spec_values.proofs.Arrays.{an_array_as, array_node}
use Rattle.laws_valid.proofs.Ending.{Ends, HasPut, either, ends_then, put_ends, throws, weaker}
use Rattle.laws_valid.proofs.Keeping.{IsNoScope}
use Rattle.laws_valid.proofs.Reading.{Given, Kept, named_ends, outside}
use Rattle.laws_valid.proofs.Sound.{NoScopes, Sound, elements_sound, properties_sound}

module _ (scripts : List Tree) where
  -- an array with other elements
  array_sound : (change : List Value → List Value) (nodes : List Node) (number : ℕ) → is_array (kind_of nodes number) ≡ true
      → ((after : List Node) → ((value : Value) → IsNoScope nodes value → IsNoScope after value) → (elements : List Value) → NoScopes after elements → NoScopes after (change elements))
      → Sound scripts nodes → Sound scripts (changed (with_elements change) nodes number)
  array_sound change nodes number an_array none sound =
      let is = array_node nodes number an_array in
      elements_sound scripts change nodes number
      (λ node script tree read own. let same : is.0 ≡ node = cc in let kinds = ap (λ (n : Node). n.kind) same in absurd cc)
      (λ node scope read own. let same : is.0 ≡ node = cc in let kinds = ap (λ (n : Node). n.kind) same in absurd cc)
      none sound

  refuses : {A : Type 0} (Q : List Node → A → Type 0) (heap : Heap) → Sound scripts heap.nodes → Ends scripts Q (not_writable heap)
  refuses Q heap sound = throws scripts Q TYPE_ERROR_PROTOTYPE (codes "not writable") heap sound

  -- an element is written, or added behind the others
  push_ends : (number : ℕ) (held : Value) (heap : Heap) → Sound scripts heap.nodes → IsNoScope heap.nodes held → is_array (kind_of heap.nodes number) ≡ true → Ends scripts (Kept (Sound scripts)) (push_element number held heap)
  push_ends number held heap sound is an_array = by (nat_le MOST_ITEMS (length (elements_of heap.nodes number)))
    where
      by : (b : Bool) → Ends scripts (Kept {A = Unit {0}} (Sound scripts)) (if b then Stopped TooLong heap else Gave tt (with_nodes heap (with_more heap.nodes number held)))
      by true = sound
      by false = array_sound (λ elements. elements ++ held ∷ []) heap.nodes number an_array (λ after unscoped elements h. All-push (IsNoScope after) elements held h (unscoped held is)) sound

  element_ends : (number place : ℕ) (held : Value) (heap : Heap) → Sound scripts heap.nodes → IsNoScope heap.nodes held → is_array (kind_of heap.nodes number) ≡ true → Ends scripts (Kept (Sound scripts)) (set_element_of number place held heap)
  element_ends number place held heap sound is an_array =
      either scripts (Kept (Sound scripts)) (is_frozen heap.nodes number) not_writable _ heap (refuses (Kept (Sound scripts)) heap sound)
      (either scripts (Kept (Sound scripts)) (nat_lt place (length (elements_of heap.nodes number))) (λ h. Gave tt (with_nodes h (with_element h.nodes number place held))) _ heap
      (array_sound (λ elements. slice_set elements place held) heap.nodes number an_array (λ after unscoped elements h. All-set (IsNoScope after) elements place held (unscoped held is) h) sound)
      (either scripts (Kept (Sound scripts)) (place == length (elements_of heap.nodes number)) (push_element number held) (stop NotInProfile) heap (push_ends number held heap sound is an_array) sound))

  -- a write looks along nodes, and what held of them holds
  may_write_ends : (P : List Node → Type 0) (name numbers : List ℕ) (heap : Heap) → Sound scripts heap.nodes → P heap.nodes → Ends scripts (Kept P) (may_write name numbers heap)
  may_write_ends P name [] heap sound h = h
  may_write_ends P name (number ∷ rest) heap sound h =
      let more = may_write_ends P name rest heap sound h in
      either scripts (Kept P) (is_special (kind_of heap.nodes number) name) (stop NotInProfile) _ heap sound
      (either scripts (Kept P) (is_size number name) not_writable _ heap (refuses (Kept P) heap sound)
      (either scripts (Kept P) (is_some (own_value heap.nodes number name)) _ (may_write name rest) heap (either scripts (Kept P) (is_frozen heap.nodes number) not_writable (give tt) heap (refuses (Kept P) heap sound) h) more))

  -- a property is written or created
  pub set_named_ends : (number : ℕ) (name : List ℕ) (held : Value) (heap : Heap) → Sound scripts heap.nodes → IsNoScope heap.nodes held → Ends scripts (Kept (Sound scripts)) (set_named number name held heap)
  set_named_ends number name held heap sound is =
      either scripts (Kept (Sound scripts)) (is_length heap.nodes number name) _ _ heap
      (either scripts (Kept (Sound scripts)) (is_frozen heap.nodes number) not_writable (stop NotInProfile) heap (refuses (Kept (Sound scripts)) heap sound) sound)
      (ends_then scripts (λ nodes (done : Unit {0}). Given (Sound scripts) nodes held) (Kept (Sound scripts)) (may_write name (reached_from heap.nodes number) heap) _
      (may_write_ends (λ nodes. Given (Sound scripts) nodes held) name (reached_from heap.nodes number) heap sound (sound, is))
      (λ done h here.
      either scripts (Kept (Sound scripts)) (is_frozen h.nodes number) not_writable (put_own number name held) h (refuses (Kept (Sound scripts)) h here.0)
      (weaker scripts (HasPut scripts h.nodes number name held) (Kept (Sound scripts)) (λ nodes put e. e.1) (put_own number name held h) (put_ends scripts number name held h here.1 here.0))))

  refused : (key : Value) (heap : Heap) → Sound scripts heap.nodes → Ends scripts (Kept (Sound scripts)) (followed (named_key key heap) (λ name. not_writable {A = Unit}))
  refused key heap sound =
      ends_then scripts (Kept (Sound scripts)) (Kept (Sound scripts)) (named_key key heap) (λ name. not_writable) (named_ends scripts (Sound scripts) key heap sound sound) (λ name h here. refuses (Kept (Sound scripts)) h here)

  text_set_ends : (key : Value) (place : Option ℕ) (heap : Heap) → Sound scripts heap.nodes → Ends scripts (Kept (Sound scripts)) (set_of_text key place heap)
  text_set_ends key (Some place) heap sound = refuses (Kept (Sound scripts)) heap sound
  text_set_ends key None heap sound = refused key heap sound

  node_set_ends : (number : ℕ) (key held : Value) (place : Option ℕ) (heap : Heap) → Sound scripts heap.nodes → IsNoScope heap.nodes held → element_of heap.nodes number key ≡ place → Ends scripts (Kept (Sound scripts)) (set_of_node number key held place heap)
  node_set_ends number key held (Some place) heap sound is e = element_ends number place held heap sound is (an_array_as (is_array (kind_of heap.nodes number)) (index_of key) place e)
  node_set_ends number key held None heap sound is e =
      ends_then scripts (λ nodes (name : List ℕ). Given (Sound scripts) nodes held) (Kept (Sound scripts)) (named_key key heap) (λ name. set_named number name held)
      (named_ends scripts (λ nodes. Given (Sound scripts) nodes held) key heap sound (sound, is)) (λ name h here. set_named_ends number name held h here.0 here.1)

  pub set_ends : (base key held : Value) (heap : Heap) → Sound scripts heap.nodes → IsNoScope heap.nodes held → Ends scripts (Kept (Sound scripts)) (set base key held heap)
  set_ends Undefined key held heap sound is = throws scripts (Kept (Sound scripts)) TYPE_ERROR_PROTOTYPE (codes "no properties") heap sound
  set_ends Null key held heap sound is = throws scripts (Kept (Sound scripts)) TYPE_ERROR_PROTOTYPE (codes "no properties") heap sound
  set_ends (Truth b) key held heap sound is = refused key heap sound
  set_ends (Int z) key held heap sound is = refused key heap sound
  set_ends (Text text) key held heap sound is = text_set_ends key (index_of key) heap sound
  set_ends (At number) key held heap sound is = node_set_ends number key held (element_of heap.nodes number key) heap sound is refl
  set_ends Empty key held heap sound is = sound

  -- a property is removed
  delete_named_ends : (number : ℕ) (name : List ℕ) (heap : Heap) → Sound scripts heap.nodes → Ends scripts (Kept (Sound scripts)) (delete_named number name heap)
  delete_named_ends number name heap sound =
      either scripts (Kept (Sound scripts)) (is_special (kind_of heap.nodes number) name || is_length heap.nodes number name) (stop NotInProfile) _ heap sound
      (either scripts (Kept (Sound scripts)) (is_size number name || (is_some (own_value heap.nodes number name) && is_frozen heap.nodes number)) not_writable (λ h. Gave true (with_nodes h (without_own h.nodes number name))) heap (refuses (Kept (Sound scripts)) heap sound)
      (properties_sound scripts (remove_under name) heap.nodes number (λ after unscoped properties h. All-filter (λ (p : Property). not (text_eq p.key name)) (λ (p : Property). IsNoScope after p.value) properties h) sound))

  node_delete_ends : (number : ℕ) (key : Value) (place : Option ℕ) (heap : Heap) → Sound scripts heap.nodes → Ends scripts (Kept (Sound scripts)) (delete_of_node number key place heap)
  node_delete_ends number key (Some place) heap sound = sound
  node_delete_ends number key None heap sound =
      ends_then scripts (Kept (Sound scripts)) (Kept (Sound scripts)) (named_key key heap) (λ name. delete_named number name) (named_ends scripts (Sound scripts) key heap sound sound) (λ name h here. delete_named_ends number name h here)

  text_delete_ends : (key : Value) (place : Option ℕ) (heap : Heap) → Sound scripts heap.nodes → Ends scripts (Kept (Sound scripts)) (delete_of_text key place heap)
  text_delete_ends key (Some place) heap sound = sound
  text_delete_ends key None heap sound = outside scripts (Kept (Sound scripts)) key heap sound

  pub delete_ends : (base key : Value) (heap : Heap) → Sound scripts heap.nodes → Ends scripts (Kept (Sound scripts)) (delete base key heap)
  delete_ends Undefined key heap sound = throws scripts (Kept (Sound scripts)) TYPE_ERROR_PROTOTYPE (codes "no properties") heap sound
  delete_ends Null key heap sound = throws scripts (Kept (Sound scripts)) TYPE_ERROR_PROTOTYPE (codes "no properties") heap sound
  delete_ends (Truth b) key heap sound = outside scripts (Kept (Sound scripts)) key heap sound
  delete_ends (Int z) key heap sound = outside scripts (Kept (Sound scripts)) key heap sound
  delete_ends (Text text) key heap sound = text_delete_ends key (index_of key) heap sound
  delete_ends (At number) key heap sound = node_delete_ends number key (element_of heap.nodes number key) heap sound
  delete_ends Empty key heap sound = sound

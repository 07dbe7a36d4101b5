-- Writing a property, part by part.
use Rattle.std.proofs.Common.{◌≡◌, ℕ, ◌==◌, Bool, true, false, nat_lt, List, [], ◌∷◌, length, Option, None, Some, is_some, Result, refl, sym, ap, ◌∙◌, if◌then◌else◌}
use Rattle.std.specs.Bool.{OnFalse}
use Rattle.std.proofs.lemmas.Bool.{false≢true}
use Rattle.snap_base.specs.declared.stop.Stop.TheVariants.{NotInProfile}
use Rattle.snap_graph.specs.declared.kind.Kind.{Kind}
use Rattle.snap_graph.specs.declared.kind.Kind.TheVariants as kind
use Rattle.snap_graph.specs.declared.node.Node.{Node}
use Rattle.snap_graph.specs.declared.value.Value.{Value}
use Rattle.spec_values.specs.Access.{element_of, index_of, is_array, is_length, is_size, is_special, may_write, not_writable, reached_from, set_element_of, set_named}
use Rattle.spec_values.specs.Answer.{Action, ◌>>=◌, Heap, give, stop}
use Rattle.spec_values.specs.Operations.{elements_of, is_frozen, kind_of, own_value, push_element, put_own, set_element}
use Rattle.snap_action.specs.declared.fault.Abrupt.{Abrupt}
use Rattle.snap_object.specs.declared.search.Found.{Found}
use Rattle.snap_object.specs.declared.search.Found.TheVariants.{Special, Size}
use Rattle.snap_store.specs.declared.store.Store.{Ghosts}
use Rattle.snap_action.specs.Gives.{Gives, Shows, standing}
use Rattle.snap_object.specs.Parts.{length_kept, may_write_from, put_unless_frozen, write_where}
use Rattle.snap_object.specs.Search.{found_along, own_or}
use Rattle.snap_action.proofs.Follows.{alike}

-- a key of an array that is no element is no index
pub no_element : (nodes : List Node) (number : ℕ) (key : Value) → element_of nodes number key ≡ None → kind_of nodes number ≡ Some kind.Array → index_of key ≡ None
no_element nodes number key e k = sym (ap (λ (found : Option Kind). if is_array found then index_of key else None) k) ∙ e

module _ {S H R : Type 0} {store : Ghosts S H} {first last : S} {shows : Shows R (Unit {0})} {result : Result R (Abrupt H)} where
  -- an element that is written, by the three tests
  pub element_by : (number place : ℕ) (value : Value) (frozen there next : Bool) → is_frozen (store.view first).nodes number ≡ frozen → nat_lt place (length (elements_of (store.view first).nodes number)) ≡ there → (place == length (elements_of (store.view first).nodes number)) ≡ next
      → Gives store first last shows result (if frozen then not_writable else (if there then set_element number place value else (if next then push_element number value else stop NotInProfile)))
      → Gives store first last shows result (set_element_of number place value)
  element_by number place value frozen there next f t n h =
      alike (if frozen then not_writable else (if there then set_element number place value else (if next then push_element number value else stop NotInProfile))) (set_element_of number place value)
      (λ keys. sym (ap (λ (b : Bool). (if b then not_writable else (if nat_lt place (length (elements_of (store.view first).nodes number)) then set_element number place value else (if place == length (elements_of (store.view first).nodes number) then push_element number value else stop NotInProfile))) (standing (store.view first) keys)) f
      ∙ ap (λ (b : Bool). (if frozen then not_writable else (if b then set_element number place value else (if place == length (elements_of (store.view first).nodes number) then push_element number value else stop NotInProfile))) (standing (store.view first) keys)) t
      ∙ ap (λ (b : Bool). (if frozen then not_writable else (if there then set_element number place value else (if b then push_element number value else stop NotInProfile))) (standing (store.view first) keys)) n)) h

  -- a frozen array refuses it whatever the place
  pub element_frozen : (number place : ℕ) (value : Value) → is_frozen (store.view first).nodes number ≡ true → Gives store first last shows result not_writable → Gives store first last shows result (set_element_of number place value)
  element_frozen number place value f h = element_by number place value true _ _ f refl refl h

  pub element_there : (number place : ℕ) (value : Value) → is_frozen (store.view first).nodes number ≡ false → nat_lt place (length (elements_of (store.view first).nodes number)) ≡ true → Gives store first last shows result (set_element number place value) → Gives store first last shows result (set_element_of number place value)
  element_there number place value f t h = element_by number place value false true _ f t refl h

  -- a node that is frozen, or is not
  pub frozen_by : (number : ℕ) (frozen : Bool) (other : Action Unit) → is_frozen (store.view first).nodes number ≡ frozen → Gives store first last shows result (if frozen then not_writable else other)
      → Gives store first last shows result (λ heap. (if is_frozen heap.nodes number then not_writable else other) heap)
  frozen_by number frozen other f h =
      alike (if frozen then not_writable else other) (λ heap. (if is_frozen heap.nodes number then not_writable else other) heap) (λ keys. ap (λ (b : Bool). (if b then not_writable else other) (standing (store.view first) keys)) (sym f)) h

  -- the two ways of a name
  name_by : (number : ℕ) (name : List ℕ) (value : Value) (b : Bool) → is_length (store.view first).nodes number name ≡ b
      → Gives store first last shows result (if b then length_kept number else (may_write_from name number >>= λ _. put_unless_frozen number name value)) → Gives store first last shows result (set_named number name value)
  name_by number name value b e h =
      alike (if b then length_kept number else (may_write_from name number >>= λ _. put_unless_frozen number name value)) (set_named number name value)
      (λ keys. ap (λ (c : Bool). (if c then length_kept number else (may_write_from name number >>= λ _. put_unless_frozen number name value)) (standing (store.view first) keys)) (sym e) ∙ same keys (is_length (store.view first).nodes number name)) h
    where
      same : (keys : List (List ℕ)) (c : Bool) → (if c then length_kept number else (may_write_from name number >>= λ _. put_unless_frozen number name value)) (standing (store.view first) keys)
          ≡ (if c then (if is_frozen (store.view first).nodes number then not_writable else stop NotInProfile) else (may_write name (reached_from (store.view first).nodes number) >>= λ _. λ h. (if is_frozen h.nodes number then not_writable else put_own number name value) h)) (standing (store.view first) keys)
      same keys true = refl
      same keys false = refl

  pub name_length : (number : ℕ) (name : List ℕ) (value : Value) → is_length (store.view first).nodes number name ≡ true → Gives store first last shows result (length_kept number) → Gives store first last shows result (set_named number name value)
  name_length number name value e h = name_by number name value true e h

  pub name_other : (number : ℕ) (name : List ℕ) (value : Value) → is_length (store.view first).nodes number name ≡ false → Gives store first last shows result (may_write_from name number >>= λ _. put_unless_frozen number name value) → Gives store first last shows result (set_named number name value)
  name_other number name value e h = name_by number name value false e h

write_first : (heap : Heap) (number : ℕ) (special size : Bool) (own : Option Value) (further : Action Unit) (found : Found Value) → further heap ≡ write_where found heap
    → (if special then stop NotInProfile else (if size then not_writable else (if is_some own then (if is_frozen heap.nodes number then not_writable else give tt) else further))) heap
    ≡ write_where (if special then Special else (if size then Size number else own_or number own found)) heap
write_first heap number true size own further found e = refl
write_first heap number false true own further found e = refl
write_first heap number false false None further found e = e
write_first heap number false false (Some value) further found e = refl

writes : (name numbers : List ℕ) (heap : Heap) → may_write name numbers heap ≡ write_where (found_along heap.nodes name numbers) heap
writes name [] heap = refl
writes name (number ∷ rest) heap =
    write_first heap number (is_special (kind_of heap.nodes number) name) (is_size number name) (own_value heap.nodes number name) (may_write name rest) (found_along heap.nodes name rest) (writes name rest heap)

pub may : {S H R : Type 0} {store : Ghosts S H} {first last : S} {shows : Shows R (Unit {0})} {result : Result R (Abrupt H)} (name : List ℕ) (from : ℕ) (found : Found Value)
    → found ≡ found_along (store.view first).nodes name (reached_from (store.view first).nodes from) → Gives store first last shows result (write_where found) → Gives store first last shows result (may_write_from name from)
may {store = store} {first = first} name from found e h =
    alike (write_where found) (may_write_from name from) (λ keys. ap (λ (f : Found Value). write_where f (standing (store.view first) keys)) e ∙ sym (writes name (reached_from (store.view first).nodes from) (standing (store.view first) keys))) h

pub on_false : {P : Type 0} (b : Bool) → b ≡ false → OnFalse b P → P
on_false true e h = absurd (false≢true (sym e))
on_false false e h = h

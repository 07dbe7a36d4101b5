-- What single calls come to.
use Rattle.std.proofs.Common.{◌≡◌, ℕ, zero, suc, ◌<◌, ◌&&◌, Bool, true, false, nat_le, List, [], ◌∷◌, ◌++◌, codes, length, take, slice_get, Option, Some, Result, Ok, Err, refl, sym, ap, subst, ◌∙◌, if◌then◌else◌}
use Rattle.std.specs.Result.{IsErrAnd}
use Rattle.std.proofs.lemmas.Bool.{false≢true}
use Rattle.std.proofs.lemmas.List.{append-nil}
use Rattle.std.proofs.lemmas.Option.{slice_get_within}
use Rattle.snap_base.specs.declared.limits.TheConstants.{MOST_ITEMS}
use Rattle.snap_base.specs.declared.stop.Stop.{Stop}
use Rattle.snap_base.specs.declared.stop.Stop.TheVariants as stop
use Rattle.snap_graph.specs.declared.kind.Kind.{Kind}
use Rattle.snap_graph.specs.declared.kind.Kind.TheVariants as kind
use Rattle.snap_graph.specs.declared.node.Node.{Node}
use Rattle.snap_graph.specs.declared.value.Value.{Value}
use Rattle.snap_graph.specs.declared.value.Value.TheVariants.{Node as At}
use Rattle.snap_graph.specs.Intrinsics.{constructors, error_prototype, frozen_node, error_properties, host_objects, intrinsics, prototypes}
use Rattle.snap_graph.specs.Lawful.{IsLawful, IsPrototype, is_scope}
use Rattle.snap_store.specs.Calls.{EndsWhere, MakesWhere, has_room, is_full, is_long}
use Rattle.snap_store.specs.declared.fault.StoreFault.{StoreFault}
use Rattle.snap_store.specs.declared.fault.StoreFault.TheVariants.{TooManyNodes, TooLong, NoMemory}
use Rattle.snap_store.specs.declared.store.Store.{Ghosts}
use Rattle.snap_store.specs.View.{View, with_logged, with_made, with_nodes}
use Rattle.spec_values.specs.Access.{is_array}
use Rattle.spec_values.specs.Answer.{Action, Gave, Stopped as StoppedAt, use_key}
use Rattle.spec_values.specs.Operations.{add_element, elements_of, kind_of, make, push_element, put_own, with_elements, with_more, with_own}
use Rattle.snap_action.specs.declared.errors.ErrorKind.{ErrorKind}
use Rattle.snap_action.specs.declared.errors.ErrorKind.TheVariants as errors
use Rattle.snap_action.specs.declared.fault.Abrupt.{Abrupt}
use Rattle.snap_action.specs.declared.fault.Abrupt.TheVariants as abrupt
use Rattle.snap_action.specs.Errors as given
use Rattle.snap_action.specs.Gives.{Gives, Shows, abrupt_of, as_is, as_node, standing}
use Rattle.snap_action.proofs.Follows.{Unmoved, stopped, unmet}
use Rattle.snap_action.proofs.Growing.{change_grows, make_grows, push_grows, put_grows}

-- one more element is too many where there are too many already
long_array : (nodes : List Node) (number : ℕ) (b : Bool) → kind_of nodes number ≡ Some kind.Array → is_long nodes number ≡ b → nat_le MOST_ITEMS (length (elements_of nodes number)) ≡ b
long_array nodes number b k e = sym (ap (λ (found : Option Kind). is_array found && nat_le MOST_ITEMS (length (elements_of nodes number))) k) ∙ e

module _ {S H : Type 0} {store : Ghosts S H} {first last : S} where
  -- a call that leaves what an action leaves
  pub left_as : {A R : Type 0} {shows : Shows R A} {x : R} (view : View) (action : Action A) → store.view last ≡ view → view.log ≡ (store.view first).log → store.later first last → shows.owned x
      → ((keys : List (List ℕ)) → action (standing (store.view first) keys) ≡ Gave (shows.view x) (standing view keys)) → Gives store first last shows (Ok x) action
  left_as {shows = shows} {x = x} view action e log later owned same = record {
    comes = λ keys. record {
      used = [];
      log = ap (λ (v : View). v.log) e ∙ log;
      ends = same keys ∙ ap (λ (v : View). Gave (shows.view x) (standing v keys)) (sym e) ∙ ap (λ ks. Gave (shows.view x) (standing (store.view last) ks)) (sym (append-nil keys));
    };
    owned = owned;
    later = later;
  }

  -- a call that uses the key of a text
  pub key_used : {R : Type 0} {shows : Shows R (Unit {0})} {x : R} (text : List ℕ) → store.view last ≡ with_logged (store.leaves_out first) (store.view first) text → store.later first last → shows.owned x
      → Gives store first last shows (Ok x) (use_key text)
  key_used {shows = shows} {x = x} text e later owned = record {
    comes = λ keys. record { used = text ∷ []; log = ap (λ (v : View). v.log) e; ends = ap (λ (v : View). Gave (shows.view x) (standing v (keys ++ text ∷ []))) (sym e) };
    owned = owned;
    later = later;
  }

  -- a call that was refused where the action stops
  pub refused : {A R : Type 0} {shows : Shows R A} (action : Action A) (why : Stop) → Unmoved store first last → ((keys : List (List ℕ)) → action (standing (store.view first) keys) ≡ StoppedAt why (standing (store.view first) keys))
      → (result : Result R (Abrupt H)) → IsErrAnd result (λ fault. fault ≡ abrupt.Stopped why) → Gives store first last shows result action
  refused action why h same (Ok x) e = absurd e
  refused {shows = shows} action why h same (Err fault) e =
      subst (λ f. Gives store first last shows (Err f) action) (sym e)
      (let one : Gives store first last shows (Err (abrupt.Stopped why)) (λ heap. StoppedAt why heap) = stopped h why in
      record { comes = λ keys. let k = one.comes keys in record { used = k.used; log = k.log; ends = same keys ∙ k.ends }; owned = tt; later = h.later })

  pub put_done : (number : ℕ) (key : List ℕ) (value : Value) → is_full (store.view first).nodes number key ≡ false → store.view last ≡ with_nodes (store.view first) (with_own (store.view first).nodes number key value) → store.later first last
      → Gives store first last as_is (Ok (tt {0})) (put_own number key value)
  put_done number key value room e later =
      left_as (with_nodes (store.view first) (with_own (store.view first).nodes number key value)) (put_own number key value) e refl later tt
      (λ keys. ap (λ (b : Bool). if b then StoppedAt stop.TooLong (standing (store.view first) keys) else Gave (tt {0}) (standing (with_nodes (store.view first) (with_own (store.view first).nodes number key value)) keys)) room)

  pub put_refused : (number : ℕ) (key : List ℕ) (value : Value) (why : StoreFault) → EndsWhere {A = Unit {0}} (is_full (store.view first).nodes number key) (Err why) → Unmoved store first last
      → (result : Result (Unit {0}) (Abrupt H)) → IsErrAnd result (λ fault. fault ≡ abrupt_of why) → Gives store first last as_is result (put_own number key value)
  put_refused number key value TooManyNodes e h result is = absurd e
  put_refused number key value TooLong full h result is =
      refused (put_own number key value) stop.TooLong h
      (λ keys. ap (λ (b : Bool). if b then StoppedAt stop.TooLong (standing (store.view first) keys) else Gave (tt {0}) (standing (with_nodes (store.view first) (with_own (store.view first).nodes number key value)) keys)) full) result is
  put_refused number key value NoMemory e h result is = unmet h (put_grows number key value) result is

  pub make_done : (of_kind : Kind) (prototype : Value) (number : ℕ) → has_room (store.view first).private_nodes ≡ true → number ≡ length (store.view first).nodes → store.view last ≡ with_made (store.view first) of_kind prototype
      → store.later first last → number < length (store.view last).nodes → Gives store first last (as_node store last) (Ok number) (make of_kind prototype)
  make_done of_kind prototype number room n e later below =
      left_as (with_made (store.view first) of_kind prototype) (make of_kind prototype) e refl later below
      (λ keys. ap (λ (b : Bool). if b then Gave (length (store.view first).nodes) (standing (with_made (store.view first) of_kind prototype) keys) else StoppedAt stop.TooManyNodes (standing (store.view first) keys)) room
      ∙ ap (λ (k : ℕ). Gave k (standing (with_made (store.view first) of_kind prototype) keys)) (sym n))

  pub make_refused : (of_kind : Kind) (prototype : Value) (why : StoreFault) → MakesWhere (has_room (store.view first).private_nodes) (Err why) → Unmoved store first last
      → (result : Result ℕ (Abrupt H)) → IsErrAnd result (λ fault. fault ≡ abrupt_of why) → Gives store first last (as_node store last) result (make of_kind prototype)
  make_refused of_kind prototype TooLong e h result is = absurd e
  make_refused of_kind prototype TooManyNodes full h result is =
      refused (make of_kind prototype) stop.TooManyNodes h
      (λ keys. ap (λ (b : Bool). if b then Gave (length (store.view first).nodes) (standing (with_made (store.view first) of_kind prototype) keys) else StoppedAt stop.TooManyNodes (standing (store.view first) keys)) full) result is
  make_refused of_kind prototype NoMemory e h result is = unmet h (make_grows of_kind prototype) result is

  pub push_done : (number : ℕ) (value : Value) → kind_of (store.view first).nodes number ≡ Some kind.Array → is_long (store.view first).nodes number ≡ false
      → store.view last ≡ with_nodes (store.view first) (with_more (store.view first).nodes number value) → store.later first last → Gives store first last as_is (Ok (tt {0})) (push_element number value)
  push_done number value k room e later =
      left_as (with_nodes (store.view first) (with_more (store.view first).nodes number value)) (push_element number value) e refl later tt
      (λ keys. ap (λ (b : Bool). if b then StoppedAt stop.TooLong (standing (store.view first) keys) else Gave (tt {0}) (standing (with_nodes (store.view first) (with_more (store.view first).nodes number value)) keys)) (long_array (store.view first).nodes number false k room))

  pub push_refused : (number : ℕ) (value : Value) (why : StoreFault) → kind_of (store.view first).nodes number ≡ Some kind.Array → EndsWhere {A = Unit {0}} (is_long (store.view first).nodes number) (Err why) → Unmoved store first last
      → (result : Result (Unit {0}) (Abrupt H)) → IsErrAnd result (λ fault. fault ≡ abrupt_of why) → Gives store first last as_is result (push_element number value)
  push_refused number value TooManyNodes k e h result is = absurd e
  push_refused number value TooLong k full h result is =
      refused (push_element number value) stop.TooLong h
      (λ keys. ap (λ (b : Bool). if b then StoppedAt stop.TooLong (standing (store.view first) keys) else Gave (tt {0}) (standing (with_nodes (store.view first) (with_more (store.view first).nodes number value)) keys)) (long_array (store.view first).nodes number true k full)) result is
  push_refused number value NoMemory k e h result is = unmet h (push_grows number value) result is

  pub add_refused : (number : ℕ) (value : Value) (why : StoreFault) → is_array (kind_of (store.view first).nodes number) ≡ false → EndsWhere {A = Unit {0}} (is_long (store.view first).nodes number) (Err why) → Unmoved store first last
      → (result : Result (Unit {0}) (Abrupt H)) → IsErrAnd result (λ fault. fault ≡ abrupt_of why) → Gives store first last as_is result (add_element number value)
  add_refused number value TooManyNodes k e h result is = absurd e
  add_refused number value TooLong k full h result is = absurd (false≢true (sym (ap (λ (b : Bool). b && nat_le MOST_ITEMS (length (elements_of (store.view first).nodes number))) k) ∙ full))
  add_refused number value NoMemory k e h result is = unmet h (change_grows (with_elements (λ elements. elements ++ value ∷ [])) number) result is

-- the prototypes of errors are there
read_back : (nodes : List Node) (count number : ℕ) (node : Node) → slice_get (take count nodes) number ≡ Some node → slice_get nodes number ≡ Some node
read_back nodes zero number node e = absurd cc
read_back [] (suc count) number node e = e
read_back (first ∷ rest) (suc count) zero node e = e
read_back (first ∷ rest) (suc count) (suc number) node e = read_back rest count number node e

its_prototype : (of : ErrorKind) → (node : Node) × (slice_get intrinsics (given.error_prototype of) ≡ Some node) × (is_scope node.kind ≡ false)
unfolding intrinsics prototypes constructors host_objects
its_prototype errors.Error = (frozen_node kind.Plain (At 0) (error_properties 15 (codes "Error")), refl, refl)
its_prototype errors.TypeError = (error_prototype 16 (codes "TypeError"), refl, refl)
its_prototype errors.ReferenceError = (error_prototype 17 (codes "ReferenceError"), refl, refl)
its_prototype errors.RangeError = (error_prototype 18 (codes "RangeError"), refl, refl)

pub error_may_be : (of : ErrorKind) (nodes : List Node) → IsLawful nodes → IsPrototype nodes kind.Error (At (given.error_prototype of))
error_may_be of nodes lawful =
    let its = its_prototype of in
    (its.0, read_back nodes 62 (given.error_prototype of) its.0 (ap (λ (ns : List Node). slice_get ns (given.error_prototype of)) lawful.intrinsics ∙ its.1), its.2)

pub error_is_there : (of : ErrorKind) (nodes : List Node) → IsLawful nodes → given.error_prototype of < length nodes
error_is_there of nodes lawful = let there = error_may_be of nodes lawful in slice_get_within nodes (given.error_prototype of) there.0 there.1

-- Actions on a heap go on from the heap in which they begin.
use Rattle.std.proofs.Common.{ℕ, ◌&&◌, Bool, true, false, not, nat_lt, nat_le, List, [], ◌∷◌, codes, length, is_some, refl, arith, if◌then◌else◌, Result, Ok, Err}
use Rattle.snap_base.specs.declared.limits.TheConstants.{MOST_ITEMS, MOST_PRIVATE_NODES, MOST_PROPERTIES}
use Rattle.snap_base.specs.declared.stop.Stop.{Stop}
use Rattle.snap_base.specs.declared.stop.Stop.TheVariants.{TooLong, TooManyNodes}
use Rattle.snap_graph.specs.declared.kind.Kind.{Kind}
use Rattle.snap_graph.specs.declared.kind.Kind.TheVariants as kind
use Rattle.snap_graph.specs.declared.node.Node.{Node}
use Rattle.snap_graph.specs.declared.value.Value.{Value}
use Rattle.snap_graph.specs.declared.value.Value.TheVariants.{Text, Node as At}
use Rattle.spec_values.specs.Access.{or_stop, throw_error}
use Rattle.spec_values.specs.Answer.{Action, Heap, HeapAnswer, Stopped, give, stop, throw_value, use_key}
use Rattle.spec_values.specs.Operations.{change_at, elements_of, make, own_value, properties_of, push_element, put_own, remove_own, see}
use Rattle.spec_values.specs.State.{Precedes, heap_progress, left_by}
use Rattle.snap_action.proofs.Follows.{Grows, begun_at_once, grows_then, precedes_itself}

-- an action on a heap goes on
abbrev pub Goes : {A : Type 0} → Action A → Type 0
Goes action = Grows heap_progress action

pub give_grows : {A : Type 0} (x : A) → Goes (give x)
give_grows x = record { on = λ heap. precedes_itself (heap_progress heap) }

pub stop_grows : {A : Type 0} (why : Stop) → Goes (stop {A = A} why)
stop_grows why = record { on = λ heap. precedes_itself (heap_progress heap) }

pub or_stop_grows : {A : Type 0} (result : Result A Stop) → Goes (or_stop result)
or_stop_grows (Ok x) = give_grows x
or_stop_grows (Err why) = stop_grows why

pub throw_grows : {A : Type 0} (value : Value) → Goes (throw_value {A = A} value)
throw_grows value = record { on = λ heap. precedes_itself (heap_progress heap) }

pub use_grows : (name : List ℕ) → Goes (use_key name)
use_grows name = record { on = λ heap. record { keys = (name ∷ [], refl); private_nodes = omega arith; printed = begun_at_once [] } }

pub see_grows : {A : Type 0} (look : List Node → A) → Goes (see look)
see_grows look = record { on = λ heap. precedes_itself (heap_progress heap) }

pub change_grows : (change : Node → Node) (number : ℕ) → Goes (change_at change number)
change_grows change number = record { on = λ heap. precedes_itself (heap_progress heap) }

pub remove_grows : (number : ℕ) (key : List ℕ) → Goes (remove_own number key)
remove_grows number key = record { on = λ heap. precedes_itself (heap_progress heap) }

-- one of two answers
either : {A : Type 0} (heap : Heap) (b : Bool) (one other : HeapAnswer A) → Precedes (heap_progress heap) (heap_progress (left_by one)) → Precedes (heap_progress heap) (heap_progress (left_by other)) → Precedes (heap_progress heap) (heap_progress (left_by (if b then one else other)))
either heap true one other f g = f
either heap false one other f g = g

pub make_grows : (of_kind : Kind) (prototype : Value) → Goes (make of_kind prototype)
make_grows of_kind prototype = record {
  on = λ heap.
      either heap (nat_lt heap.private_nodes MOST_PRIVATE_NODES) _ (Stopped TooManyNodes heap)
      (record { keys = begun_at_once heap.keys; private_nodes = omega arith; printed = begun_at_once [] }) (precedes_itself (heap_progress heap));
}

pub put_grows : (number : ℕ) (key : List ℕ) (value : Value) → Goes (put_own number key value)
put_grows number key value = record {
  on = λ heap.
      either heap (not (is_some (own_value heap.nodes number key)) && nat_le MOST_PROPERTIES (length (properties_of heap.nodes number))) (Stopped TooLong heap) _ (precedes_itself (heap_progress heap)) (precedes_itself (heap_progress heap));
}

pub push_grows : (number : ℕ) (value : Value) → Goes (push_element number value)
push_grows number value = record {
  on = λ heap.
      either heap (nat_le MOST_ITEMS (length (elements_of heap.nodes number))) (Stopped TooLong heap) _ (precedes_itself (heap_progress heap)) (precedes_itself (heap_progress heap));
}

-- one of two actions, and one that depends on the heap
pub chosen_grows : {A : Type 0} (b : Bool) (one other : Action A) → Goes one → Goes other → Goes (if b then one else other)
chosen_grows true one other f g = f
chosen_grows false one other f g = g

pub by_heap_grows : {A : Type 0} (action : Heap → Action A) → ((heap : Heap) → Goes (action heap)) → Goes (λ heap. action heap heap)
by_heap_grows action f = record { on = λ heap. (f heap).on heap }

pub error_grows : {A : Type 0} (prototype : ℕ) (message : List ℕ) → Goes (throw_error {A = A} prototype message)
error_grows prototype message =
    grows_then (make kind.Error (At prototype)) _ (make_grows kind.Error (At prototype)) (λ error.
    grows_then (use_key (codes "message")) _ (use_grows (codes "message")) (λ used.
    grows_then (put_own error (codes "message") (Text message)) _ (put_grows error (codes "message") (Text message)) (λ put. throw_grows (At error))))

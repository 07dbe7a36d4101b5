-- How actions end that keep nodes fit for scripts.
use Rattle.std.proofs.Common.{◌≡◌, ℕ, ◌+◌, ◌&&◌, Bool, true, false, not, nat_lt, nat_le, List, [], ◌∷◌, ◌++◌, codes, length, slice_get, is_some, refl, ap, ◌∙◌, if◌then◌else◌}
use Rattle.std.specs.Option.{option_map_or}
use Rattle.snap_ast.specs.declared.tree.Tree.{Tree}
use Rattle.snap_base.specs.declared.limits.TheConstants.{MOST_PRIVATE_NODES, MOST_PROPERTIES}
use Rattle.snap_base.specs.declared.stop.Stop.TheVariants.{TooLong, TooManyNodes}
use Rattle.snap_graph.specs.declared.kind.Kind.TheVariants.{Error}
use Rattle.snap_graph.specs.declared.node.Node.{Node}
use Rattle.snap_graph.specs.declared.value.Value.{Value}
use Rattle.snap_graph.specs.declared.value.Value.TheVariants.{Text, Node as At}
use Rattle.snap_graph.specs.Lawful.{is_scope}
use Rattle.spec_values.specs.Access.{throw_error}
use Rattle.spec_values.specs.Answer.{◌>>=◌, Action, HeapAnswer, Gave, Heap, Stopped, Threw, followed, throw_value, use_key}
use Rattle.spec_values.specs.Operations.{new_node, own_value, properties_of, put_own, put_under, with_nodes, with_own, with_properties}
use Rattle.spec_values.proofs.Ending.{read_last}
use Rattle.laws_valid.proofs.Keeping.{IsNoScope, changed_unscoped}
use Rattle.laws_valid.proofs.Sound.{Sound, error_sound, put_sound}

-- a result has P, and at every other end the nodes fit the scripts and no scope is thrown
abbrev pub Ends : {A : Type 0} → List Tree → (List Node → A → Type 0) → HeapAnswer A → Type 0
Ends scripts P (Gave result heap) = P heap.nodes result
Ends scripts P (Threw value heap) = Sound scripts heap.nodes × IsNoScope heap.nodes value
Ends scripts P (Stopped why heap) = Sound scripts heap.nodes

-- a heap with an error, and with its message used as a key
abbrev with_error : ℕ → Heap → Heap
with_error prototype heap = record { nodes = heap.nodes ++ new_node Error (At prototype) ∷ []; private_nodes = heap.private_nodes + 1; keys = heap.keys }

abbrev with_message : ℕ → Heap → Heap
with_message prototype heap = record { nodes = heap.nodes ++ new_node Error (At prototype) ∷ []; private_nodes = heap.private_nodes + 1; keys = heap.keys ++ codes "message" ∷ [] }

-- a property was put, and the nodes fit the scripts
abbrev pub HasPut : List Tree → List Node → ℕ → List ℕ → Value → List Node → Unit {0} → Type 0
HasPut scripts nodes number key held after done = (after ≡ with_own nodes number key held) × Sound scripts after

module _ (scripts : List Tree) where
  pub ends_then : {A B : Type 0} (P : List Node → A → Type 0) (Q : List Node → B → Type 0) (answer : HeapAnswer A) (next : A → Action B)
      → Ends scripts P answer → ((a : A) (h : Heap) → P h.nodes a → Ends scripts Q (next a h)) → Ends scripts Q (followed answer next)
  ends_then P Q (Gave a h) next e f = f a h e
  ends_then P Q (Threw v h) next e f = e
  ends_then P Q (Stopped why h) next e f = e

  pub either : {A : Type 0} (P : List Node → A → Type 0) (b : Bool) (x y : Action A) (h : Heap) → Ends scripts P (x h) → Ends scripts P (y h) → Ends scripts P ((if b then x else y) h)
  either P true x y h f g = f
  either P false x y h f g = g

  pub weaker : {A : Type 0} (P Q : List Node → A → Type 0) → ((nodes : List Node) (a : A) → P nodes a → Q nodes a) → (answer : HeapAnswer A) → Ends scripts P answer → Ends scripts Q answer
  weaker P Q f (Gave a h) e = f h.nodes a e
  weaker P Q f (Threw v h) e = e
  weaker P Q f (Stopped why h) e = e

  -- a property is put, if there are not too many
  pub put_ends : (number : ℕ) (key : List ℕ) (held : Value) (heap : Heap) → IsNoScope heap.nodes held → Sound scripts heap.nodes
      → Ends scripts (HasPut scripts heap.nodes number key held) (put_own number key held heap)
  put_ends number key held heap is sound = by (not (is_some (own_value heap.nodes number key)) && nat_le MOST_PROPERTIES (length (properties_of heap.nodes number)))
    where
      by : (b : Bool) → Ends scripts (HasPut scripts heap.nodes number key held) (if b then Stopped TooLong heap else Gave tt (with_nodes heap (with_own heap.nodes number key held)))
      by true = sound
      by false = (refl, put_sound scripts heap.nodes number key held is sound)

  -- an error is made, gets its message and is thrown
  pub throws : {A : Type 0} (Q : List Node → A → Type 0) (prototype : ℕ) (message : List ℕ) (heap : Heap) → Sound scripts heap.nodes → Ends scripts Q (throw_error prototype message heap)
  throws {A} Q prototype message heap sound = by (nat_lt heap.private_nodes MOST_PRIVATE_NODES)
    where
      put : Ends scripts Q (followed (put_own (length heap.nodes) (codes "message") (Text message) (with_message prototype heap)) (λ done. throw_value {A = A} (At (length heap.nodes))))
      put =
          let x = new_node Error (At prototype) in
          let mid = heap.nodes ++ x ∷ [] in
          let is : IsNoScope mid (At (length heap.nodes)) = ap (λ found. option_map_or (λ (node : Node). is_scope node.kind) found false) (read_last heap.nodes x) in
          ends_then (HasPut scripts mid (length heap.nodes) (codes "message") (Text message)) Q
          (put_own (length heap.nodes) (codes "message") (Text message) (with_message prototype heap)) (λ done. throw_value (At (length heap.nodes)))
          (put_ends (length heap.nodes) (codes "message") (Text message) (with_message prototype heap) refl (error_sound scripts heap.nodes (At prototype) sound))
          (λ done h e. (e.1, ap (λ nodes. option_map_or (λ (node : Node). is_scope node.kind) (slice_get nodes (length heap.nodes)) false) e.0 ∙ changed_unscoped (with_properties (put_under (codes "message") (Text message))) (λ node. refl) mid (length heap.nodes) (At (length heap.nodes)) is))

      by : (b : Bool) → Ends scripts Q (followed (if b then Gave (length heap.nodes) (with_error prototype heap) else Stopped TooManyNodes heap)
          (λ error. use_key (codes "message") >>= λ _. put_own error (codes "message") (Text message) >>= λ _. throw_value {A = A} (At error)))
      by true = put
      by false = sound

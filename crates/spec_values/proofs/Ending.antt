-- How actions on a heap end.
use Rattle.std.proofs.Common.{◌≡◌, ℕ, zero, suc, ◌+◌, ◌&&◌, Bool, true, false, not, nat_lt, nat_le, List, [], ◌∷◌, ◌++◌, codes, length, take, slice_get, Some, is_some, refl, sym, ap, subst, ◌∙◌, arith, if◌then◌else◌, length-append}
use Rattle.snap_base.specs.declared.limits.TheConstants.{MOST_PRIVATE_NODES, MOST_PROPERTIES}
use Rattle.snap_base.specs.declared.stop.Stop.{Stop}
use Rattle.snap_base.specs.declared.stop.Stop.TheVariants.{TooLong, TooManyNodes}
use Rattle.snap_graph.specs.declared.intrinsic.TheConstants.{REFERENCE_ERROR_PROTOTYPE, TYPE_ERROR_PROTOTYPE}
use Rattle.snap_graph.specs.declared.kind.Kind.{Kind}
use Rattle.snap_graph.specs.declared.kind.Kind.TheVariants as kind
use Rattle.snap_graph.specs.declared.node.Node.{Node}
use Rattle.snap_graph.specs.declared.value.Value.{Value}
use Rattle.snap_graph.specs.declared.value.Value.TheVariants.{Text, Node as At}
use Rattle.snap_graph.specs.Intrinsics.{constructors, error_prototype, host_objects, intrinsics, prototypes}
use Rattle.snap_graph.specs.Lawful.{IsLawful, IsPrototype, is_scope}
use Rattle.snap_graph.specs.Values.{IsValue}
use Rattle.spec_values.specs.Access.{throw_error, type_error}
use Rattle.spec_values.specs.Answer.{Action, HeapAnswer, Gave, Heap, Stopped, Threw, followed, throw_value}
use Rattle.spec_values.specs.Leaving.{LeavesHeap}
use Rattle.spec_values.specs.Operations.{make, new_node, own_value, properties_of, put_own, put_under, with_nodes, with_own, with_properties}
use Rattle.spec_values.proofs.Changes.{length-changed}
use Rattle.spec_values.proofs.Elements.{with_own_lawful}
use Rattle.spec_values.proofs.Made.{made_lawful}

-- a result has P, and every other end leaves a heap
unfoldable pub Ends : {A : Type 0} → (A → Heap → Type 0) → HeapAnswer A → Type 0
Ends P (Gave a h) = P a h
Ends P (Threw v h) = IsLawful h.nodes × IsValue (length h.nodes) v
Ends P (Stopped why h) = IsLawful h.nodes

pub leaves : {A : Type 0} (P : A → Heap → Type 0) → ((a : A) (h : Heap) → P a h → IsLawful h.nodes) → (answer : HeapAnswer A) → Ends P answer → LeavesHeap answer
unfolding Ends
leaves P lawful (Gave a h) e = lawful a h e
leaves P lawful (Threw v h) e = e
leaves P lawful (Stopped why h) e = e

pub ends_then : {A B : Type 0} (P : A → Heap → Type 0) (Q : B → Heap → Type 0) (answer : HeapAnswer A) (next : A → Action B) → Ends P answer → ((a : A) (h : Heap) → P a h → Ends Q (next a h)) → Ends Q (followed answer next)
unfolding Ends
ends_then P Q (Gave a h) next e f = f a h e
ends_then P Q (Threw v h) next e f = e
ends_then P Q (Stopped why h) next e f = e

pub given : {A : Type 0} (P : A → Heap → Type 0) (a : A) (h : Heap) → P a h → Ends P (Gave a h)
unfolding Ends
given P a h p = p

pub halted : {A : Type 0} (P : A → Heap → Type 0) (why : Stop) (h : Heap) → IsLawful h.nodes → Ends P (Stopped why h)
unfolding Ends
halted P why h lawful = lawful

pub either : {A : Type 0} (P : A → Heap → Type 0) (b : Bool) (x y : Action A) (h : Heap) → (b ≡ true → Ends P (x h)) → (b ≡ false → Ends P (y h)) → Ends P ((if b then x else y) h)
either P true x y h f g = f refl
either P false x y h f g = g refl

pub thrown : {A : Type 0} (P : A → Heap → Type 0) (v : Value) (h : Heap) → IsLawful h.nodes → IsValue (length h.nodes) v → Ends P (Threw v h)
unfolding Ends
thrown P v h lawful within = (lawful, within)

-- an answer that is chosen
pub one_of : {A : Type 0} (P : A → Heap → Type 0) (b : Bool) (x y : HeapAnswer A) → (b ≡ true → Ends P x) → (b ≡ false → Ends P y) → Ends P (if b then x else y)
one_of P true x y f g = f refl
one_of P false x y f g = g refl

-- an intrinsic is read by its number
read_back : (nodes : List Node) (count number : ℕ) (node : Node) → slice_get (take count nodes) number ≡ Some node → slice_get nodes number ≡ Some node
read_back nodes zero number node e = absurd cc
read_back [] (suc count) number node e = e
read_back (first ∷ rest) (suc count) zero node e = e
read_back (first ∷ rest) (suc count) (suc number) node e = read_back rest count number node e

-- an intrinsic that errors may have as their prototype
pub IsErrorPrototype : ℕ → Type 0
IsErrorPrototype number = (node : Node) × (slice_get intrinsics number ≡ Some node) × (is_scope node.kind ≡ false)

pub type_error_prototype : IsErrorPrototype TYPE_ERROR_PROTOTYPE
unfolding IsErrorPrototype intrinsics prototypes constructors host_objects
type_error_prototype = (error_prototype 16 (codes "TypeError"), refl, refl)

pub reference_error_prototype : IsErrorPrototype REFERENCE_ERROR_PROTOTYPE
unfolding IsErrorPrototype intrinsics prototypes constructors host_objects
reference_error_prototype = (error_prototype 17 (codes "ReferenceError"), refl, refl)

error_may_be : (prototype : ℕ) → IsErrorPrototype prototype → (nodes : List Node) → IsLawful nodes → IsPrototype nodes kind.Error (At prototype)
unfolding IsErrorPrototype
error_may_be prototype is nodes lawful = (is.0, read_back nodes 62 prototype is.0 (ap (λ (ns : List Node). slice_get ns prototype) lawful.intrinsics ∙ is.1), is.2)

-- the last of nodes is read at their number
pub read_last : (nodes : List Node) (node : Node) → slice_get (nodes ++ node ∷ []) (length nodes) ≡ Some node
read_last [] node = refl
read_last (first ∷ rest) node = read_last rest node

-- a property is put, if there are not too many
pub put_ends : (number : ℕ) (key : List ℕ) (held : Value) (heap : Heap) → IsLawful heap.nodes → IsLawful (with_own heap.nodes number key held)
    → Ends (λ (done : Unit) h. h.nodes ≡ with_own heap.nodes number key held) (put_own number key held heap)
put_ends number key held heap lawful put =
    one_of (λ (done : Unit) h. h.nodes ≡ with_own heap.nodes number key held) (not (is_some (own_value heap.nodes number key)) && nat_le MOST_PROPERTIES (length (properties_of heap.nodes number)))
    (Stopped TooLong heap) (Gave tt (with_nodes heap (with_own heap.nodes number key held)))
    (λ full. halted (λ (done : Unit) h. h.nodes ≡ with_own heap.nodes number key held) TooLong heap lawful)
    (λ room. given (λ (done : Unit) h. h.nodes ≡ with_own heap.nodes number key held) tt (with_nodes heap (with_own heap.nodes number key held)) refl)

-- a node is made, if there are not too many
make_ends : (own : Kind) (prototype : Value) (heap : Heap) → IsLawful heap.nodes
    → Ends (λ (number : ℕ) h. (number ≡ length heap.nodes) × (h.nodes ≡ heap.nodes ++ new_node own prototype ∷ [])) (make own prototype heap)
make_ends own prototype heap lawful =
    let P = λ (number : ℕ) (h : Heap). (number ≡ length heap.nodes) × (h.nodes ≡ heap.nodes ++ new_node own prototype ∷ []) in
    one_of P (nat_lt heap.private_nodes MOST_PRIVATE_NODES)
    (Gave (length heap.nodes) (record { nodes = heap.nodes ++ new_node own prototype ∷ []; private_nodes = heap.private_nodes + 1; keys = heap.keys })) (Stopped TooManyNodes heap)
    (λ room. given P (length heap.nodes) (record { nodes = heap.nodes ++ new_node own prototype ∷ []; private_nodes = heap.private_nodes + 1; keys = heap.keys }) (refl, refl))
    (λ full. halted P TooManyNodes heap lawful)

-- the error that was made gets its message, and is thrown
message_ends : {A : Type 0} (Q : A → Heap → Type 0) (prototype : ℕ) → IsErrorPrototype prototype → (message : List ℕ) (nodes : List Node) (error : ℕ) (heap : Heap) → IsLawful nodes → error ≡ length nodes → heap.nodes ≡ nodes ++ new_node kind.Error (At prototype) ∷ []
    → Ends Q (followed (put_own error (codes "message") (Text message) heap) (λ done. throw_value (At error)))
message_ends Q prototype is message nodes error heap lawful is_last is_more =
    let node = new_node kind.Error (At prototype) in
    let after = nodes ++ node ∷ [] in
    let after_lawful : IsLawful after = made_lawful nodes kind.Error (At prototype) lawful (error_may_be prototype is nodes lawful) (λ n e. absurd cc) in
    let last : slice_get heap.nodes error ≡ Some node = ap (λ (ns : List Node). slice_get ns error) is_more ∙ ap (slice_get after) is_last ∙ read_last nodes node in
    let here_lawful : IsLawful heap.nodes = subst IsLawful (sym is_more) after_lawful in
    let put_lawful = with_own_lawful heap.nodes error node here_lawful last (codes "message") (Text message) refl tt (λ e. absurd cc) in
    ends_then (λ (done : Unit) h. h.nodes ≡ with_own heap.nodes error (codes "message") (Text message)) Q
    (put_own error (codes "message") (Text message) heap) (λ done. throw_value (At error))
    (put_ends error (codes "message") (Text message) heap here_lawful put_lawful)
    (λ done h same. thrown Q (At error) h (subst IsLawful (sym same) put_lawful)
    (omega (arith, is_last, ap length is_more, length-append nodes (node ∷ []), ap length same, length-changed (with_properties (put_under (codes "message") (Text message))) heap.nodes error)))

-- an error is made and thrown
pub throws_of : {A : Type 0} (Q : A → Heap → Type 0) (prototype : ℕ) → IsErrorPrototype prototype → (message : List ℕ) (heap : Heap) → IsLawful heap.nodes → Ends Q (throw_error prototype message heap)
throws_of Q prototype is message heap lawful =
    ends_then (λ (number : ℕ) h. (number ≡ length heap.nodes) × (h.nodes ≡ heap.nodes ++ new_node kind.Error (At prototype) ∷ [])) Q (make kind.Error (At prototype) heap) _
    (make_ends kind.Error (At prototype) heap lawful)
    (λ error h made. message_ends Q prototype is message heap.nodes error (record { nodes = h.nodes; private_nodes = h.private_nodes; keys = h.keys ++ codes "message" ∷ [] }) lawful made.0 made.1)

pub throws : {A : Type 0} (Q : A → Heap → Type 0) (message : List ℕ) (heap : Heap) → IsLawful heap.nodes → Ends Q (type_error message heap)
throws Q message heap lawful = throws_of Q TYPE_ERROR_PROTOTYPE type_error_prototype message heap lawful

-- a weaker fact of the result
pub weaker : {A : Type 0} (P Q : A → Heap → Type 0) → ((a : A) (h : Heap) → P a h → Q a h) → (answer : HeapAnswer A) → Ends P answer → Ends Q answer
unfolding Ends
weaker P Q f (Gave a h) e = f a h e
weaker P Q f (Threw v h) e = e
weaker P Q f (Stopped why h) e = e

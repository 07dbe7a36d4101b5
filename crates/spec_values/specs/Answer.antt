-- Actions on a state, and what comes of them.
use Rattle.std.specs.Prelude.{ℕ, List, ◌++◌, [], ◌∷◌}
use Rattle.snap_base.specs.declared.stop.Stop.{Stop}
use Rattle.snap_graph.specs.declared.node.Node.{Node}
use Rattle.snap_graph.specs.declared.value.Value.{Value}

-- what comes of an action on a state of type T: a result, a value that was thrown, or a stop for a reason of type W; and the state that it leaves
pub data Answer (W T A : Type 0) : Type 0 where
  Gave : A → T → Answer W T A
  Threw : Value → T → Answer W T A
  Stopped : W → T → Answer W T A

-- an action that gives a result at once, one that throws a value, and one that stops
abbrev pub give : {W T A : Type 0} → A → T → Answer W T A
give result state = Gave result state

abbrev pub throw_value : {W T A : Type 0} → Value → T → Answer W T A
throw_value value state = Threw value state

abbrev pub stop : {W T A : Type 0} → W → T → Answer W T A
stop why state = Stopped why state

-- what comes of an answer and of the action behind it
abbrev pub followed : {W T A B : Type 0} → Answer W T A → (A → T → Answer W T B) → Answer W T B
followed (Gave result state) next = next result state
followed (Threw value state) next = Threw value state
followed (Stopped why state) next = Stopped why state

-- one action, and then another on its result, where it has one
infixl 10 ◌>>=◌
abbrev pub ◌>>=◌ : {W T A B : Type 0} → (T → Answer W T A) → (A → T → Answer W T B) → T → Answer W T B
(action >>= next) state = followed (action state) next

-- a heap that evaluation works on: its nodes, how many of them are private, and the texts of the keys that were used, in order
pub record Heap : Type 0 where
  pub nodes : List Node
  pub private_nodes : ℕ
  pub keys : List (List ℕ)

-- actions on a heap alone
abbrev pub HeapAnswer : Type 0 → Type 0
HeapAnswer A = Answer Stop Heap A

abbrev pub Action : Type 0 → Type 0
Action A = Heap → HeapAnswer A

-- the key of a property is used
abbrev pub use_key : List ℕ → Action Unit
use_key text heap = Gave tt (record heap { keys = heap.keys ++ text ∷ [] })

-- States of evaluation: a heap, and what an action on the heap leaves alone.
use Rattle.std.specs.Prelude.{◌≡◌, ◌≤◌, ℕ, List, [], ◌++◌}
use Rattle.snap_base.specs.declared.stop.Stop.{Stop}
use Rattle.spec_values.specs.Answer.{Action, Answer, Gave, Heap, HeapAnswer, Stopped, Threw}

-- a heap, and what else a state holds: steps, printed bytes, queues
pub record State (X : Type 0) : Type 0 where
  pub heap : Heap
  pub rest : X

abbrev pub state : {X : Type 0} → Heap → X → State X
state heap rest = record { heap = heap; rest = rest }

-- why evaluation stopped, and at which place of the source
pub record StopAt : Type 0 where
  pub why : Stop
  pub at : ℕ

-- what comes of an action on the heap of a state: the rest stays, and a stop is one at a place
abbrev pub placed : {X A : Type 0} → ℕ → X → HeapAnswer A → Answer StopAt (State X) A
placed place rest (Gave result heap) = Gave result (state heap rest)
placed place rest (Threw value heap) = Threw value (state heap rest)
placed place rest (Stopped why heap) = Stopped (record { why = why; at = place }) (state heap rest)

-- an action on a heap, done at a place of the source
abbrev pub lift : {X A : Type 0} → ℕ → Action A → State X → Answer StopAt (State X) A
lift place action state = placed place state.rest (action state.heap)

-- how far evaluation has come: the keys that were used, how many nodes are private, and the bytes that were printed
pub record Progress : Type 0 where
  pub keys : List (List ℕ)
  pub private_nodes : ℕ
  pub printed : List ℕ

-- a heap tells nothing of what was printed
abbrev pub heap_progress : Heap → Progress
heap_progress heap = record { keys = heap.keys; private_nodes = heap.private_nodes; printed = [] }

abbrev pub state_progress : {X : Type 0} → (X → List ℕ) → State X → Progress
state_progress printed state = record { keys = state.heap.keys; private_nodes = state.heap.private_nodes; printed = printed state.rest }

-- a list goes on from another
abbrev pub Begins : {A : Type 0} → List A → List A → Type 0
Begins {A} first all = (rest : List A) × (all ≡ first ++ rest)

-- evaluation went on from one to the other
pub record Precedes (before after : Progress) : Type 0 where
  pub keys : Begins before.keys after.keys
  pub private_nodes : before.private_nodes ≤ after.private_nodes
  pub printed : Begins before.printed after.printed

-- the state that an action leaves
abbrev pub left_by : {W T A : Type 0} → Answer W T A → T
left_by (Gave result state) = state
left_by (Threw value state) = state
left_by (Stopped why state) = state

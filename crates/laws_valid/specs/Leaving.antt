-- What an action leaves of a graph of scripts, and what it gives.
use Rattle.std.specs.Prelude.{◌≡◌, ℕ, ◌⊎◌, true, List, Option, IfSome}
use Rattle.snap_ast.specs.declared.tree.Tree.{Tree}
use Rattle.snap_graph.specs.declared.node.Node.{Node}
use Rattle.snap_graph.specs.declared.value.Value.{Value}
use Rattle.snap_graph.specs.declared.value.Value.TheVariants.{Null, Node as At, Empty}
use Rattle.spec_scopes.specs.declared.need.ScopeNeed.{ScopeNeed}
use Rattle.spec_scopes.specs.Valid.{IsChain, IsScriptValue, IsValid, holds_scope}
use Rattle.spec_values.specs.Answer.{HeapAnswer, Gave, Stopped, Threw}

-- nothing is said of what is given
abbrev pub Anything : {A : Type 0} → List Node → A → Type 0
Anything nodes result = Unit {0}

-- a value that scripts can have, where there is one
abbrev pub IsScriptOption : List Node → Option Value → Type 0
IsScriptOption nodes found = IfSome found (IsScriptValue nodes)

-- the number of a node that is no scope, and that of a scope
abbrev pub IsObject : List Node → ℕ → Type 0
IsObject nodes number = IsScriptValue nodes (At number)

abbrev pub IsScope : List Node → ℕ → Type 0
IsScope nodes number = holds_scope nodes (At number) ≡ true

-- what stands round a scope: no scope, or one
abbrev pub IsOuter : List Node → Value → Type 0
IsOuter nodes outer = (outer ≡ Null) ⊎ (holds_scope nodes outer ≡ true)

-- what a slot of a scope may hold: the mark of an empty place, or a value that scripts can have
abbrev pub IsSlot : List Node → Value → Type 0
IsSlot nodes held = (held ≡ Empty) ⊎ IsScriptValue nodes held

-- a graph of scripts is left, what is thrown is a value of scripts, and P holds of what is given
abbrev pub LeavesValid : {A : Type 0} → List Tree → (List Node → A → Type 0) → HeapAnswer A → Type 0
LeavesValid scripts P (Gave result heap) = IsValid heap.nodes scripts × P heap.nodes result
LeavesValid scripts P (Threw value heap) = IsValid heap.nodes scripts × IsScriptValue heap.nodes value
LeavesValid scripts P (Stopped why heap) = IsValid heap.nodes scripts

-- what scripts can have stays such, and the scopes from a value on are those that were
pub record Stays (nodes after : List Node) : Type 0 where
  pub values : (value : Value) → IsScriptValue nodes value → IsScriptValue after value
  pub chains : (value : Value) (needs : List ScopeNeed) → IsChain nodes value needs → IsChain after value needs

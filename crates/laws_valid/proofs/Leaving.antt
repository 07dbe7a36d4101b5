-- Ends that keep nodes fit for scripts leave graphs of scripts where a heap is left.
use Rattle.std.proofs.Common.{List, length, Option, None, Some, IfSome, ap}
use Rattle.snap_ast.specs.declared.tree.Tree.{Tree}
use Rattle.snap_graph.specs.declared.node.Node.{Node}
use Rattle.snap_graph.specs.declared.value.Value.{Value}
use Rattle.snap_graph.specs.declared.value.Value.TheVariants.{Undefined, Null, Bool as Truth, Int, Text, Node as At, Empty}
use Rattle.snap_graph.specs.Values.{IsValue}
use Rattle.spec_scopes.specs.Valid.{IsScriptValue, IsValid}
use Rattle.spec_values.specs.Answer.{HeapAnswer, Gave, Heap, Stopped, Threw}
use Rattle.spec_values.specs.Asking.{is_callable, type_of}
use Rattle.spec_values.specs.Leaving.{GivesAny, GivesValue, LeavesHeap, LeavesNodes, StandStill}
use Rattle.spec_values.specs.State.{left_by}
use Rattle.laws_valid.specs.Leaving.{Anything, IsScriptOption, LeavesValid, Stays}
use Rattle.laws_valid.proofs.Ending.{Ends}
use Rattle.laws_valid.proofs.Keeping.{IsNoScope, all_stay}
use Rattle.laws_valid.proofs.Reading.{Found, Given, Kept}
use Rattle.laws_valid.proofs.Sound.{Sound}

module _ (scripts : List Tree) where
  pub any_valid : {A : Type 0} (answer : HeapAnswer A) → LeavesHeap answer → Ends scripts (Kept (Sound scripts)) answer → LeavesValid scripts Anything answer
  any_valid (Gave a h) lawful e = (record { lawful = lawful; each = e }, tt)
  any_valid (Threw v h) lawful e = (record { lawful = lawful.0; each = e.0 }, (lawful.1, e.1))
  any_valid (Stopped why h) lawful e = record { lawful = lawful; each = e }

  pub value_valid : (answer : HeapAnswer Value) → LeavesHeap answer → GivesValue answer → Ends scripts (Given (Sound scripts)) answer → LeavesValid scripts IsScriptValue answer
  value_valid (Gave v h) lawful gives e = (record { lawful = lawful; each = e.0 }, (gives, e.1))
  value_valid (Threw v h) lawful gives e = (record { lawful = lawful.0; each = e.0 }, (lawful.1, e.1))
  value_valid (Stopped why h) lawful gives e = record { lawful = lawful; each = e }

  both : (nodes : List Node) (found : Option Value) → IfSome found (IsValue (length nodes)) → IfSome found (IsNoScope nodes) → IsScriptOption nodes found
  both nodes None h none = tt
  both nodes (Some value) h none = (h, none)

  pub option_valid : (answer : HeapAnswer (Option Value)) → LeavesHeap answer → GivesAny answer → Ends scripts (Found (Sound scripts)) answer → LeavesValid scripts IsScriptOption answer
  option_valid (Gave found h) lawful gives e = (record { lawful = lawful; each = e.0 }, both h.nodes found gives e.1)
  option_valid (Threw v h) lawful gives e = (record { lawful = lawful.0; each = e.0 }, (lawful.1, e.1))
  option_valid (Stopped why h) lawful gives e = record { lawful = lawful; each = e }

  -- what is asked of a value leaves the heap as it is
  pub type_valid : (value : Value) (heap : Heap) → IsValid heap.nodes scripts → LeavesValid scripts Anything (type_of value heap)
  type_valid Undefined heap valid = (valid, tt)
  type_valid Null heap valid = (valid, tt)
  type_valid (Truth b) heap valid = (valid, tt)
  type_valid (Int z) heap valid = (valid, tt)
  type_valid (Text text) heap valid = (valid, tt)
  type_valid (At number) heap valid = (valid, tt)
  type_valid Empty heap valid = valid

  pub callable_valid : (value : Value) (heap : Heap) → IsValid heap.nodes scripts → LeavesValid scripts Anything (is_callable value heap)
  callable_valid Undefined heap valid = (valid, tt)
  callable_valid Null heap valid = (valid, tt)
  callable_valid (Truth b) heap valid = (valid, tt)
  callable_valid (Int z) heap valid = (valid, tt)
  callable_valid (Text text) heap valid = (valid, tt)
  callable_valid (At number) heap valid = (valid, tt)
  callable_valid Empty heap valid = (valid, tt)

-- values and chains stay where nodes stand still
still_stays : (nodes after : List Node) → StandStill nodes after → Stays nodes after
still_stays nodes after still = all_stay nodes after (record {
  count = still.count;
  each = λ number node read.
      let now = still.each number node read in
      (now.0, now.1, now.2, now.3, λ scope is. ap length (now.4 (λ an_array. absurd cc)));
})

pub left_stays : {A : Type 0} (nodes : List Node) (answer : HeapAnswer A) → LeavesNodes nodes answer → Stays nodes (left_by answer).nodes
left_stays nodes (Gave a h) still = still_stays nodes h.nodes still
left_stays nodes (Threw v h) still = still_stays nodes h.nodes still
left_stays nodes (Stopped why h) still = still_stays nodes h.nodes still

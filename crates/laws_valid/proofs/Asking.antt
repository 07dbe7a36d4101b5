-- Tests of own properties and names of a global object keep nodes fit for scripts.
use Rattle.std.proofs.Common.{ℕ, Bool, List, codes, Option, None, Some, is_some}
use Rattle.snap_ast.specs.declared.tree.Tree.{Tree}
use Rattle.snap_base.specs.declared.stop.Stop.TheVariants.{NotInProfile}
use Rattle.snap_graph.specs.declared.intrinsic.TheConstants.{REFERENCE_ERROR_PROTOTYPE, TYPE_ERROR_PROTOTYPE}
use Rattle.snap_graph.specs.declared.value.Value.{Value}
use Rattle.snap_graph.specs.declared.value.Value.TheVariants.{Undefined, Null, Bool as Truth, Int, Text, Node as At, Empty}
use Rattle.spec_values.specs.Access.{element_of, index_of, is_special, look_up, named_key, no_properties, reached_from, set_named}
use Rattle.spec_values.specs.Answer.{Heap, followed, stop}
use Rattle.spec_values.specs.Asking.{find_global, has_own, has_own_named, has_own_of_node, has_own_of_text, not_defined, set_global}
use Rattle.spec_values.specs.Operations.{kind_of}
use Rattle.laws_valid.proofs.Ending.{Ends, either, ends_then, throws}
use Rattle.laws_valid.proofs.Keeping.{IsNoScope}
use Rattle.laws_valid.proofs.Reading.{Found, Given, Kept, look_up_ends, named_ends, outside}
use Rattle.laws_valid.proofs.Sound.{Sound}
use Rattle.laws_valid.proofs.Writing.{set_named_ends}

module _ (scripts : List Tree) where
  named_own_ends : (number : ℕ) (name : List ℕ) (heap : Heap) → Sound scripts heap.nodes → Ends scripts (Kept (Sound scripts)) (has_own_named number name heap)
  named_own_ends number name heap sound = either scripts (Kept (Sound scripts)) (is_special (kind_of heap.nodes number) name) (stop NotInProfile) _ heap sound sound

  text_own_ends : (text : List ℕ) (key : Value) (place : Option ℕ) (heap : Heap) → Sound scripts heap.nodes → Ends scripts (Kept (Sound scripts)) (has_own_of_text text key place heap)
  text_own_ends text key (Some place) heap sound = sound
  text_own_ends text key None heap sound =
      ends_then scripts (Kept (Sound scripts)) (Kept (Sound scripts)) (named_key key heap) _ (named_ends scripts (Sound scripts) key heap sound sound) (λ name h here. here)

  node_own_ends : (number : ℕ) (key : Value) (place : Option ℕ) (heap : Heap) → Sound scripts heap.nodes → Ends scripts (Kept (Sound scripts)) (has_own_of_node number key place heap)
  node_own_ends number key (Some place) heap sound = sound
  node_own_ends number key None heap sound =
      ends_then scripts (Kept (Sound scripts)) (Kept (Sound scripts)) (named_key key heap) (λ name. has_own_named number name) (named_ends scripts (Sound scripts) key heap sound sound) (λ name h here. named_own_ends number name h here)

  none_own_ends : (key : Value) (heap : Heap) → Sound scripts heap.nodes → Ends scripts (Kept (Sound scripts)) (followed (named_key key heap) (λ name. no_properties {A = Bool}))
  none_own_ends key heap sound =
      ends_then scripts (Kept (Sound scripts)) (Kept (Sound scripts)) (named_key key heap) (λ name. no_properties) (named_ends scripts (Sound scripts) key heap sound sound)
      (λ name h here. throws scripts (Kept (Sound scripts)) TYPE_ERROR_PROTOTYPE (codes "no properties") h here)

  pub has_own_ends : (base key : Value) (heap : Heap) → Sound scripts heap.nodes → Ends scripts (Kept (Sound scripts)) (has_own base key heap)
  has_own_ends Undefined key heap sound = none_own_ends key heap sound
  has_own_ends Null key heap sound = none_own_ends key heap sound
  has_own_ends (Truth b) key heap sound = outside scripts (Kept (Sound scripts)) key heap sound
  has_own_ends (Int z) key heap sound = outside scripts (Kept (Sound scripts)) key heap sound
  has_own_ends (Text text) key heap sound = text_own_ends text key (index_of key) heap sound
  has_own_ends (At number) key heap sound = node_own_ends number key (element_of heap.nodes number key) heap sound
  has_own_ends Empty key heap sound = sound

  -- names of a global object
  pub find_global_ends : (global : ℕ) (name : List ℕ) (heap : Heap) → Sound scripts heap.nodes → Ends scripts (Found (Sound scripts)) (find_global global name heap)
  find_global_ends global name heap sound =
      ends_then scripts (Kept (Sound scripts)) (Found (Sound scripts)) (named_key (Text name) heap) _ (named_ends scripts (Sound scripts) (Text name) heap sound sound)
      (λ text h here. look_up_ends scripts (Sound scripts) (At global) text (reached_from h.nodes global) h here here)

  pub set_global_ends : (global : ℕ) (name : List ℕ) (held : Value) (heap : Heap) → Sound scripts heap.nodes → IsNoScope heap.nodes held → Ends scripts (Kept (Sound scripts)) (set_global global name held heap)
  set_global_ends global name held heap sound is =
      ends_then scripts (Found (λ nodes. Given (Sound scripts) nodes held)) (Kept (Sound scripts)) (look_up (At global) name (reached_from heap.nodes global) heap) _
      (look_up_ends scripts (λ nodes. Given (Sound scripts) nodes held) (At global) name (reached_from heap.nodes global) heap sound (sound, is))
      (λ found h here.
      either scripts (Kept (Sound scripts)) (is_some found) (set_named global name held) not_defined h (set_named_ends scripts global name held h here.0.0 here.0.1)
      (throws scripts (Kept (Sound scripts)) REFERENCE_ERROR_PROTOTYPE (codes "not defined") h here.0.0))

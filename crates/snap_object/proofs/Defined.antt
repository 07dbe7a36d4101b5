-- What is found in the global object, and writing it.
use Rattle.std.proofs.Common.{◌≡◌, ℕ, List, Option, None, Some, is_some, Result, Ok, Err, refl, subst}
use Rattle.snap_graph.specs.declared.value.Value.{Value}
use Rattle.snap_graph.specs.declared.value.Value.TheVariants.{Node as At}
use Rattle.snap_store.specs.declared.store.Store.{Ghosts}
use Rattle.snap_text.specs.declared.key.Key.{Key}
use Rattle.spec_values.specs.Access.{look_up, reached_from}
use Rattle.spec_values.specs.Answer.{Action, Heap, give}
use Rattle.spec_values.specs.Asking.{set_global}
use Rattle.spec_values.specs.Answer.{◌>>=◌}
use Rattle.snap_action.specs.declared.fault.Abrupt.{Abrupt}
use Rattle.snap_action.specs.Gives.{Gives, as_held, as_some, view_some}
use Rattle.snap_action.proofs.Follows.{grouped}
use Rattle.snap_object.specs.declared.globals.FoundGlobal.{FoundGlobal}
use Rattle.snap_object.specs.Globals.{as_global}
use Rattle.snap_object.specs.Parts.{defined_from, found_from, set_defined}

module _ {S H : Type 0} {store : Ghosts S H} {first last : S} {action : Action (Option Value)} where
  -- what was found, with the key of its name
  pub found_so : {name : List ℕ} {key : Key} {held : Option H} → store.key_of last name ≡ Some key → Gives store first last (as_some (as_held store last)) (Ok held) action
      → Gives store first last (as_global store last name) (Ok (record { key = key; held = held })) action
  found_so known h = record { comes = λ keys. let k = h.comes keys in record { used = k.used; log = k.log; ends = k.ends }; owned = (h.owned, known); later = h.later }

  pub found_none : {name : List ℕ} {fault : Abrupt H} → Gives store first last (as_some (as_held store last)) (Err fault) action → Gives store first last (as_global store last name) (Err fault) action
  found_none h = record { comes = λ keys. let k = h.comes keys in record { used = k.used; log = k.log; ends = k.ends }; owned = h.owned; later = h.later }

-- a name is this one
pub found_as : {S H : Type 0} {store : Ghosts S H} {first last : S} {result : Result (FoundGlobal H) (Abrupt H)} (global : ℕ) (text name : List ℕ) → text ≡ name
    → Gives store first last (as_global store last text) result (found_from (At global) text global) → Gives store first last (as_global store last name) result (found_from (At global) name global)
found_as {store = store} {first = first} {last = last} {result = result} global text name e h = subst (λ t. Gives store first last (as_global store last t) result (found_from (At global) t global)) e h

-- a value is seen where something is held
pub seen_some : {H : Type 0} (meaning : H → Value) (held : Option H) → is_some held ≡ is_some (view_some meaning held)
seen_some meaning None = refl
seen_some meaning (Some held) = refl

-- a name is written by whether it was found
pub set_by : (global : ℕ) (name : List ℕ) (value : Value) (heap : Heap) → (defined_from (At global) name global >>= set_defined global name value) heap ≡ set_global global name value heap
set_by global name value heap = grouped (look_up (At global) name (reached_from heap.nodes global) heap) (λ found. give (is_some found)) (set_defined global name value) _ (λ found h. refl)

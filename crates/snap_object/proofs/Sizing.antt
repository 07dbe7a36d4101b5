-- Sizes of Maps and Sets that are read.
use Rattle.std.proofs.Common.{◌≡◌, ℕ, ◌<◌, ◌^◌, pos, Bool, Option, Result, Ok, Err, refl, sym, ap, ◌∙◌, if◌then◌else◌}
use Rattle.std.proofs.lemmas.Bool.{lt-ltb}
use Rattle.snap_base.specs.declared.stop.Stop.TheVariants.{NotSafeInteger}
use Rattle.snap_graph.specs.declared.value.Value.{Value}
use Rattle.snap_graph.specs.declared.value.Value.TheVariants.{Undefined, Null, Bool as Truth, Int, Text, Node as At, Empty}
use Rattle.spec_values.specs.Access.{size_of, size_or_throw}
use Rattle.spec_values.specs.Answer.{Heap}
use Rattle.spec_values.specs.Conversions.{safe}
use Rattle.snap_action.specs.declared.fault.Abrupt.{Abrupt}
use Rattle.snap_store.specs.declared.store.Store.{Ghosts}
use Rattle.snap_action.specs.Gives.{Gives, Shows, standing}
use Rattle.snap_object.specs.Sizes.{entries_of}
use Rattle.snap_action.proofs.Follows.{alike}

-- a count that is a safe integer
pub safe_count : (n : ℕ) → n < 2 ^ 53 → safe (pos n) ≡ Ok (Int (pos n))
safe_count n below = ap (λ (b : Bool). if b then Ok (Int (pos n)) else Err NotSafeInteger) (lt-ltb n (2 ^ 53) below)

size_is : (prototype : ℕ) (base : Value) (heap : Heap) → size_of prototype base heap ≡ size_or_throw (entries_of heap.nodes prototype base) heap
size_is prototype Undefined heap = refl
size_is prototype Null heap = refl
size_is prototype (Truth b) heap = refl
size_is prototype (Int z) heap = refl
size_is prototype (Text text) heap = refl
size_is prototype (At base) heap = refl
size_is prototype Empty heap = refl

pub sized : {S H R : Type 0} {store : Ghosts S H} {first last : S} {shows : Shows R (Value)} {result : Result R (Abrupt H)} (prototype : ℕ) (base : Value) (found : Option ℕ)
    → entries_of (store.view first).nodes prototype base ≡ found → Gives store first last shows result (size_or_throw found) → Gives store first last shows result (size_of prototype base)
sized {store = store} {first = first} prototype base found e h =
    alike (size_or_throw found) (size_of prototype base) (λ keys. sym (size_is prototype base (standing (store.view first) keys) ∙ ap (λ (f : Option ℕ). size_or_throw f (standing (store.view first) keys)) e)) h

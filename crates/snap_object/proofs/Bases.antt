-- Bases and keys that are texts.
use Rattle.std.proofs.Common.{◌≡◌, ℕ, zero, suc, Bool, true, false, ◌<◌, ◌-◌, ◌+◌, List, [], ◌∷◌, length, take, drop, slice_get, Option, None, Some, is_some, if◌then◌else◌, refl, ap, ◌∙◌, arith}
use Rattle.std.proofs.lemmas.Bool.{false≢true}
use Rattle.snap_base.specs.declared.stop.Stop.TheVariants.{NotInProfile}
use Rattle.snap_graph.specs.declared.intrinsic.TheConstants.{STRING_PROTOTYPE}
use Rattle.snap_graph.specs.declared.value.Value.{Value}
use Rattle.snap_graph.specs.declared.value.Value.TheVariants.{Undefined, Null, Bool as Truth, Int, Node as At, Text, Empty}
use Rattle.snap_store.specs.Calls.{text_units, units_in}
use Rattle.spec_values.specs.Access.{delete, found_or, is_size, is_special, look_up, or_undefined, reached_from, size_of, unit_or_undefined}
use Rattle.spec_values.specs.Answer.{◌>>=◌, Heap, followed, give, stop}
use Rattle.spec_values.specs.Operations.{kind_of, own_value}
use Rattle.snap_object.specs.Parts.{looked_up}
use Rattle.snap_object.specs.Texts.{without_units}

-- what has the units of a text is that text
pub is_its_text : (value : Value) → is_some (text_units value) ≡ true → Text (units_in value) ≡ value
is_its_text Undefined e = absurd (false≢true e)
is_its_text Null e = absurd (false≢true e)
is_its_text (Truth b) e = absurd (false≢true e)
is_its_text (Int z) e = absurd (false≢true e)
is_its_text (Text text) e = refl
is_its_text (At number) e = absurd (false≢true e)
is_its_text Empty e = absurd (false≢true e)

-- what a removal comes to hangs on no unit of a base
pub delete_alike : (base key : Value) (heap : Heap) → delete (without_units base) key heap ≡ delete base key heap
delete_alike Undefined key heap = refl
delete_alike Null key heap = refl
delete_alike (Truth b) key heap = refl
delete_alike (Int z) key heap = refl
delete_alike (Text text) key heap = refl
delete_alike (At number) key heap = refl
delete_alike Empty key heap = refl

-- a text has no `size`, as undefined has none
module _ (text name : List ℕ) where
  step : (number : ℕ) (rest : List ℕ) (heap : Heap) → look_up Undefined name rest heap ≡ look_up (Text text) name rest heap → (b c : Bool) (own : Option Value)
      → (if b then stop NotInProfile else (if c then (size_of number Undefined >>= λ size. give (Some size)) else found_or own (look_up Undefined name rest))) heap
      ≡ (if b then stop NotInProfile else (if c then (size_of number (Text text) >>= λ size. give (Some size)) else found_or own (look_up (Text text) name rest))) heap
  step number rest heap further true c own = refl
  step number rest heap further false true own = refl
  step number rest heap further false false (Some value) = refl
  step number rest heap further false false None = further

  walk_alike : (nodes : List ℕ) (heap : Heap) → look_up Undefined name nodes heap ≡ look_up (Text text) name nodes heap
  walk_alike [] heap = refl
  walk_alike (number ∷ rest) heap = step number rest heap (walk_alike rest heap) (is_special (kind_of heap.nodes number) name) (is_size number name) (own_value heap.nodes number name)

  pub look_up_alike : (heap : Heap) → looked_up Undefined name STRING_PROTOTYPE heap ≡ looked_up (Text text) name STRING_PROTOTYPE heap
  look_up_alike heap = ap (λ answer. followed answer (λ found. give (or_undefined found))) (walk_alike (reached_from heap.nodes STRING_PROTOTYPE) heap)

-- one unit of a text
pub one_unit : (text : List ℕ) (place : ℕ) → place < length text → Text (take (place + 1 - place) (drop place text)) ≡ unit_or_undefined (slice_get text place)
one_unit [] place below = absurd (omega arith)
one_unit (unit ∷ rest) zero below = refl
one_unit (unit ∷ rest) (suc place) below =
    let e : suc place + 1 - suc place ≡ place + 1 - place = omega arith in
    ap (λ (n : ℕ). Text (take n (drop place rest))) e ∙ one_unit rest place (omega arith)

-- The keys of a shape, on the way to its parents.
use Rattle.std.proofs.Common.{◌≡◌, ℕ, suc, ◌-◌, ◌<◌, ◌≤◌, List, [], ◌∷◌, ◌++◌, Some, length, get_or, map, reverse, sym, ap, subst, ◌∙◌, arith}
use Rattle.std.specs.List.{slice_get}
use Rattle.std.specs.Option.{option_map}
use Rattle.std.proofs.lemmas.List.{append_assoc, reverse-append}
use Rattle.std.proofs.lemmas.Option.{slice_get-get_or, slice_get-map}
use Rattle.snap_blob.specs.Steps.{pair_of}
use Rattle.snap_blob.specs.declared.startups.ShapeStep.{ShapeStep}
use Rattle.spec_format.specs.Shapes.{HasKeys}
use Rattle.spec_format.specs.Shapes.HasKeys.{Child}

-- the parent and the key of a shape that is not the empty one
pub step_at : (shapes : List ShapeStep) (at : ℕ) (d : ShapeStep) → 0 < at → at ≤ length shapes → slice_get (map pair_of shapes) (at - 1) ≡ Some (pair_of (get_or shapes (at - 1) d))
step_at shapes at d more within = slice_get-map pair_of shapes (at - 1) ∙ ap (option_map pair_of) (slice_get-get_or shapes (at - 1) d (omega arith))

-- what leads from a shape's keys to the whole leads there from its parent's, with one key more
pub one_step : (shapes : List (ℕ × ℕ)) (shape at parent name : ℕ) (keys more : List ℕ) → 0 < at → slice_get shapes (at - 1) ≡ Some (parent, name)
    → ((front : List ℕ) → HasKeys shapes at front → HasKeys shapes shape (front ++ reverse keys)) → more ≡ keys ++ name ∷ []
    → (front : List ℕ) → HasKeys shapes parent front → HasKeys shapes shape (front ++ reverse more)
one_step shapes shape at parent name keys more positive step whole pushed front has =
    let P : ℕ → Type 0 = λ n. HasKeys shapes n (front ++ name ∷ []) in
    let Q : List ℕ → Type 0 = λ some. HasKeys shapes shape some in
    let here : suc (at - 1) ≡ at = omega arith in
    let all = whole (front ++ name ∷ []) (subst P here (Child (at - 1) parent name front step has)) in
    let turned : reverse more ≡ name ∷ reverse keys = ap reverse pushed ∙ reverse-append keys (name ∷ []) in
    subst Q (append_assoc front (name ∷ []) (reverse keys) ∙ ap (λ (w : List ℕ). front ++ w) (sym turned)) all

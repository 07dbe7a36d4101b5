-- A chain of shapes that grows, and the numbers of its keys.
use Rattle.std.proofs.Common.{◌≡◌, ℕ, ◌+◌, ◌<◌, List, [], ◌∷◌, ◌++◌, Contains, get_or, length, map, refl, sym, ap, ◌∙◌, arith}
use Rattle.std.specs.Prelude.{take}
use Rattle.std.proofs.lemmas.List.{length-map, length-take, map-append, take_more}
use Rattle.spec_format.specs.Shapes.{chain_from}
use Rattle.spec_sections.proofs.Texts.{number_is, place_inside}
use Rattle.spec_sections.specs.Global.{text_number}
use Rattle.snap_blob.specs.Steps.{pair_of}
use Rattle.snap_blob.specs.declared.startups.ShapeStep.{ShapeStep}

-- the number of a text among the strings is below their count
pub number_below : (strings : List (List ℕ)) (text : List ℕ) → Contains strings text → text_number strings text < length strings
number_below strings text among = rw (number_is strings text (place_inside strings text among)) (place_inside strings text among)

-- one shape more
chain_behind : (i name : ℕ) (names : List ℕ) → chain_from i (names ++ name ∷ []) ≡ chain_from i names ++ (i + length names, name) ∷ []
chain_behind i name [] = ap (λ (n : ℕ). (n, name) ∷ []) (omega arith)
chain_behind i name (first ∷ names) =
    ap (λ (shapes : List (ℕ × ℕ)). (i, first) ∷ shapes) (chain_behind (i + 1) name names ∙ ap (λ (n : ℕ). chain_from (i + 1) names ++ (n, name) ∷ []) (omega arith))

pub length_chain : (i : ℕ) (names : List ℕ) → length (chain_from i names) ≡ length names
length_chain i [] = refl
length_chain i (name ∷ names) = omega (arith, length_chain (i + 1) names)

-- the shape of one item more
pub chain_more : {X : Type 0} (number : X → ℕ) (xs : List X) (i : ℕ) (d : X) → i < length xs
    → chain_from 0 (map number (take (i + 1) xs)) ≡ chain_from 0 (map number (take i xs)) ++ (i, number (get_or xs i d)) ∷ []
chain_more number xs i d inside =
    let more : map number (take (i + 1) xs) ≡ map number (take i xs) ++ number (get_or xs i d) ∷ [] =
    ap (map number) (take_more xs i d inside) ∙ map-append number (take i xs) (get_or xs i d ∷ []) in
    let count : 0 + length (map number (take i xs)) ≡ i = omega (arith, length-map (take i xs) number, length-take i xs, inside) in
    ap (chain_from 0) more ∙ chain_behind 0 (number (get_or xs i d)) (map number (take i xs)) ∙ ap (λ (n : ℕ). chain_from 0 (map number (take i xs)) ++ (n, number (get_or xs i d)) ∷ []) count

-- one shape put
pub shape_put : {X : Type 0} (number : X → ℕ) (xs : List X) (i : ℕ) (d : X) (list after : List ShapeStep) (step : ShapeStep) → i < length xs → after ≡ list ++ step ∷ [] → step.parent ≡ i → step.name ≡ number (get_or xs i d)
    → map pair_of list ≡ chain_from 0 (map number (take i xs)) → map pair_of after ≡ chain_from 0 (map number (take (i + 1) xs))
shape_put number xs i d list after step inside pushed parent name so_far =
    ap (map pair_of) pushed ∙ map-append pair_of list (step ∷ []) ∙ ap (λ (shapes : List (ℕ × ℕ)). shapes ++ pair_of step ∷ []) so_far
    ∙ ap (λ (n : ℕ). chain_from 0 (map number (take i xs)) ++ (n, step.name) ∷ []) parent ∙ ap (λ (n : ℕ). chain_from 0 (map number (take i xs)) ++ (i, n) ∷ []) name
    ∙ sym (chain_more number xs i d inside)

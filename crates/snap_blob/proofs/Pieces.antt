-- Pieces that are written one behind the other, and their ends.
use Rattle.std.proofs.Common.{◌≡◌, ℕ, suc, ◌+◌, ◌<◌, ◌≤◌, List, [], ◌∷◌, ◌++◌, length, get_or, take, ap, sym, ◌∙◌, add-one, arith}
use Rattle.std.specs.List.{flat_map, concat}
use Rattle.std.proofs.lemmas.List.{append-nil, append_assoc, take_all, take_more}
use Rattle.std.proofs.lemmas.List.Concat.{flat_map-append}
use Rattle.std.proofs.lemmas.List.Folds.{concat-append}
use Rattle.spec_format.specs.Number.{ends_from, spelled32}
use Rattle.spec_format.proofs.Pieces.{before, before-suc, before-le, get_or-ends_from, length-ends_from}

-- one piece more stands before the next
pub before_more : (pieces : List (List ℕ)) (i n : ℕ) → i < length pieces → length (get_or pieces i []) ≡ n → before (i + 1) pieces ≡ before i pieces + n
before_more pieces i n lt e = ap (λ k. before k pieces) (add-one i) ∙ before-suc i pieces lt ∙ ap (λ k. before i pieces + k) e

-- no piece ends behind the last
pub before_more-le : (pieces : List (List ℕ)) (i n : ℕ) → i < length pieces → length (get_or pieces i []) ≡ n → before i pieces + n ≤ length (concat pieces)
before_more-le pieces i n lt e = omega (arith, before-suc i pieces lt, before-le (suc i) pieces)

-- one end more is written
pub ends_more : (old now next : List ℕ) (start : ℕ) (pieces : List (List ℕ)) (i end : ℕ) → i < length pieces → end ≡ start + before (i + 1) pieces
    → now ≡ old ++ flat_map spelled32 (take i (ends_from start pieces)) → next ≡ now ++ spelled32 end
    → next ≡ old ++ flat_map spelled32 (take (i + 1) (ends_from start pieces))
ends_more old now next start pieces i end lt is_end so_far pushed =
    let ends = ends_from start pieces in
    let inside : i < length ends = omega (arith, length-ends_from start pieces) in
    let item : get_or ends i 0 ≡ end = get_or-ends_from start pieces i 0 lt ∙ ap (λ k. start + before k pieces) (sym (add-one i)) ∙ sym is_end in
    let more : flat_map spelled32 (take (i + 1) ends) ≡ flat_map spelled32 (take i ends) ++ spelled32 end =
    ap (flat_map spelled32) (take_more ends i 0 inside)
    ∙ flat_map-append spelled32 (take i ends) (get_or ends i 0 ∷ [])
    ∙ ap (λ w. flat_map spelled32 (take i ends) ++ w) (append-nil (spelled32 (get_or ends i 0)) ∙ ap spelled32 item) in
    pushed ∙ ap (λ w. w ++ spelled32 end) so_far ∙ append_assoc old (flat_map spelled32 (take i ends)) (spelled32 end) ∙ ap (λ w. old ++ w) (sym more)

-- all ends are written
pub ends_all : (start : ℕ) (pieces : List (List ℕ)) (i : ℕ) → length pieces ≤ i → take i (ends_from start pieces) ≡ ends_from start pieces
ends_all start pieces i h = take_all i (ends_from start pieces) (omega (arith, length-ends_from start pieces))

-- one piece more is written
pub pieces_more : (old now next : List ℕ) (pieces : List (List ℕ)) (i : ℕ) (piece : List ℕ) → i < length pieces → get_or pieces i [] ≡ piece
    → now ≡ old ++ concat (take i pieces) → next ≡ now ++ piece → next ≡ old ++ concat (take (i + 1) pieces)
pieces_more old now next pieces i piece lt is_piece so_far pushed =
    let more : concat (take (i + 1) pieces) ≡ concat (take i pieces) ++ piece =
    ap concat (take_more pieces i [] lt)
    ∙ concat-append (take i pieces) (get_or pieces i [] ∷ [])
    ∙ ap (λ w. concat (take i pieces) ++ w) (append-nil (get_or pieces i []) ∙ is_piece) in
    pushed ∙ ap (λ w. w ++ piece) so_far ∙ append_assoc old (concat (take i pieces)) piece ∙ ap (λ w. old ++ w) (sym more)

-- The intrinsics, pushed one after another.
use Rattle.std.proofs.Common.{◌≡◌, ℕ, zero, suc, ◌+◌, List, [], ◌∷◌, ◌++◌, take, drop, ap, ◌∙◌, arith}
use Rattle.std.proofs.lemmas.List.{append_assoc, take-append-drop}
use Rattle.snap_graph.specs.declared.node.Node.{Node}
use Rattle.snap_graph.specs.Intrinsics.{native, natives_from}

pub natives_more : (number count : ℕ) → natives_from number (suc count) ≡ natives_from number count ++ native (number + count) [] ∷ []
natives_more number zero = let e : number ≡ number + zero = omega arith in ap (λ (n : ℕ). native n [] ∷ []) e
natives_more number (suc count) =
    let e : number + 1 + count ≡ number + suc count = omega arith in
    ap (λ (ns : List Node). native number [] ∷ ns) (natives_more (number + 1) count ∙ ap (λ (n : ℕ). natives_from (number + 1) count ++ native n [] ∷ []) e)

-- lists that grew by pushes
pub four : (old l1 l2 l3 l4 : List Node) (n1 n2 n3 n4 m1 m2 m3 m4 : Node) → l1 ≡ old ++ n1 ∷ [] → l2 ≡ l1 ++ n2 ∷ [] → l3 ≡ l2 ++ n3 ∷ [] → l4 ≡ l3 ++ n4 ∷ []
    → n1 ≡ m1 → n2 ≡ m2 → n3 ≡ m3 → n4 ≡ m4 → l4 ≡ old ++ m1 ∷ m2 ∷ m3 ∷ m4 ∷ []
four old l1 l2 l3 l4 n1 n2 n3 n4 m1 m2 m3 m4 e1 e2 e3 e4 k1 k2 k3 k4 = rw (e4, e3, e2, e1, k1, k2, k3, k4) (simp append_assoc)

pub joined : (l0 l1 l2 l3 l4 l5 p c h n : List Node) → l0 ≡ [] → l1 ≡ l0 ++ take 6 p → l2 ≡ l1 ++ drop 6 p → l3 ≡ l2 ++ c → l4 ≡ l3 ++ h → l5 ≡ l4 ++ n → l5 ≡ p ++ c ++ h ++ n
joined l0 l1 l2 l3 l4 l5 p c h n e0 e1 e2 e3 e4 e5 =
    let front : l2 ≡ p = e2 ∙ ap (λ (l : List Node). l ++ drop 6 p) (e1 ∙ ap (λ (l : List Node). l ++ take 6 p) e0) ∙ take-append-drop 6 p in
    e5 ∙ ap (λ (l : List Node). l ++ n) (e4 ∙ ap (λ (l : List Node). l ++ h) (e3 ∙ ap (λ (l : List Node). l ++ c) front))

-- Shapes, as a startup section stores them: a parent and the string that is the key. Shape 0 has no keys and is not
-- stored, so the first stored one is shape 1; each stored one has the keys of its parent and one more.
use Rattle.std.specs.Prelude.{◌≡◌, ◌≢◌, ℕ, suc, ◌+◌, ◌<◌, ◌≤◌, AllPairs, All, Contains, List, [], ◌∷◌, ◌++◌, Some, slice_get}

-- the keys of a shape, as numbers of strings, in order
pub data HasKeys (shapes : List (ℕ × ℕ)) : ℕ → List ℕ → Type 0 where
  Root : HasKeys shapes 0 []
  Child : (n parent name : ℕ) (keys : List ℕ) → slice_get shapes n ≡ Some (parent, name) → HasKeys shapes parent keys → HasKeys shapes (suc n) (keys ++ name ∷ [])

-- each shape's parent is below it and its key one of the strings; no key stands in its parent, and no shape twice
pub record AreLawful (strings : ℕ) (shapes : List (ℕ × ℕ)) : Type 0 where
  pub parents : (n parent name : ℕ) → slice_get shapes n ≡ Some (parent, name) → parent ≤ n
  pub names : All (λ shape. shape.1 < strings) shapes
  pub fresh : (n parent name : ℕ) (keys : List ℕ) → slice_get shapes n ≡ Some (parent, name) → HasKeys shapes parent keys → Contains keys name → ⊥
  pub apart : AllPairs (λ one other. one ≢ other) shapes

-- shapes each of which stands on the one before, the first on shape i
abbrev pub chain_from : ℕ → List ℕ → List (ℕ × ℕ)
chain_from i [] = []
chain_from i (name ∷ names) = (i, name) ∷ chain_from (i + 1) names

-- What is known of shapes while they are judged.
use Rattle.std.specs.Prelude.{◌≡◌, ℕ, suc, ◌<◌, ◌≤◌, ◌↔◌, Bool, true, false, Contains, List, Some, length, slice_get, slice_index_or}
use Rattle.spec_format.specs.Shapes.{HasKeys}
use Rattle.snap_blob.specs.declared.startups.ShapeStep.{ShapeStep}

-- each parent is below its shape, and each key one of so many strings
abbrev pub AreBounded : ℕ → List ShapeStep → Type 0
AreBounded strings shapes =
    (n : ℕ) (d : ShapeStep) → n < length shapes
    → ((slice_index_or shapes n d).parent ≤ n) × ((slice_index_or shapes n d).name < strings)

-- each parent is below its shape
abbrev pub HaveLowParents : List ShapeStep → Type 0
HaveLowParents shapes = (n : ℕ) (d : ShapeStep) → n < length shapes → (slice_index_or shapes n d).parent ≤ n

-- the name is one of the shape's keys
abbrev pub HasKey : List (ℕ × ℕ) → ℕ → ℕ → Type 0
HasKey shapes shape name = (keys : List ℕ) × HasKeys shapes shape keys × Contains keys name

-- the key of stored shape n is no key of its parent
abbrev pub IsFresh : List (ℕ × ℕ) → ℕ → Type 0
IsFresh shapes n = (parent name : ℕ) → slice_get shapes n ≡ Some (parent, name) → HasKey shapes parent name → ⊥

-- that holds of each stored shape
abbrev pub AreFresh : List (ℕ × ℕ) → Type 0
AreFresh shapes = (n : ℕ) → IsFresh shapes n

-- it holds of a shape and of each that it stands on
pub data IsClean (shapes : List (ℕ × ℕ)) : ℕ → Type 0 where
  Ground : IsClean shapes 0
  Above : (n parent name : ℕ) → slice_get shapes n ≡ Some (parent, name) → (HasKey shapes parent name → ⊥) → IsClean shapes parent → IsClean shapes (suc n)

-- the marked names are the keys of the shape, in which none stands twice
pub record IsMarked (shapes : List (ℕ × ℕ)) (shape : ℕ) (marks : List Bool) : Type 0 where
  pub clean : IsClean shapes shape
  pub keys : (name : ℕ) → name < length marks → (slice_index_or marks name false ≡ true) ↔ HasKey shapes shape name

-- Visits of shapes.
use Rattle.std.specs.Prelude.{◌≡◌, ℕ, ◌<◌, All, Contains, List}
use Rattle.snap_blob.specs.declared.visits.Visit.{Visit}

-- the visits are of so many stored shapes, of each of them
pub record AreVisits (count : ℕ) (visits : List Visit) : Type 0 where
  pub within : All (λ visit. visit.shape < count) visits
  pub all : (n : ℕ) → n < count → (visit : Visit) × Contains visits visit × (visit.shape ≡ n)

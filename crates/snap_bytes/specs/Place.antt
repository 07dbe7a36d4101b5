-- Where a reader stands.
use Rattle.std.specs.Prelude.{ℕ, List}

-- how far from the front of the whole the next byte stands, and the bytes that are left
pub record Place : Type 0 where
  pub at : ℕ
  pub left : List ℕ

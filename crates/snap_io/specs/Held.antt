-- What files hold, where they tell it.
use Rattle.std.specs.Prelude.{◌≡◌, ◌≢◌, ℕ, List, [], ◌++◌, ◌⊎◌, Option, Some, None, unwrap_or}

-- the bytes under each name, and None where the name is not held
abbrev pub Held : Type 0
Held = List ℕ → Option (List ℕ)

-- a name that is not held counts as holding no bytes
abbrev pub bytes_under : Held → List ℕ → List ℕ
bytes_under held name = unwrap_or (held name) []

-- a step from what is told before to what is told after. No call changes whether an object tells
abbrev pub Told : (Held → Held → Type 0) → Option Held → Option Held → Type 0
Told step None None = Unit {0}
Told step (Some before) (Some after) = step before after
Told step None (Some after) = ⊥
Told step (Some before) None = ⊥

-- the text begins with the part
abbrev pub IsPrefixOf : List ℕ → List ℕ → Type 0
IsPrefixOf part text = (rest : List ℕ) × (part ++ rest ≡ text)

-- the bytes stand under the name now, and every other name holds what it held
pub record Writes (name bytes : List ℕ) (before after : Held) : Type 0 where
  pub under : after name ≡ Some bytes
  pub others : (other : List ℕ) → other ≢ name → after other ≡ before other

-- a write that failed leaves the old bytes under the name, or a prefix of the new ones
pub record WritesInPart (name bytes : List ℕ) (before after : Held) : Type 0 where
  pub under : (after name ≡ before name) ⊎ ((part : List ℕ) × IsPrefixOf part bytes × (after name ≡ Some part))
  pub others : (other : List ℕ) → other ≢ name → after other ≡ before other

-- A list of files, each under its name.
use Rattle.std.specs.Prelude.{◌≡◌, ◌≢◌, ◌<◌, ℕ, Bool, true, false, List, [], ◌∷◌, Some, None, if◌then◌else◌, length, string_bytes, bytes_eq, HoldsAt}
use Rattle.snap_io.specs.Held.{Held}
use Rattle.snap_io.specs.declared.named.NamedFile.{NamedFile}

-- whether the file has this name
abbrev pub is_named : List ℕ → NamedFile → Bool
is_named name file = bytes_eq (string_bytes file.name) name

-- what the list holds: the bytes of the first file of a name
abbrev pub held_by : List NamedFile → Held
held_by [] name = None
held_by (file ∷ files) name = if is_named name file then Some file.bytes.items else held_by files name

-- none of the files has the name of this one
abbrev pub IsApart : NamedFile → List NamedFile → Type 0
IsApart file [] = Unit {0}
IsApart file (other ∷ others) = (string_bytes other.name ≢ string_bytes file.name) × IsApart file others

-- no two of the files have one name
abbrev pub AreApart : List NamedFile → Type 0
AreApart [] = Unit {0}
AreApart (file ∷ files) = IsApart file files × AreApart files

-- no file before this place has the name
abbrev pub LacksBefore : List ℕ → List NamedFile → ℕ → Type 0
LacksBefore name files place = (k : ℕ) → k < place → HoldsAt (λ file. is_named name file ≡ false) files k

-- the first file of the name stands here
pub record IsPlaceOf (name : List ℕ) (files : List NamedFile) (place : ℕ) : Type 0 where
  pub inside : place < length files
  pub named : HoldsAt (λ file. is_named name file ≡ true) files place
  pub first : LacksBefore name files place

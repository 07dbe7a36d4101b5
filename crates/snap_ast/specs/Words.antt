-- Names, keys and literals, such as the tokens of a source have.
use Rattle.std.specs.Prelude.{◌≡◌, ℕ, ◌≤◌, ◌<◌, false, List, [], ◌∷◌}
use Rattle.spec_tokens.specs.Number.{largest}
use Rattle.spec_tokens.specs.Shape.{IsWord}
use Rattle.spec_tokens.specs.Word.{is_reserved}
use Rattle.snap_ast.specs.declared.part.Named.{Named}
use Rattle.snap_ast.specs.declared.part.ConstBinding.{ConstBinding}
use Rattle.snap_ast.specs.declared.part.ConstBinding.TheVariants.{One, Pattern}
use Rattle.snap_ast.specs.declared.part.PropertyKey.{PropertyKey}
use Rattle.snap_ast.specs.declared.part.PropertyKey.TheVariants.{Word, Text, Number, Computed}

-- it holds of each item
abbrev pub Each : {A : Type 0} → (A → Type 0) → List A → Type 0
Each P [] = Unit {0}
Each P (item ∷ items) = P item × Each P items

-- there is an item
abbrev pub IsSome : {A : Type 0} → List A → Type 0
IsSome [] = ⊥
IsSome (item ∷ items) = Unit {0}

-- a name, and no reserved word
abbrev pub IsName : List ℕ → Type 0
IsName text = IsWord text [] × (is_reserved text ≡ false)

abbrev pub IsNamed : Named → Type 0
IsNamed named = IsName named.name

-- units that a text of a source may have
abbrev pub IsText : List ℕ → Type 0
IsText units = Each (λ unit. unit < 256) units

-- a number that a source may have
abbrev pub IsNumber : ℕ → Type 0
IsNumber value = value ≤ largest

abbrev pub IsKey : PropertyKey → Type 0
IsKey (Word key) = IsWord key []
IsKey (Text units) = IsText units
IsKey (Number value) = IsNumber value
IsKey (Computed node) = Unit {0}

abbrev pub IsConstBinding : ConstBinding → Type 0
IsConstBinding (One named value) = IsNamed named
IsConstBinding (Pattern names value) = Each IsNamed names × IsSome names

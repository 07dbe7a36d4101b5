-- Names of properties that are kept.
use Rattle.std.specs.Prelude.{◌≡◌, ℕ, List, Option, Some}
use Rattle.std.specs.Option.{ForSome}
use Rattle.snap_text.specs.declared.key.Key.{Key}

-- a name as it is seen: its text, and the key of the text, where a store was asked for it
pub record Named : Type 0 where
  pub text : List ℕ
  pub key : Option Key

-- the key that is kept is that of the text
abbrev pub IsKnown : (List ℕ → Option Key) → Named → Type 0
IsKnown key_of name = ForSome name.key (λ key. key_of name.text ≡ Some key)

-- Keys of texts.
use Rattle.std.specs.Prelude.{◌≡◌, ℕ, Bool, List, [], ◌∷◌, ◌++◌, Option, None, Some, if◌then◌else◌}
use Rattle.snap_text.specs.declared.key.Key.{Key}

-- the key is that of some text
abbrev pub HasText : (List ℕ → Option Key) → Key → Type 0
HasText key_of key = (text : List ℕ) × (key_of text ≡ Some key)

-- each text that had a key has the same one
abbrev pub Keeps : (List ℕ → Option Key) → (List ℕ → Option Key) → Type 0
Keeps before after = (text : List ℕ) (key : Key) → before text ≡ Some key → after text ≡ Some key

-- a log that is told, after one more text was asked for: the text goes last, unless it is left out
abbrev pub logged : (List ℕ → Bool) → List ℕ → Option (List (List ℕ)) → Option (List (List ℕ))
logged leaves_out text None = None
logged leaves_out text (Some log) = Some (if leaves_out text then log else log ++ text ∷ [])

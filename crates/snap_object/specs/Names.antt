-- The names of keys.
use Rattle.std.specs.Prelude.{◌≡◌, ℕ, List, Option, None, Some, Ok, Err}
use Rattle.snap_base.specs.declared.stop.Stop.TheVariants.{NotInProfile}
use Rattle.snap_graph.specs.declared.value.Value.{Value}
use Rattle.snap_graph.specs.OwnKeys.{array_index}
use Rattle.snap_store.specs.declared.store.Store.{Ghosts}
use Rattle.snap_text.specs.declared.key.Key.{Key}
use Rattle.spec_values.specs.Access.{index_of}
use Rattle.spec_values.specs.Conversions.{text_of}
use Rattle.snap_action.specs.Gives.{Shows}
use Rattle.snap_action.specs.Names.{IsKnown, Named}

-- a text is that of a key, with its array index; or the key has none
abbrev pub IsTextOf : Value → Option (List ℕ) → Type 0
IsTextOf key None = text_of key ≡ Err NotInProfile
IsTextOf key (Some text) = (text_of key ≡ Ok text) × (index_of key ≡ array_index text)

-- a name has the text of a key and its array index, and no store was asked for its key yet; or the key has no text
abbrev pub IsNameOf : Value → Option Named → Type 0
IsNameOf key None = text_of key ≡ Err NotInProfile
IsNameOf key (Some name) = (text_of key ≡ Ok name.text) × (index_of key ≡ array_index name.text) × (name.key ≡ None)

-- a name has the text that it had, and its key is that of the text, if it is kept
pub record StaysKnown (key_of : List ℕ → Option Key) (before after : Named) : Type 0 where
  pub text : after.text ≡ before.text
  pub known : IsKnown key_of after

-- a key, seen as the text of which it is the key
abbrev pub as_named : {S H : Type 0} → Ghosts S H → S → List ℕ → Shows Key (List ℕ)
as_named store now text = record { view = λ key. text; owned = λ key. store.key_of now text ≡ Some key }

-- Keys that number texts in order, from 0.
use Rattle.std.specs.Prelude.{◌≡◌, ℕ, List, [], Option, None, Some, position, get_or, refl}
use Rattle.std.specs.Option.{option_map}
use Rattle.std.specs.Str.{bytes_eq as text_eq}
use Rattle.std.proofs.Common.{sym, ◌∙◌, ap}
use Rattle.std.proofs.lemmas.List.Quantifiers.{position-Some}
use Rattle.std.proofs.lemmas.Slice.Eq.{bytes_eq-Decides}
use Rattle.snap_text.specs.declared.key.Key.{Key}
use Rattle.snap_text.specs.declared.key.Key.TheVariants.{Local}

-- the key of a text is its place among the texts
abbrev pub own_key : List (List ℕ) → List ℕ → Option Key
own_key texts text = option_map Local (position (text_eq text) texts)

-- a key is that of a place
pub placed : (place : Option ℕ) (key : Key) → option_map Local place ≡ Some key → (n : ℕ) × (place ≡ Some n) × (key ≡ Local n)
placed None key e = absurd cc
placed (Some n) key e = (n, refl, cc)

-- the text of a place is the one that stands there
pub standing : (texts : List (List ℕ)) (text : List ℕ) (n : ℕ) → position (text_eq text) texts ≡ Some n → text ≡ get_or texts n []
standing texts text n e = (bytes_eq-Decides text (get_or texts n [])).0 (position-Some (text_eq text) texts n [] e).1

-- a key stands for one text
pub one_own_text : (texts : List (List ℕ)) (key : Key) (text other : List ℕ) → own_key texts text ≡ Some key → own_key texts other ≡ Some key → text ≡ other
one_own_text texts key text other e f =
    let one = placed (position (text_eq text) texts) key e in
    let two = placed (position (text_eq other) texts) key f in
    let same : one.0 ≡ two.0 = cc in
    standing texts text one.0 one.1 ∙ ap (λ (n : ℕ). get_or texts n []) same ∙ sym (standing texts other two.0 two.1)

-- The UTF-8 form of units below 256.
use Rattle.std.proofs.Common.{◌≡◌, ℕ, ◌+◌, ◌<◌, List, [], ◌∷◌, ◌++◌, length, drop, get_or, encode_utf8, refl, sym, ap, ◌∙◌, arith}
use Rattle.std.proofs.lemmas.Bool.{lt-leb}
use Rattle.std.proofs.lemmas.List.{append-nil, at_drop_more}
use Rattle.snap_text.specs.Utf8.{lone_character, utf8_of}

-- a unit below 256 is no surrogate
lone_is : (unit : ℕ) → unit < 256 → lone_character unit ≡ unit
lone_is unit small = rw (lt-leb 0xD800 unit (omega arith), lt-leb 0xDC00 unit (omega arith)) refl

-- the UTF-8 form of a text begins with that of a unit below 256
first_small : (unit : ℕ) (rest : List ℕ) → unit < 256 → utf8_of (unit ∷ rest) ≡ encode_utf8 unit ++ utf8_of rest
unfolding utf8_of
first_small unit [] small = ap encode_utf8 (lone_is unit small) ∙ sym (append-nil (encode_utf8 unit))
first_small unit (next ∷ rest) small = rw (lt-leb 0xD800 unit (omega arith), lt-leb 0xDC00 unit (omega arith)) refl

-- from each place on
pub from_small : (bytes : List ℕ) (i : ℕ) → i < length bytes → get_or bytes i 0 < 256 → utf8_of (drop i bytes) ≡ encode_utf8 (get_or bytes i 0) ++ utf8_of (drop (i + 1) bytes)
from_small bytes i within small = at_drop_more utf8_of bytes i 0 within ∙ first_small (get_or bytes i 0) (drop (i + 1) bytes) small

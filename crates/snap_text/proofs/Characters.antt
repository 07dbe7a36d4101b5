-- The characters of a text, by place.
use Rattle.std.proofs.Common.{◌≡◌, ℕ, ◌<◌, ◌≤◌, true, false, List, [], ◌∷◌, ◌++◌, length, drop, refl, sym, arith, if◌then◌else◌, encode_utf8, ◌&&◌}
use Rattle.std.proofs.lemmas.List.{append-nil}
use Rattle.snap_text.specs.Utf8.{first_character, first_width, is_lead, is_trail, lone_character, pair_character, utf8_of}

-- the UTF-8 form of a text begins with that of its first character
pub utf8_of_first : (text : List ℕ) → 0 < length text → utf8_of text ≡ encode_utf8 (first_character text) ++ utf8_of (drop (first_width text) text)
unfolding utf8_of
utf8_of_first [] h = absurd (omega arith)
utf8_of_first (unit ∷ []) h = sym (append-nil (encode_utf8 (lone_character unit)))
utf8_of_first (unit ∷ next ∷ rest) h =
    elim (is_lead unit && is_trail next) as (λ pair. (if pair then encode_utf8 (pair_character unit next) ++ utf8_of rest else encode_utf8 (lone_character unit) ++ utf8_of (next ∷ rest)) ≡ encode_utf8 (if pair then pair_character unit next else lone_character unit) ++ utf8_of (drop (if pair then 2 else 1) (unit ∷ next ∷ rest))) [ true ↦ refl | false ↦ refl ]

-- the first character of a text takes one unit at least, and no more than there are
pub first_width_within : (text : List ℕ) → 0 < length text → (0 < first_width text) × (first_width text ≤ length text)
first_width_within [] h = absurd (omega arith)
first_width_within (unit ∷ []) h = (omega arith, omega arith)
first_width_within (unit ∷ next ∷ rest) h =
    elim (is_lead unit && is_trail next) as (λ pair. (0 < (if pair then 2 else 1)) × ((if pair then 2 else 1) ≤ length (unit ∷ next ∷ rest))) [ true ↦ (omega arith, omega arith) | false ↦ (omega arith, omega arith) ]

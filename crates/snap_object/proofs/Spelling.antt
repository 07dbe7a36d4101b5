-- Texts that are words.
use Rattle.std.proofs.Common.{◌≡◌, ℕ, Bool, List, IsTrue, ◌↔◌, sym}
use Rattle.std.specs.Str.{bytes_eq as text_eq}
use Rattle.std.proofs.lemmas.Bool.Decides.{Decides-like, same_from_decides}
use Rattle.std.proofs.lemmas.Slice.Eq.{bytes_eq-Decides}

pub is_word : (result : Bool) (text word : List ℕ) → (IsTrue result ↔ (word ≡ text)) → result ≡ text_eq text word
is_word result text word h = same_from_decides result (text_eq text word) (Decides-like result sym sym (h.0, h.1)) (bytes_eq-Decides text word)

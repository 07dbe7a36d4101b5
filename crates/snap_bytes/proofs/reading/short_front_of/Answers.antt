use Rattle.std.proofs.Common.{◌≡◌, ℕ, ◌+◌, ◌-◌, ◌*◌, ◌<◌, ◌≤◌, List, [], ◌∷◌, ◌++◌, length, take, drop, get_or, refl, sym, ap, arith}
use Rattle.std.proofs.lemmas.List.{take_rest}
use Rattle.spec_format.specs.Varint.{IsVarint}
use Rattle.snap_bytes.proofs.reading.short_front_of.Goals as goal

one_byte : (bytes : List ℕ) (n : ℕ) → 1 ≤ length bytes → get_or bytes 0 0 < 128 → n ≡ get_or bytes 0 0 → (text : List ℕ) × IsVarint text n × (bytes ≡ text ++ take (length bytes - 1) (drop 1 bytes))
one_byte [] n some last is = absurd (omega arith)
one_byte (b ∷ rest) n some last is = (b ∷ [], (last, is), ap (λ t. b ∷ t) (sym (take_rest (b ∷ rest) 1)))

two_bytes : (bytes : List ℕ) (n : ℕ) → 2 ≤ length bytes → 128 ≤ get_or bytes 0 0 → get_or bytes 0 0 < 256 → 0 < get_or bytes 1 0 → get_or bytes 1 0 < 128 → n + 128 ≡ get_or bytes 0 0 + 128 * get_or bytes 1 0 → (text : List ℕ) × IsVarint text n × (bytes ≡ text ++ take (length bytes - 2) (drop 2 bytes))
two_bytes [] n two low byte more last is = absurd (omega arith)
two_bytes (b ∷ []) n two low byte more last is = absurd (omega arith)
two_bytes (b ∷ c ∷ rest) n two low byte more last is =
    (b ∷ c ∷ [], (low, byte, c, more, is, (last, refl)), ap (λ t. b ∷ c ∷ t) (sym (take_rest (b ∷ c ∷ rest) 2)))

pub returns-in-len1-up : goal.returns-in-len1-up
returns-in-len1-up c = one_byte c.args.bytes.now _ (omega arith) (omega arith) (omega arith)

pub returns-in-len2-up : goal.returns-in-len2-up
returns-in-len2-up c =
    let byte : get_or c.args.bytes.now 0 0 < 256 = omega (arith, c.type_inv.bytes 0) in
    two_bytes c.args.bytes.now _ (omega arith) (omega arith) byte (omega arith) (omega arith) (omega arith)

-- Runs of bytes of a class.
use Rattle.std.proofs.Common.{◌≡◌, ℕ, ◌<◌, Bool, true, List, [], ◌∷◌, length, get_or, arith}
use Rattle.std.specs.List.{prefix_len}

-- a run with a first byte is not empty
pub run_starts : (p : ℕ → Bool) (bytes : List ℕ) → 0 < length bytes → p (get_or bytes 0 0) ≡ true → 0 < prefix_len p bytes
run_starts p [] some first = absurd (omega arith)
run_starts p (b ∷ bytes) some first = rw first (omega arith)

-- The end of a block comment, byte by byte.
use Rattle.std.proofs.Common.{◌≡◌, ℕ, ◌+◌, ◌<◌, true, false, nat_eq, List, [], ◌∷◌, length, drop, get_or, Ok, Err, refl, arith}
use Rattle.std.specs.List.{starts_with}
use Rattle.std.proofs.lemmas.Bool.{false≢true}
use Rattle.spec_tokens.specs.Byte.{is_source}
use Rattle.spec_tokens.specs.declared.fault.LexFault.TheVariants.{BadByte, Unclosed}
use Rattle.spec_tokens.specs.Gap.{comment_end}

pub comment_end-closed : (start at : ℕ) (bytes : List ℕ) → starts_with nat_eq bytes (42 ∷ 47 ∷ []) ≡ true → comment_end start at bytes ≡ Ok (at + 2)
unfolding comment_end
comment_end-closed start at [] closed = absurd (false≢true closed)
comment_end-closed start at (b ∷ bytes) closed = rw closed refl

pub comment_end-more : (start at : ℕ) (bytes : List ℕ) → 0 < length bytes → starts_with nat_eq bytes (42 ∷ 47 ∷ []) ≡ false → is_source (get_or bytes 0 0) ≡ true → comment_end start at bytes ≡ comment_end start (at + 1) (drop 1 bytes)
unfolding comment_end
comment_end-more start at [] some closed source = absurd (omega arith)
comment_end-more start at (b ∷ bytes) some closed source = rw (closed, source) refl

pub comment_end-wrong : (start at : ℕ) (bytes : List ℕ) → 0 < length bytes → starts_with nat_eq bytes (42 ∷ 47 ∷ []) ≡ false → is_source (get_or bytes 0 0) ≡ false → comment_end start at bytes ≡ Err (BadByte at)
unfolding comment_end
comment_end-wrong start at [] some closed source = absurd (omega arith)
comment_end-wrong start at (b ∷ bytes) some closed source = rw (closed, source) refl

pub comment_end-none : (start at : ℕ) (bytes : List ℕ) → length bytes ≡ 0 → comment_end start at bytes ≡ Err (Unclosed start)
unfolding comment_end
comment_end-none start at [] none = refl
comment_end-none start at (b ∷ bytes) none = absurd (omega arith)

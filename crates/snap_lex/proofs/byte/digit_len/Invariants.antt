use Rattle.std.proofs.Common.{◌≡◌, ℕ, ◌<◌, get_or, true}
use Rattle.spec_tokens.specs.Byte.{is_digit}
use Rattle.snap_lex.proofs.byte.digit_len.Given as goal

-- each byte so far is of the class
abbrev pub invariant-loop-i : goal.invariant-loop-i
invariant-loop-i l = (k : ℕ) → k < l.i → is_digit (get_or l.bytes k 0) ≡ true

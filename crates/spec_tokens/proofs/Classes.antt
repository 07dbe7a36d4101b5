-- Classes of bytes that exclude each other.
use Rattle.std.proofs.Common.{◌≡◌, ◌==◌, ◌||◌, ℕ, true, false, eqb, refl, arith}
use Rattle.std.proofs.lemmas.Bool.Decides.{nat_tests}
use Rattle.spec_tokens.specs.Byte.{is_blank, is_digit, is_hex, is_in_line, is_line_end, is_part, is_quote, is_source, is_start}
use Rattle.spec_tokens.specs.Shape.{is_tail}

pub record IsStartByte (b : ℕ) : Type 0 where
  pub slash : eqb 47 b ≡ false
  pub blank : is_blank b ≡ false
  pub line_end : is_line_end b ≡ false

pub start_excludes : (b : ℕ) → is_start b ≡ true → IsStartByte b
unfolding is_start is_blank is_line_end
start_excludes b e = record { slash = grind (arith, nat_tests); blank = grind (arith, nat_tests); line_end = grind (arith, nat_tests) }

pub record IsDigitByte (b : ℕ) : Type 0 where
  pub slash : eqb 47 b ≡ false
  pub blank : is_blank b ≡ false
  pub line_end : is_line_end b ≡ false
  pub start : is_start b ≡ false

pub digit_excludes : (b : ℕ) → is_digit b ≡ true → IsDigitByte b
unfolding is_start is_blank is_line_end is_digit
digit_excludes b e = record { slash = grind (arith, nat_tests); blank = grind (arith, nat_tests); line_end = grind (arith, nat_tests); start = grind (arith, nat_tests) }

pub record IsQuoteByte (b : ℕ) : Type 0 where
  pub slash : eqb 47 b ≡ false
  pub blank : is_blank b ≡ false
  pub line_end : is_line_end b ≡ false
  pub start : is_start b ≡ false
  pub digit : is_digit b ≡ false

pub quote_excludes : (b : ℕ) → is_quote b ≡ true → IsQuoteByte b
unfolding is_start is_blank is_line_end is_digit is_quote
quote_excludes b e = record { slash = grind (arith, nat_tests); blank = grind (arith, nat_tests); line_end = grind (arith, nat_tests); start = grind (arith, nat_tests); digit = grind (arith, nat_tests) }

pub blank_excludes : (b : ℕ) → is_blank b ≡ true → eqb 47 b ≡ false
unfolding is_blank
blank_excludes b e = grind (arith, nat_tests)

pub record IsNoTail (b : ℕ) : Type 0 where
  pub hex : is_hex b ≡ false
  pub digit : is_digit b ≡ false
  pub mark : (b == 120 || b == 88) ≡ false

pub tail_excludes : (b : ℕ) → is_tail b ≡ false → IsNoTail b
unfolding is_start is_digit is_part is_hex
tail_excludes b e = record { hex = grind (arith, nat_tests); digit = grind (arith, nat_tests); mark = grind (arith, nat_tests) }

pub start_is_part : (b : ℕ) → is_start b ≡ true → is_part b ≡ true
unfolding is_part
start_is_part b e = rw e refl

pub record IsLineEndByte (b : ℕ) : Type 0 where
  pub backslash : b == 92 ≡ false
  pub quote : is_quote b ≡ false

pub line_end_excludes : (b : ℕ) → is_line_end b ≡ true → IsLineEndByte b
unfolding is_line_end is_quote
line_end_excludes b e = record { backslash = grind (arith, nat_tests); quote = grind (arith, nat_tests) }

pub record IsNoSourceByte (b : ℕ) : Type 0 where
  pub backslash : b == 92 ≡ false
  pub quote : is_quote b ≡ false
  pub line_end : is_line_end b ≡ false
  pub in_line : is_in_line b ≡ false
  pub star : eqb 42 b ≡ false

pub no_source_excludes : (b : ℕ) → is_source b ≡ false → IsNoSourceByte b
unfolding is_source is_in_line is_line_end is_quote
no_source_excludes b e = record { backslash = grind (arith, nat_tests); quote = grind (arith, nat_tests); line_end = grind (arith, nat_tests); in_line = grind (arith, nat_tests); star = grind (arith, nat_tests) }

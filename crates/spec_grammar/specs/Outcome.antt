-- What a reading answers: a value and the tokens behind it, or why not.
use Rattle.std.specs.Prelude.{Bool, List, Result, Ok, Err, if◌then◌else◌}
use Rattle.spec_tokens.specs.Tokens.{Lexeme}
use Rattle.spec_grammar.specs.Sign.{next, sees}
use Rattle.spec_grammar.specs.declared.sign.Sign.{Sign}

-- why a source has no tree
pub data Cause : Type 0 where
  -- the grammar has no such token there
  Syntax : Cause
  -- too many nodes stand round that place
  Nested : Cause

-- a cause, and the tokens from the one at which it shows
pub record Refusal : Type 0 where
  pub cause : Cause
  pub at : List Lexeme

abbrev pub Outcome : Type 0 → Type 0
Outcome A = Result (A × List Lexeme) Refusal

abbrev pub Parser : Type 0 → Type 0
Parser A = List Lexeme → Outcome A

abbrev pub and_then : {A B : Type 0} → Outcome A → (A → Parser B) → Outcome B
and_then (Ok found) f = f found.0 found.1
and_then (Err refusal) f = Err refusal

infixl 10 ◌>>=◌
abbrev pub ◌>>=◌ : {A B : Type 0} → Parser A → (A → Parser B) → Parser B
p >>= f = λ input. and_then (p input) f

infixl 10 ◌>>◌
abbrev pub ◌>>◌ : {A B : Type 0} → Parser A → Parser B → Parser B
p >> q = p >>= (λ _. q)

abbrev pub pure : {A : Type 0} → A → Parser A
pure a = λ input. Ok (a, input)

abbrev pub refuse : {A : Type 0} → Parser A
refuse = λ input. Err (record { cause = Syntax; at = input })

abbrev pub too_high : {A : Type 0} → Parser A
too_high = λ input. Err (record { cause = Nested; at = input })

-- something about the tokens that are left
abbrev pub ask : {A : Type 0} → (List Lexeme → A) → Parser A
ask f = λ input. Ok (f input, input)

-- takes the next token
abbrev pub skip : Parser (Unit {0})
skip = λ input. Ok (tt, next input)

-- takes the next token, which is this one
unfoldable pub expect : Sign → Parser (Unit {0})
expect sign = λ input. if sees sign input then Ok (tt, next input) else refuse input

-- goes on where the test holds
unfoldable pub check : Bool → Parser (Unit {0})
check test = λ input. if test then Ok (tt, input) else refuse input

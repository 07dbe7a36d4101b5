-- What stands behind some tokens.
use Rattle.std.specs.Prelude.{ℕ, zero, suc, List}
use Rattle.spec_tokens.specs.Tokens.{Lexeme}
use Rattle.spec_grammar.specs.Sign.{next}

-- the tokens behind so many
unfoldable pub past : ℕ → List Lexeme → List Lexeme
past zero input = input
past (suc count) input = past count (next input)

-- What the lexer says of the tokens that it answers: a number is not too large, and a text has its two quotes.
use Rattle.std.specs.Prelude.{◌≡◌, ◌≤◌, List, [], ◌∷◌, length}
use Rattle.spec_tokens.specs.Number.{largest, number_value}
use Rattle.spec_tokens.specs.Tokens.{Lexeme}
use Rattle.spec_grammar.specs.Sign.{sign_of}
use Rattle.spec_grammar.specs.declared.sign.Sign.TheVariants as s

abbrev pub IsRead : Lexeme → Type 0
IsRead lexeme =
    (sign_of lexeme.kind lexeme.text ≡ s.Number → number_value lexeme.text ≤ largest)
    × (sign_of lexeme.kind lexeme.text ≡ s.Text → 2 ≤ length lexeme.text)

abbrev pub AreRead : List Lexeme → Type 0
AreRead [] = Unit {0}
AreRead (lexeme ∷ rest) = IsRead lexeme × AreRead rest

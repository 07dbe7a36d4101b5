-- The tokens behind so many.
use Rattle.std.proofs.Common.{◌≡◌, ℕ, zero, suc, List, [], ◌∷◌, slice_get, Option, Some, None, refl, ap, ◌∙◌}
use Rattle.snap_lex.specs.View.{views}
use Rattle.snap_lex.specs.declared.lexer.Token.{Token}
use Rattle.spec_tokens.specs.Tokens.{Lexeme}
use Rattle.spec_grammar.specs.Sign.{next, start_at}
use Rattle.snap_cursor.specs.Past.{past}

pub past-none : (input : List Lexeme) → past 0 input ≡ input
unfolding past
past-none input = refl

pub past-more : (input : List Lexeme) (count : ℕ) → past (suc count) input ≡ past count (next input)
unfolding past
past-more input count = refl

past-end : (count : ℕ) → past count [] ≡ []
unfolding past next
past-end zero = refl
past-end (suc count) = past-end count

-- the place of a token that may be there
place : Option Token → ℕ
place None = 0
place (Some token) = token.at

past-place : (tokens : List Token) (count : ℕ) → start_at (past count (views tokens)) ≡ place (slice_get tokens count)
unfolding past next start_at place
past-place [] count = ap start_at (past-end count)
past-place (token ∷ tokens) zero = refl
past-place (token ∷ tokens) (suc count) = past-place tokens count

pub start_past : (tokens : List Token) (count : ℕ) (token : Token) → slice_get tokens count ≡ Some token → start_at (past count (views tokens)) ≡ token.at
unfolding place
start_past tokens count token found = past-place tokens count ∙ ap place found

pub start_end : (tokens : List Token) (count : ℕ) → slice_get tokens count ≡ None → start_at (past count (views tokens)) ≡ 0
unfolding place
start_end tokens count lacks = past-place tokens count ∙ ap place lacks

-- The parentheses at the front of an expression, one by one.
use Rattle.std.proofs.Common.{◌≡◌, suc, true, false, ◌&&◌, List, [], ◌∷◌, length, refl, arith}
use Rattle.spec_tokens.specs.Tokens.{Lexeme}
use Rattle.spec_grammar.specs.Parts.{arrow_head}
use Rattle.spec_grammar.specs.ReadExpressions.{is_no_arrow, parens_from}
use Rattle.spec_grammar.specs.Sign.{next, same_sign, sees, sign_at}
use Rattle.spec_grammar.specs.declared.sign.Sign.TheVariants as s

pub parens-none : (input : List Lexeme) → length input ≡ 0 → parens_from input ≡ 0
unfolding parens_from
parens-none [] none = refl
parens-none (lexeme ∷ rest) none = absurd (omega arith)

pub parens-stop : (input : List Lexeme) → (sees s.OpenParen input && is_no_arrow (arrow_head input)) ≡ false → parens_from input ≡ 0
unfolding parens_from
parens-stop [] stops = refl
parens-stop (lexeme ∷ rest) stops = rw stops refl

pub parens-more : (input : List Lexeme) → (sees s.OpenParen input && is_no_arrow (arrow_head input)) ≡ true → (parens_from input ≡ suc (parens_from (next input))) × (length input ≡ suc (length (next input)))
unfolding parens_from next sees sign_at same_sign
parens-more [] more = absurd cc
parens-more (lexeme ∷ rest) more = (rw more refl, refl)

pub taken : (input : List Lexeme) → sees s.OpenParen input ≡ true → length input ≡ suc (length (next input))
unfolding next sees sign_at same_sign
taken [] open_paren = absurd cc
taken (lexeme ∷ rest) open_paren = refl

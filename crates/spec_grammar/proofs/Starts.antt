-- How many parentheses a phrase begins with, and what is read behind them.
use Rattle.std.proofs.Common.{◌≡◌, ℕ, zero, suc, Bool, true, false, List, [], ◌∷◌, refl, arith, if◌then◌else◌, ◌&&◌, rules}
use Rattle.std.specs.Prelude.{Option, Some, None}
use denote.Enum.Bare.{same_true, true_same}
use Rattle.spec_tokens.specs.Tokens.{Lexeme}
use Rattle.spec_grammar.specs.Outcome.{Parser}
use Rattle.spec_grammar.specs.Parts.{ArrowHead, arrow_head}
use Rattle.spec_grammar.specs.Phrase.{Phrase}
use Rattle.spec_grammar.specs.ReadExpressions.{base, base_at, expression, expression_with, is_no_arrow, parens, parens_from, primary_at}
use Rattle.spec_grammar.specs.Sign.{next, same_sign, sees, sign_at}
use Rattle.spec_grammar.specs.contracts.sign.Sign.{the_type}
use Rattle.spec_grammar.specs.declared.sign.Sign.{Sign}
use Rattle.spec_grammar.specs.declared.sign.Sign.TheVariants as s
use Rattle.spec_grammar.specs.declared.start.Start.{Start}

-- a sign that is seen is the one that stands there
pub seen_is : (sign : Sign) (input : List Lexeme) → sees sign input ≡ true → sign_at input ≡ sign
unfolding sees same_sign
seen_is sign input e = same_true the_type (search rules) (sign_at input) sign e

pub is_seen : (sign : Sign) (input : List Lexeme) → sign_at input ≡ sign → sees sign input ≡ true
unfolding sees same_sign
is_seen sign input e = true_same the_type (sign_at input) sign e

-- another sign is not seen
pub not_seen : (sign other : Sign) (input : List Lexeme) → sign_at input ≡ sign → same_sign sign other ≡ false → sees other input ≡ false
unfolding sees
not_seen sign other input e d = rw e d

pub no_parens : (sign : Sign) (input : List Lexeme) → sign_at input ≡ sign → same_sign sign s.OpenParen ≡ false → parens input ≡ 0
unfolding parens
no_parens sign input e d = rw (not_seen sign s.OpenParen input e d) refl

pub some_parens : (input : List Lexeme) → sign_at input ≡ s.OpenParen → parens input ≡ suc (parens_from (next input))
unfolding parens
some_parens input e = rw (is_seen s.OpenParen input e) refl

pub base_is_primary : (below : Start → Parser Phrase) (room count : ℕ) (input : List Lexeme) → sees s.New input ≡ false → base_at below room count input ≡ primary_at below room count input
unfolding base_at base
base_is_primary below room zero input n = rw n refl
base_is_primary below room (suc count) input n = refl

parens_by : (opened no_arrow : Bool) (count : ℕ) → no_arrow ≡ true → (if opened && no_arrow then suc count else 0) ≡ (if opened then suc count else 0)
parens_by true no_arrow count e = rw e refl
parens_by false no_arrow count e = refl

pub same_parens : (input : List Lexeme) → arrow_head input ≡ None → parens_from input ≡ parens input
unfolding parens_from parens next sees same_sign sign_at
same_parens [] e = refl
same_parens (lexeme ∷ rest) e =
    let no_arrow : is_no_arrow (arrow_head (lexeme ∷ rest)) ≡ true = rw e refl in
    parens_by (sees s.OpenParen (lexeme ∷ rest)) (is_no_arrow (arrow_head (lexeme ∷ rest))) (parens_from rest) no_arrow

start_by : (below : Start → Parser Phrase) (room : ℕ) (input : List Lexeme) (head : Option ArrowHead) → arrow_head input ≡ head → expression_with below room (base_at below room (parens_from input)) input ≡ expression_with below room (base_at below room (parens input)) input
unfolding expression_with
start_by below room input (Some head) e = rw e refl
start_by below room input None e = rw (same_parens input e) refl

-- an expression reads the parentheses that it begins with, also those of an operand
pub same_start : (below : Start → Parser Phrase) (room : ℕ) (input : List Lexeme) → expression_with below room (base_at below room (parens_from input)) input ≡ expression below room input
unfolding expression
same_start below room input = start_by below room input (arrow_head input) refl

open_by : (opened : Bool) (behind count : ℕ) → suc count ≡ (if opened then suc behind else 0) → (opened ≡ true) × (count ≡ behind)
open_by true behind count e = (refl, omega (arith, e))
open_by false behind count e = absurd (omega (arith, e))

-- a parenthesis that is counted stands there
pub parens_open : (count : ℕ) (input : List Lexeme) → suc count ≡ parens input → (sees s.OpenParen input ≡ true) × (count ≡ parens_from (next input))
unfolding parens
parens_open count input e = open_by (sees s.OpenParen input) (parens_from (next input)) count e

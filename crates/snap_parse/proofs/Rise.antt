-- Parentheses at the front of an expression: those that are counted are closed from the inside out.
use Rattle.std.proofs.Common.{◌≡◌, ℕ, zero, suc, ◌-◌, ◌<◌, Bool, true, false, ◌&&◌, List, Option, Some, None, Ok, Err, refl, sym, ap, arith, rules}
use denote.Enum.Bare.{same_true}
use Rattle.spec_tokens.specs.Tokens.{Lexeme}
use Rattle.spec_grammar.specs.Operators.{lead_of}
use Rattle.spec_grammar.specs.Outcome.{Outcome, Parser, and_then}
use Rattle.spec_grammar.specs.Parts.{ArrowHead, arrow_head}
use Rattle.spec_grammar.specs.Phrase.{Phrase}
use Rattle.spec_grammar.specs.ReadExpressions.{call_with, base, base_at, climb, expression_with, is_no_arrow, operand, operand_with, parens, parens_from, parenthesized, postfix, sequel, tail, unary_with}
use Rattle.spec_grammar.specs.Sign.{next, same_sign, sees, sign_at, start_at}
use Rattle.spec_grammar.specs.contracts.sign.Sign.{the_type}
use Rattle.spec_grammar.specs.declared.sign.Sign.{Sign}
use Rattle.spec_grammar.specs.declared.sign.Sign.TheVariants as s
use Rattle.spec_grammar.specs.declared.start.Start.{Start}
use Rattle.snap_cursor.specs.Past.{past}
use Rattle.snap_parse.specs.Groups.{closing, finished}
use Rattle.snap_cursor.proofs.Opening.{parens-more, parens-stop}

is_sign : (sign : Sign) (input : List Lexeme) → sees sign input ≡ true → sign_at input ≡ sign
unfolding sees same_sign
is_sign sign input seen = same_true the_type (search rules) _ _ seen

is_none : (head : Option ArrowHead) → is_no_arrow head ≡ true → head ≡ None
is_none None lacks = refl
is_none (Some head) lacks = absurd cc

both : (a b : Bool) → (a && b) ≡ true → (a ≡ true) × (b ≡ true)
both true b holds = (refl, holds)
both false b holds = absurd cc

-- what it takes that more parentheses are counted
record Inside (input : List Lexeme) (count : ℕ) : Type 0 where
  opens : sees s.OpenParen input ≡ true
  lacks : is_no_arrow (arrow_head input) ≡ true
  rest : parens_from (next input) ≡ count

inside_by : (test : Bool) (input : List Lexeme) (count : ℕ) → (sees s.OpenParen input && is_no_arrow (arrow_head input)) ≡ test → parens_from input ≡ suc count → Inside input count
inside_by true input count holds counted =
    let more = parens-more input holds in
    let rest : parens_from (next input) ≡ count = omega (arith, counted, more.0) in
    let split = both (sees s.OpenParen input) (is_no_arrow (arrow_head input)) holds in
    record { opens = split.0; lacks = split.1; rest = rest }
inside_by false input count fails counted = let none = parens-stop input fails in absurd (omega (arith, counted, none))

pushed : (outcome : Outcome Phrase) (f g h c : Phrase → Parser Phrase) → ((phrase : Phrase) (rest : List Lexeme) → f phrase rest ≡ and_then (and_then (g phrase rest) h) c) → and_then outcome f ≡ and_then (and_then (and_then outcome g) h) c
pushed (Ok found) f g h c each = each found.0 found.1
pushed (Err refusal) f g h c each = refl

called : (outcome : Outcome Phrase) (f g : Phrase → Parser Phrase) → and_then (and_then outcome f) g ≡ and_then outcome (λ left input. and_then (f left input) g)
called (Ok found) f g = refl
called (Err refusal) f g = refl

module _ (below : Start → Parser Phrase) (room : ℕ) where
  -- what the phrase in so many parentheses, and one, becomes as they are closed
  unfoldable pub rise : List Lexeme → ℕ → Phrase → Parser Phrase
  rise opened zero inner = closing (start_at opened) inner
  rise opened (suc count) inner = λ input. and_then (and_then (closing (start_at (past (suc count) opened)) inner input) (finished below room)) (rise opened count)

  pub rise-last : (opened : List Lexeme) (count : ℕ) (inner : Phrase) (input : List Lexeme) → count ≡ 0 → rise opened count inner input ≡ closing (start_at opened) inner input
  unfolding rise
  rise-last opened count inner input none = ap (λ n. rise opened n inner input) none

  pub rise-more : (opened : List Lexeme) (count left : ℕ) (inner : Phrase) (input : List Lexeme) → count ≡ suc left → rise opened count inner input ≡ and_then (and_then (closing (start_at (past count opened)) inner input) (finished below room)) (rise opened left)
  unfolding rise
  rise-more opened count left inner input more = rw more refl

  rise-outer : (opened : List Lexeme) (count : ℕ) (inner : Phrase) (input : List Lexeme) → rise opened (suc count) inner input ≡ and_then (and_then (rise (next opened) count inner input) (finished below room)) (closing (start_at opened))
  unfolding rise past
  rise-outer opened zero inner input = refl
  rise-outer opened (suc count) inner input =
      pushed (and_then (closing (start_at (past (suc (suc count)) opened)) inner input) (finished below room)) (rise opened (suc count)) (rise (next opened) count) (finished below room) (closing (start_at opened)) (rise-outer opened count)

  regrouped : (outcome : Outcome Phrase) → and_then (and_then (and_then (and_then outcome (tail below room true)) (postfix below room)) (climb below room 10)) (sequel below room) ≡ and_then outcome (finished below room)
  unfolding finished
  regrouped (Ok found) = refl
  regrouped (Err refusal) = refl

  opens-expression : (first : Parser Phrase) (input : List Lexeme) → sees s.OpenParen input ≡ true → is_no_arrow (arrow_head input) ≡ true → expression_with below room first input ≡ and_then (first input) (finished below room)
  unfolding expression_with operand_with unary_with call_with lead_of
  opens-expression first input opens lacks =
      rw (is_none (arrow_head input) lacks, is_sign s.OpenParen input opens) (regrouped (first input))

  descend : (count : ℕ) (input : List Lexeme) → parens_from (next input) ≡ count → base_at below room (suc count) input ≡ and_then (expression_with below room (base below room) (past (suc count) input)) (rise input count)
  unfolding base_at parenthesized closing rise past
  descend zero input counted = refl
  descend (suc count) input counted =
      let inside = inside_by (sees s.OpenParen (next input) && is_no_arrow (arrow_head (next input))) (next input) count refl counted in
      rw (opens-expression (base_at below room (suc count)) (next input) inside.opens inside.lacks, descend count (next input) inside.rest)
      (sym (pushed (expression_with below room (base below room) (past (suc (suc count)) input)) (rise input (suc count)) (rise (next input) count) (finished below room) (closing (start_at input)) (rise-outer input count)))

  group_by : (opens : Bool) (count : ℕ) (input : List Lexeme) → sees s.OpenParen input ≡ opens → 0 < count → count ≡ parens input → base_at below room count input ≡ and_then (expression_with below room (base below room) (past count input)) (rise input (count - 1))
  unfolding parens
  group_by true count input opens some counted =
      let one : count ≡ suc (parens_from (next input)) = rw opens at counted in
      let less : count - 1 ≡ parens_from (next input) = omega (arith, one) in
      rw (less, one) (descend (parens_from (next input)) input refl)
  group_by false count input opens some counted = let none : count ≡ 0 = rw opens at counted in absurd (omega (arith, none, some))

  pub group-is : (count : ℕ) (input : List Lexeme) → 0 < count → count ≡ parens input → base_at below room count input ≡ and_then (expression_with below room (base below room) (past count input)) (rise input (count - 1))
  group-is count input some counted = group_by (sees s.OpenParen input) count input refl some counted

  opened_by : (opens : Bool) (count : ℕ) (input : List Lexeme) → sees s.OpenParen input ≡ opens → 0 < count → count ≡ parens input → sees s.OpenParen input ≡ true
  unfolding parens
  opened_by true count input opens some counted = opens
  opened_by false count input opens some counted = let none : count ≡ 0 = rw opens at counted in absurd (omega (arith, none, some))

  -- an operand that begins with a parenthesis
  pub operand-is : (count level : ℕ) (input : List Lexeme) → 0 < count → count ≡ parens input → operand below room level input ≡ and_then (and_then (base_at below room count input) (λ left rest. and_then (tail below room true left rest) (postfix below room))) (climb below room level)
  unfolding operand operand_with unary_with call_with lead_of
  operand-is count level input some counted =
      rw (is_sign s.OpenParen input (opened_by (sees s.OpenParen input) count input refl some counted), counted)
      (ap (λ (o : Outcome Phrase). and_then o (climb below room level)) (called (base_at below room (parens input) input) (tail below room true) (postfix below room)))

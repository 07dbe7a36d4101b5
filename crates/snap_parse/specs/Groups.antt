-- What becomes of a phrase in parentheses inside others.
use Rattle.std.specs.Prelude.{ℕ, true}
use Rattle.spec_grammar.specs.Outcome.{Parser, and_then, expect, pure}
use Rattle.spec_grammar.specs.Phrase.{Phrase, wrapped}
use Rattle.spec_grammar.specs.ReadExpressions.{climb, postfix, sequel, tail}
use Rattle.spec_grammar.specs.declared.sign.Sign.TheVariants as s
use Rattle.spec_grammar.specs.declared.start.Start.{Start}

-- the closing parenthesis, and the phrase in the two, the first of which stands at a place
unfoldable pub closing : ℕ → Phrase → Parser Phrase
closing at inner = λ input. and_then (expect s.CloseParen input) (λ _. pure (wrapped at inner))

module _ (below : Start → Parser Phrase) (room : ℕ) where
  -- an expression that begins with a base, behind it
  unfoldable pub finished : Phrase → Parser Phrase
  finished left = λ input. and_then (and_then (and_then (tail below room true left input) (postfix below room)) (climb below room 10)) (sequel below room)

-- Phrases, read with so many levels of nodes at most, and scripts.
use Rattle.std.specs.Prelude.{ℕ, zero, suc, List, [], ◌∷◌, length, Ok}
use Rattle.spec_tokens.specs.Tokens.{Lexeme}
use Rattle.snap_ast.specs.Lawful.{most_levels}
use Rattle.spec_grammar.specs.Outcome.{Outcome, Parser, and_then, refuse, too_high}
use Rattle.spec_grammar.specs.Phrase.{Phrase, Row, nothing, row_on, with_child}
use Rattle.spec_grammar.specs.ReadExpressions.{expression, member, operand}
use Rattle.spec_grammar.specs.ReadLists.{block}
use Rattle.spec_grammar.specs.ReadStatements.{statement}
use Rattle.spec_grammar.specs.declared.start.Start.{Start}
use Rattle.spec_grammar.specs.declared.start.Start.TheVariants as start

-- a phrase, where the parser reads those below its node, of which the height is the number at most
abbrev pub phrase_by : (Start → Parser Phrase) → ℕ → Start → Parser Phrase
phrase_by below room start.Statement = statement below
phrase_by below room start.Block = block below
phrase_by below room start.Expression = expression below room
phrase_by below room (start.Operand level) = operand below room level
phrase_by below room start.Member = member below room

-- a phrase that has so many levels at most
unfoldable pub phrase : ℕ → Start → Parser Phrase
phrase zero start = too_high
phrase (suc levels) start = phrase_by (phrase levels) levels start

-- the statements of a script, behind those that a row has
unfoldable pub script_from : ℕ → Row ℕ → List Lexeme → Outcome (Row ℕ)
script_from turns row [] = Ok (row, [])
script_from zero row (lexeme ∷ rest) = refuse (lexeme ∷ rest)
script_from (suc turns) row (lexeme ∷ rest) =
    and_then (phrase most_levels start.Statement (lexeme ∷ rest)) (λ statement. script_from turns (with_child row statement))

unfoldable pub script : List Lexeme → Outcome (Row ℕ)
script lexemes = script_from (length lexemes) (row_on nothing) lexemes

-- The parts of productions that hold no phrase: names, the head of an arrow or a loop, the end of a statement.
use Rattle.std.specs.Prelude.{Bool, true, false, not, ◌&&◌, ◌||◌, List, [], ◌∷◌, ◌++◌, Option, Some, None, Ok, Err, codes, if◌then◌else◌}
use Rattle.std.specs.Str.{bytes_eq}
use Rattle.spec_tokens.specs.Number.{number_value}
use Rattle.spec_tokens.specs.Text.{text_units}
use Rattle.spec_tokens.specs.Tokens.{Lexeme}
use Rattle.snap_ast.specs.declared.operator.UpdateOperator.{UpdateOperator}
use Rattle.snap_ast.specs.declared.part.Named.{Named}
use Rattle.snap_ast.specs.declared.part.PropertyKey.{PropertyKey}
use Rattle.snap_ast.specs.declared.part.PropertyKey.TheVariants as key
use Rattle.spec_grammar.specs.Operators.{Tail, Dot, Bracket, Arguments, NoTail, tail_of, update_of}
use Rattle.spec_grammar.specs.Outcome.{Outcome, Parser, refuse}
use Rattle.spec_grammar.specs.Sign.{is_word_at, newline_at, next, sees, sign_at, start_at, text_at}
use Rattle.spec_grammar.specs.declared.sign.Sign.{Sign}
use Rattle.spec_grammar.specs.declared.sign.Sign.TheVariants as s

-- ---- names

-- the next token as a name
unfoldable pub named_at : List Lexeme → Named
named_at input = record { name = text_at input; at = start_at input }

abbrev pub is_some : List Named → Bool
is_some [] = false
is_some (named ∷ names) = true

-- Names with commas between, up to a closing sign, behind those found. The first flag says that a name was just
-- read, so that a comma or the end follows; the second that there may be none.
unfoldable pub names_from : Sign → Bool → Bool → List Named → Parser (List Named)
names_from close may_lack is_behind found [] = refuse []
names_from close may_lack true found (lexeme ∷ rest) =
    if sees close (lexeme ∷ rest) then Ok (found, rest)
    else (if sees s.Comma (lexeme ∷ rest) then names_from close may_lack false found rest else refuse (lexeme ∷ rest))
names_from close may_lack false found (lexeme ∷ rest) =
    if sees s.Name (lexeme ∷ rest) then names_from close may_lack true (found ++ named_at (lexeme ∷ rest) ∷ []) rest
    else (if sees close (lexeme ∷ rest) && (may_lack || is_some found) then Ok (found, rest) else refuse (lexeme ∷ rest))

-- List(Name) and the closing parenthesis, behind the opening one
unfoldable pub parameters : Parser (List Named)
parameters = names_from s.CloseParen true false []

-- Name (, Name)* [,] and the closing brace, behind the opening one
unfoldable pub pattern : Parser (List Named)
pattern = names_from s.CloseCurly false false []

-- ---- heads

-- the parameters of an arrow, and what stands behind its =>
pub record ArrowHead : Type 0 where
  pub names : List Named
  pub behind : List Lexeme

-- => with no line end before it
unfoldable pub behind_arrow : List Named → List Lexeme → Option ArrowHead
behind_arrow names input = if sees s.Arrow input && not (newline_at input) then Some (record { names = names; behind = next input }) else None

abbrev pub arrow_of : Outcome (List Named) → Option ArrowHead
arrow_of (Ok found) = behind_arrow found.0 found.1
arrow_of (Err refusal) = None

-- the head of an arrow that stands next
unfoldable pub arrow_head : List Lexeme → Option ArrowHead
arrow_head input =
    if sees s.Name input then behind_arrow (named_at input ∷ []) (next input)
    else (if sees s.OpenParen input then arrow_of (parameters (next input)) else None)

-- whether a for..of declares a constant, the name that it declares, and what stands behind its of
pub record OfHead : Type 0 where
  pub is_constant : Bool
  pub named : Named
  pub behind : List Lexeme

-- the next token is the name of
unfoldable pub is_of : List Lexeme → Bool
is_of input = sees s.Name input && bytes_eq (text_at input) (codes "of")

-- (let | const) Name of
unfoldable pub of_head : List Lexeme → Option OfHead
of_head input =
    if (sees s.Let input || sees s.Const input) && sees s.Name (next input) && is_of (next (next input))
    then Some (record { is_constant = sees s.Const input; named = named_at (next input); behind = next (next (next input)) })
    else None

-- ---- the end of a statement

-- a statement may end here without a semicolon
unfoldable pub ends_line : List Lexeme → Bool
ends_line input = newline_at input || sees s.CloseCurly input

-- The semicolon at the end of a statement, which is inserted before a line end, a } and the end of the source.
unfoldable pub semicolon : Parser (Unit {0})
semicolon input = if sees s.Semicolon input then Ok (tt, next input) else (if ends_line input then Ok (tt, input) else refuse input)

-- nothing that belongs to a return stands here
unfoldable pub is_over : List Lexeme → Bool
is_over input = sees s.Semicolon input || ends_line input

-- ---- single tokens

-- ++ or -- with no line end before it
unfoldable pub postfix_at : List Lexeme → Option UpdateOperator
postfix_at input = if newline_at input then None else update_of (sign_at input)

abbrev pub is_tail : Tail → Bool
is_tail NoTail = false
is_tail Dot = true
is_tail Bracket = true
is_tail Arguments = true

abbrev pub is_update : Option UpdateOperator → Bool
is_update None = false
is_update (Some operator) = true

-- a name that is a whole Unary
unfoldable pub is_lone_name : List Lexeme → Bool
is_lone_name input = sees s.Name input && not (is_tail (tail_of true (sign_at (next input)))) && not (is_update (postfix_at (next input)))

abbrev pub key_by : Sign → List Lexeme → Option PropertyKey
key_by s.Text input = Some (key.Text (text_units (text_at input)))
key_by s.Number input = Some (key.Number (number_value (text_at input)))
key_by sign input = if is_word_at input then Some (key.Word (text_at input)) else None

-- a key of a property that is not computed
unfoldable pub key_at : List Lexeme → Option PropertyKey
key_at input = key_by (sign_at input) input

-- Lists, read by what reads the phrases in them. A number bounds their turns: each takes a token at least, so that the
-- count of the tokens is enough.
use Rattle.std.specs.Prelude.{ℕ, zero, suc, List, length, if◌then◌else◌}
use Rattle.snap_ast.specs.declared.part.Named.{Named}
use Rattle.spec_grammar.specs.Nodes as node
use Rattle.spec_grammar.specs.Outcome.{Parser, ◌>>=◌, ◌>>◌, ask, expect, pure, refuse, skip}
use Rattle.spec_grammar.specs.Parts.{parameters}
use Rattle.spec_grammar.specs.Phrase.{Phrase, Row, nothing, row_on, with_child}
use Rattle.spec_grammar.specs.Sign.{sees, start_at}
use Rattle.spec_grammar.specs.declared.sign.Sign.{Sign}
use Rattle.spec_grammar.specs.declared.sign.Sign.TheVariants as s
use Rattle.spec_grammar.specs.declared.start.Start.{Start}
use Rattle.spec_grammar.specs.declared.start.Start.TheVariants.{Statement, Expression}

module _ (below : Start → Parser Phrase) where
  -- List(Expr) [,] and the closing sign, behind the expressions that a row has
  unfoldable pub list_from : Sign → ℕ → Row ℕ → Parser (Row ℕ)
  list_from close zero row = refuse
  list_from close (suc n) row = do
    is_end ← ask (sees close)
    if is_end then skip >> pure row else (do
      item ← below Expression
      is_more ← ask (sees s.Comma)
      if is_more then skip >> list_from close n (with_child row item) else (do expect close; pure (with_child row item)))

  unfoldable pub list : Sign → Row ℕ → Parser (Row ℕ)
  list close row = λ input. list_from close (length input) row input

  -- Statement* and the closing brace, behind the statements that a row has
  unfoldable pub body_from : ℕ → Row ℕ → Parser (Row ℕ)
  body_from zero row = refuse
  body_from (suc n) row = do
    is_end ← ask (sees s.CloseCurly)
    if is_end then skip >> pure row else (do statement ← below Statement; body_from n (with_child row statement))

  unfoldable pub body : Parser (Row ℕ)
  body = λ input. body_from (length input) (row_on nothing) input

  unfoldable pub block : Parser Phrase
  block = do
    at ← ask start_at
    expect s.OpenCurly
    found ← body
    pure (node.block_node at found)

  -- ( List(Name) ) { Statement* }
  unfoldable pub function : Parser (List Named × Row ℕ)
  function = do
    expect s.OpenParen
    names ← parameters
    expect s.OpenCurly
    found ← body
    pure (names, found)

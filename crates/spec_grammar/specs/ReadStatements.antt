-- Statements, read by what reads the phrases below their nodes.
use Rattle.std.specs.Prelude.{ℕ, zero, suc, Bool, not, length, Option, Some, None, if◌then◌else◌}
use Rattle.snap_ast.specs.declared.form.Form.{Form}
use Rattle.snap_ast.specs.declared.form.Form.TheVariants as f
use Rattle.snap_ast.specs.declared.part.Binding.{Binding}
use Rattle.snap_ast.specs.declared.part.ConstBinding.{ConstBinding}
use Rattle.snap_ast.specs.declared.part.Named.{Named}
use Rattle.spec_grammar.specs.Nodes as node
use Rattle.spec_grammar.specs.Operators.{begins_declaration}
use Rattle.spec_grammar.specs.Outcome.{Parser, ◌>>=◌, ◌>>◌, ask, check, expect, pure, refuse, skip}
use Rattle.spec_grammar.specs.Parts.{OfHead, of_head, is_over, named_at, pattern, semicolon}
use Rattle.spec_grammar.specs.Phrase.{Phrase, Below, nothing, ◌▸◌, under, Row, row_on, Optional, absent, present}
use Rattle.spec_grammar.specs.ReadLists.{block, function}
use Rattle.spec_grammar.specs.Sign.{newline_at, next, sees, sign_at, start_at}
use Rattle.spec_grammar.specs.declared.sign.Sign.{Sign}
use Rattle.spec_grammar.specs.declared.sign.Sign.TheVariants as s
use Rattle.spec_grammar.specs.declared.start.Start.{Start}
use Rattle.spec_grammar.specs.declared.start.Start.TheVariants.{Statement, Block, Expression}

-- the name that stands next
unfoldable pub name : Parser Named
name = do
  named ← ask named_at
  expect s.Name
  pure named

module _ (below : Start → Parser Phrase) where
  -- ---- declarations

  unfoldable pub binding : Row Binding → Parser (Row Binding)
  binding row = do
    named ← name
    has_value ← ask (sees s.Assign)
    if has_value then (do skip; value ← below Expression; pure (node.with_value row named value)) else pure (node.with_name row named)

  -- Binding (, Binding)*, behind the bindings that a row has
  unfoldable pub bindings_from : ℕ → Row Binding → Parser (Row Binding)
  bindings_from zero row = refuse
  bindings_from (suc n) row = do
    longer ← binding row
    is_more ← ask (sees s.Comma)
    if is_more then skip >> bindings_from n longer else pure longer

  unfoldable pub bindings : Parser (Row Binding)
  bindings = λ input. bindings_from (length input) (row_on nothing) input

  unfoldable pub constant : Row ConstBinding → Parser (Row ConstBinding)
  constant row = do
    named ← name
    expect s.Assign
    value ← below Expression
    pure (node.with_constant row named value)

  unfoldable pub destructured : Row ConstBinding → Parser (Row ConstBinding)
  destructured row = do
    skip
    names ← pattern
    expect s.Assign
    value ← below Expression
    pure (node.with_pattern row names value)

  unfoldable pub const_binding : Row ConstBinding → Parser (Row ConstBinding)
  const_binding row = do
    is_pattern ← ask (sees s.OpenCurly)
    if is_pattern then destructured row else constant row

  -- ConstBinding (, ConstBinding)*, behind the bindings that a row has
  unfoldable pub const_bindings_from : ℕ → Row ConstBinding → Parser (Row ConstBinding)
  const_bindings_from zero row = refuse
  const_bindings_from (suc n) row = do
    longer ← const_binding row
    is_more ← ask (sees s.Comma)
    if is_more then skip >> const_bindings_from n longer else pure longer

  unfoldable pub const_bindings : Parser (Row ConstBinding)
  const_bindings = λ input. const_bindings_from (length input) (row_on nothing) input

  -- each behind its first token, which stands at a place

  unfoldable pub let_statement : ℕ → Parser Phrase
  let_statement at = do
    found ← bindings
    semicolon
    pure (node.let_node at found)

  unfoldable pub const_statement : ℕ → Parser Phrase
  const_statement at = do
    found ← const_bindings
    semicolon
    pure (node.const_node at found)

  unfoldable pub function_statement : ℕ → Parser Phrase
  function_statement at = do
    named ← name
    found ← function below
    pure (node.function_node at named found.0 found.1)

  -- ---- branches and loops

  -- ( Expr )
  unfoldable pub condition : Parser Phrase
  condition = do
    expect s.OpenParen
    value ← below Expression
    expect s.CloseParen
    pure value

  -- a Statement that is no let, const or function
  unfoldable pub branch : Parser Phrase
  branch = do
    is_declaration ← ask (λ input. begins_declaration (sign_at input))
    check (not is_declaration)
    below Statement

  unfoldable pub if_statement : ℕ → Parser Phrase
  if_statement at = do
    test ← condition
    chosen ← branch
    has_else ← ask (sees s.Else)
    if has_else then (do skip; otherwise ← branch; pure (node.if_else_node at test chosen otherwise)) else pure (node.if_node at test chosen)

  unfoldable pub while_statement : ℕ → Parser Phrase
  while_statement at = do
    test ← condition
    body ← branch
    pure (node.while_node at test body)

  -- [Expr] and the closing sign
  unfoldable pub optional : Sign → Below → Parser Optional
  optional close before = do
    is_absent ← ask (sees close)
    if is_absent then skip >> pure (absent before) else (do
      value ← below Expression
      expect close
      pure (present before value))

  unfoldable pub for_of : ℕ → OfHead → Parser Phrase
  for_of at head = do
    values ← below Expression
    expect s.CloseParen
    body ← branch
    pure (node.for_of_node at head.is_constant head.named values body)

  unfoldable pub for_let : ℕ → Parser Phrase
  for_let at = do
    skip
    found ← bindings
    expect s.Semicolon
    test ← optional s.Semicolon found.below
    update ← optional s.CloseParen test.below
    body ← branch
    pure (node.for_let_node at found test update body)

  unfoldable pub for_plain : ℕ → Parser Phrase
  for_plain at = do
    start ← optional s.Semicolon nothing
    test ← optional s.Semicolon start.below
    update ← optional s.CloseParen test.below
    body ← branch
    pure (node.for_node at start test update body)

  abbrev pub for_by : ℕ → Bool → Option OfHead → Parser Phrase
  for_by at is_let (Some head) = λ input. for_of at head head.behind
  for_by at is_let None = if is_let then for_let at else for_plain at

  -- behind the opening parenthesis
  unfoldable pub for_head : ℕ → Parser Phrase
  for_head at = do
    head ← ask of_head
    is_let ← ask (sees s.Let)
    for_by at is_let head

  unfoldable pub for_statement : ℕ → Parser Phrase
  for_statement at = do
    expect s.OpenParen
    for_head at

  -- ---- jumps

  unfoldable pub jump : ℕ → Form → Parser Phrase
  jump at form = do
    semicolon
    pure (node.leaf at form)

  unfoldable pub return_statement : ℕ → Parser Phrase
  return_statement at = do
    is_alone ← ask is_over
    if is_alone then (do semicolon; pure (node.return_node at (absent nothing))) else (do
      value ← below Expression
      semicolon
      pure (node.return_node at (present nothing value)))

  unfoldable pub throw_statement : ℕ → Parser Phrase
  throw_statement at = do
    is_cut ← ask newline_at
    check (not is_cut)
    value ← below Expression
    semicolon
    pure (node.throw_node at value)

  -- ---- try

  -- [finally Block]
  unfoldable pub finalizer : Below → Parser Optional
  finalizer before = do
    has_one ← ask (sees s.Finally)
    if has_one then (do skip; found ← below Block; pure (present before found)) else pure (absent before)

  unfoldable pub catch : ℕ → Phrase → Parser Phrase
  catch at tried = do
    handler ← below Block
    last ← finalizer (under tried ▸ handler)
    pure (node.try_catch_node at tried handler last)

  unfoldable pub catch_name : ℕ → Phrase → Parser Phrase
  catch_name at tried = do
    skip
    named ← name
    expect s.CloseParen
    handler ← below Block
    last ← finalizer (under tried ▸ handler)
    pure (node.try_catch_name_node at tried named handler last)

  unfoldable pub finally : ℕ → Phrase → Parser Phrase
  finally at tried = do
    expect s.Finally
    last ← below Block
    pure (node.try_finally_node at tried last)

  unfoldable pub handled : ℕ → Phrase → Parser Phrase
  handled at tried = do
    is_catch ← ask (sees s.Catch)
    has_name ← ask (λ input. sees s.OpenParen (next input))
    if is_catch then (do skip; if has_name then catch_name at tried else catch at tried) else finally at tried

  unfoldable pub try_statement : ℕ → Parser Phrase
  try_statement at = do
    tried ← below Block
    handled at tried

  -- ---- all statements

  unfoldable pub expression_statement : Parser Phrase
  expression_statement = do
    value ← below Expression
    semicolon
    pure (node.expression_node value)

  -- by its first token
  unfoldable pub statement_by : Sign → ℕ → Parser Phrase
  statement_by s.Let at = skip >> let_statement at
  statement_by s.Const at = skip >> const_statement at
  statement_by s.Function at = skip >> function_statement at
  statement_by s.OpenCurly at = block below
  statement_by s.Semicolon at = skip >> pure (node.leaf at f.Empty)
  statement_by s.If at = skip >> if_statement at
  statement_by s.While at = skip >> while_statement at
  statement_by s.For at = skip >> for_statement at
  statement_by s.Break at = skip >> jump at f.Break
  statement_by s.Continue at = skip >> jump at f.Continue
  statement_by s.Return at = skip >> return_statement at
  statement_by s.Throw at = skip >> throw_statement at
  statement_by s.Try at = skip >> try_statement at
  statement_by sign at = expression_statement

  unfoldable pub statement : Parser Phrase
  statement = do
    sign ← ask sign_at
    at ← ask start_at
    statement_by sign at

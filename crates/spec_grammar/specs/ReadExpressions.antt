-- Expressions, read by what reads the phrases below their nodes. Directly nested parentheses are counted first.
use Rattle.std.specs.Prelude.{ℕ, zero, suc, Bool, true, false, not, ◌&&◌, List, [], ◌∷◌, length, nat_le, Option, Some, None, Ok, if◌then◌else◌}
use Rattle.spec_tokens.specs.Tokens.{Lexeme}
use Rattle.snap_ast.specs.declared.form.Form.TheVariants as f
use Rattle.snap_ast.specs.declared.operator.BinaryOperator.{BinaryOperator}
use Rattle.snap_ast.specs.declared.operator.UpdateOperator.{UpdateOperator}
use Rattle.snap_ast.specs.declared.part.Named.{Named}
use Rattle.snap_ast.specs.declared.part.Property.{Property}
use Rattle.snap_ast.specs.declared.part.PropertyKey.{PropertyKey}
use Rattle.spec_grammar.specs.Nodes as node
use Rattle.spec_grammar.specs.Operators.{Lead, BeforeTarget, BeforeUnary, NoLead, lead_of, Sequel, Assignment, Choice, NoSequel, sequel_of, Tail, Arguments, Bracket, Dot, NoTail, tail_of, operator_at}
use Rattle.spec_grammar.specs.Outcome.{Parser, ◌>>=◌, ◌>>◌, ask, check, expect, pure, refuse, skip, too_high}
use Rattle.spec_grammar.specs.Parts.{ArrowHead, arrow_head, is_lone_name, is_tail, key_at, named_at, postfix_at}
use Rattle.spec_grammar.specs.Phrase.{Phrase, Row, nothing, under, row_on, wrapped}
use Rattle.spec_grammar.specs.ReadLists.{list, body, function}
use Rattle.spec_grammar.specs.Sign.{is_word_at, next, sees, sign_at, start_at, text_at}
use Rattle.spec_grammar.specs.declared.sign.Sign.{Sign}
use Rattle.spec_grammar.specs.declared.sign.Sign.TheVariants as s
use Rattle.spec_grammar.specs.declared.start.Start.{Start}
use Rattle.spec_grammar.specs.declared.start.Start.TheVariants.{Expression, Operand, Member}

-- no arrow begins there
abbrev pub is_no_arrow : Option ArrowHead → Bool
is_no_arrow None = true
is_no_arrow (Some head) = false

-- how many parentheses an expression begins with
unfoldable pub parens_from : List Lexeme → ℕ
parens_from [] = 0
parens_from (lexeme ∷ rest) = if sees s.OpenParen (lexeme ∷ rest) && is_no_arrow (arrow_head (lexeme ∷ rest)) then suc (parens_from rest) else 0

-- how many parentheses an operand begins with, which is no arrow
unfoldable pub parens : List Lexeme → ℕ
parens input = if sees s.OpenParen input then suc (parens_from (next input)) else 0

-- the word that stands next
unfoldable pub word : Parser (List ℕ)
word = do
  is_word ← ask is_word_at
  check is_word
  text ← ask text_at
  skip
  pure text

-- The nodes below those that are made may be so high as the number says.
module _ (below : Start → Parser Phrase) (room : ℕ) where
  -- the phrase may stand below a node
  unfoldable pub fits : Phrase → Parser (Unit {0})
  fits phrase = λ input. if nat_le phrase.height room then Ok (tt, input) else too_high input

  abbrev pub fits_by : Phrase → Option Named → Parser (Unit {0})
  fits_by phrase (Some named) = pure tt
  fits_by phrase None = fits phrase

  -- the phrase is a name or may stand below a node
  unfoldable pub fits_target : Phrase → Parser (Unit {0})
  fits_target phrase = fits_by phrase (node.name_of phrase)

  -- ---- literals, names and brackets

  unfoldable pub key_by : Row Property → Option PropertyKey → Parser (Row Property)
  key_by row None = refuse
  key_by row (Some key) = do
    skip
    skip
    value ← below Expression
    pure (node.with_property row key value)

  unfoldable pub keyed : Row Property → Parser (Row Property)
  keyed row = do
    key ← ask key_at
    key_by row key

  unfoldable pub shorthand : Row Property → Parser (Row Property)
  shorthand row = do
    named ← ask named_at
    is_name ← ask (sees s.Name)
    check is_name
    fits (node.name_node named)
    skip
    pure (node.with_shorthand row named)

  unfoldable pub computed : Row Property → Parser (Row Property)
  computed row = do
    skip
    key ← below Expression
    expect s.CloseSquare
    expect s.Colon
    value ← below Expression
    pure (node.with_computed row key value)

  unfoldable pub property : Row Property → Parser (Row Property)
  property row = do
    is_computed ← ask (sees s.OpenSquare)
    is_keyed ← ask (λ input. sees s.Colon (next input))
    if is_computed then computed row else (if is_keyed then keyed row else shorthand row)

  -- List(Prop) [,] and the closing brace, behind the properties that a row has
  unfoldable pub properties_from : ℕ → Row Property → Parser (Row Property)
  properties_from zero row = refuse
  properties_from (suc n) row = do
    is_end ← ask (sees s.CloseCurly)
    if is_end then skip >> pure row else (do
      longer ← property row
      is_more ← ask (sees s.Comma)
      if is_more then skip >> properties_from n longer else (do expect s.CloseCurly; pure longer))

  unfoldable pub properties : Parser (Row Property)
  properties = λ input. properties_from (length input) (row_on nothing) input

  unfoldable pub array : Parser Phrase
  array = do
    at ← ask start_at
    skip
    elements ← list below s.CloseSquare (row_on nothing)
    pure (node.array_node at elements)

  unfoldable pub object : Parser Phrase
  object = do
    at ← ask start_at
    skip
    found ← properties
    pure (node.object_node at found)

  unfoldable pub function_value : Parser Phrase
  function_value = do
    at ← ask start_at
    skip
    found ← function below
    pure (node.function_value at found.0 found.1)

  -- a token that is a node by itself
  unfoldable pub single : (List Lexeme → Phrase) → Parser Phrase
  single f = do
    phrase ← ask f
    skip
    pure phrase

  -- a Primary, but for one in parentheses
  unfoldable pub primary_by : Sign → Parser Phrase
  primary_by s.Name = single (λ input. node.name_node (named_at input))
  primary_by s.Number = single (λ input. node.number_node (start_at input) (text_at input))
  primary_by s.Text = single (λ input. node.text_node (start_at input) (text_at input))
  primary_by s.True = single (λ input. node.leaf (start_at input) (f.Bool true))
  primary_by s.False = single (λ input. node.leaf (start_at input) (f.Bool false))
  primary_by s.Null = single (λ input. node.leaf (start_at input) f.Null)
  primary_by s.Undefined = single (λ input. node.leaf (start_at input) f.Undefined)
  primary_by s.OpenSquare = array
  primary_by s.OpenCurly = object
  primary_by s.Function = function_value
  primary_by sign = refuse

  unfoldable pub primary : Parser Phrase
  primary = do
    sign ← ask sign_at
    primary_by sign

  -- ---- members and calls

  abbrev pub tail_step : Tail → Phrase → Parser Phrase
  tail_step NoTail left = pure left
  tail_step Dot left = do
    fits left
    skip
    text ← word
    pure (node.member_node left text)
  tail_step Bracket left = do
    fits left
    skip
    key ← below Expression
    expect s.CloseSquare
    pure (node.index_node left key)
  tail_step Arguments left = do
    fits left
    skip
    found ← list below s.CloseParen (row_on (under left))
    pure (node.call_node left.at found)

  -- What a phrase becomes with what stands behind it. Each turn makes a node, so that the height bounds the turns.
  unfoldable pub tail_from : Bool → ℕ → Phrase → Parser Phrase
  tail_from calls zero left = too_high
  tail_from calls (suc n) left = do
    kind ← ask (λ input. tail_of calls (sign_at input))
    if is_tail kind then (do longer ← tail_step kind left; tail_from calls n longer) else pure left

  unfoldable pub tail : Bool → Phrase → Parser Phrase
  tail calls left = tail_from calls (suc room) left

  unfoldable pub new_with : ℕ → Phrase → Parser Phrase
  new_with at callee = do
    skip
    found ← list below s.CloseParen (row_on (under callee))
    pure (node.new_node at found)

  unfoldable pub new : Parser Phrase
  new = do
    at ← ask start_at
    skip
    callee ← below Member
    has_arguments ← ask (sees s.OpenParen)
    if has_arguments then new_with at callee else pure (node.new_node at (row_on (under callee)))

  -- a New or a Primary, but for one in parentheses
  unfoldable pub base : Parser Phrase
  base = do
    is_new ← ask (sees s.New)
    if is_new then new else primary

  -- ---- operators

  abbrev pub postfix_by : Phrase → Option UpdateOperator → Parser Phrase
  postfix_by target None = pure target
  postfix_by target (Some operator) = do
    check (not target.is_wrapped)
    fits_target target
    skip
    pure (node.postfix_node operator target)

  -- what a Call becomes with an update behind it
  unfoldable pub postfix : Phrase → Parser Phrase
  postfix target = do
    operator ← ask postfix_at
    postfix_by target operator

  unfoldable pub update_target : UpdateOperator → ℕ → Parser Phrase
  update_target operator at = do
    target ← below (Operand 0)
    check (not target.is_wrapped)
    pure (node.update_node at operator true target)

  unfoldable pub update_single : UpdateOperator → ℕ → Parser Phrase
  update_single operator at = do
    named ← ask named_at
    skip
    pure (node.update_name at operator true named)

  -- a Call, where the parser reads the New or Primary that it begins with
  unfoldable pub call_with : Parser Phrase → Parser Phrase
  call_with first = do
    left ← first
    tail true left

  -- behind the operators of a Unary, or with none before a base
  abbrev pub unary_by : Parser Phrase → Lead → Parser Phrase
  unary_by first (BeforeUnary operator) = do
    at ← ask start_at
    skip
    operand ← below (Operand 0)
    check (node.takes operator operand)
    pure (node.unary_node at operator operand)
  unary_by first (BeforeTarget operator) = do
    at ← ask start_at
    skip
    is_lone ← ask is_lone_name
    if is_lone then update_single operator at else update_target operator at
  unary_by first NoLead = do
    call ← call_with first
    postfix call

  -- a Unary, where the parser reads the New or Primary that it may begin with
  unfoldable pub unary_with : Parser Phrase → Parser Phrase
  unary_with first = do
    lead ← ask (λ input. lead_of (sign_at input))
    unary_by first lead

  unfoldable pub link : ℕ → Phrase → BinaryOperator → Parser Phrase
  link level left operator = do
    fits left
    skip
    right ← below (Operand level)
    pure (node.binary_node operator left right)

  -- What an operand becomes with the operators of a level behind it. Each turn makes a node.
  unfoldable pub chain_from : ℕ → ℕ → Phrase → Parser Phrase
  chain_from level zero left = too_high
  chain_from level (suc n) left = do
    operator ← ask (λ input. operator_at level (sign_at input))
    elim operator [ None ↦ pure left | Some operator ↦ (do longer ← link level left operator; chain_from level n longer) ]

  -- what a Unary becomes with the operators of all levels below one behind it
  unfoldable pub climb : ℕ → Phrase → Parser Phrase
  climb zero first = pure first
  climb (suc level) first = do
    left ← climb level first
    chain_from level (suc room) left

  unfoldable pub operand_with : Parser Phrase → ℕ → Parser Phrase
  operand_with first level = do
    value ← unary_with first
    climb level value

  -- ---- expressions

  abbrev pub sequel_by : Phrase → Sequel → Parser Phrase
  sequel_by left NoSequel = pure left
  sequel_by left Choice = do
    fits left
    skip
    chosen ← below Expression
    expect s.Colon
    otherwise ← below Expression
    pure (node.conditional_node left chosen otherwise)
  sequel_by left (Assignment operator) = do
    check (not left.is_wrapped)
    fits_target left
    skip
    value ← below Expression
    pure (node.assign_node operator left value)

  -- what an Or becomes with what stands behind it
  unfoldable pub sequel : Phrase → Parser Phrase
  sequel left = do
    kind ← ask (λ input. sequel_of (sign_at input))
    sequel_by left kind

  unfoldable pub arrow_body : ℕ → List Named → Parser Phrase
  arrow_body at names = do
    skip
    found ← body below
    pure (node.arrow_body at names found)

  unfoldable pub arrow_value : ℕ → List Named → Parser Phrase
  arrow_value at names = do
    value ← below Expression
    pure (node.arrow_value at names value)

  -- an arrow that begins at a place, behind its head
  unfoldable pub arrow : ℕ → List Named → Parser Phrase
  arrow at names = do
    has_body ← ask (sees s.OpenCurly)
    if has_body then arrow_body at names else arrow_value at names

  abbrev pub expression_by : Parser Phrase → Option ArrowHead → Parser Phrase
  expression_by first (Some head) = λ input. arrow (start_at input) head.names head.behind
  expression_by first None = do
    left ← operand_with first 10
    sequel left

  unfoldable pub expression_with : Parser Phrase → Parser Phrase
  expression_with first = do
    head ← ask arrow_head
    expression_by first head

  -- an expression in parentheses, where the parser reads the New or Primary that it may begin with
  unfoldable pub parenthesized : Parser Phrase → Parser Phrase
  parenthesized first = do
    at ← ask start_at
    skip
    inner ← expression_with first
    expect s.CloseParen
    pure (wrapped at inner)

  -- a New or a Primary that begins with so many parentheses
  unfoldable pub base_at : ℕ → Parser Phrase
  base_at zero = base
  base_at (suc count) = parenthesized (base_at count)

  abbrev pub primary_at : ℕ → Parser Phrase
  primary_at zero = primary
  primary_at (suc count) = parenthesized (base_at count)

  unfoldable pub operand : ℕ → Parser Phrase
  operand level = λ input. operand_with (base_at (parens input)) level input

  unfoldable pub expression : Parser Phrase
  expression = λ input. expression_with (base_at (parens input)) input

  unfoldable pub member : Parser Phrase
  member = do
    count ← ask parens
    first ← primary_at count
    tail false first

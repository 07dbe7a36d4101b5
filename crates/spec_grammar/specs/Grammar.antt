-- The grammar: which phrase stands at the front of some tokens, and which tokens stand behind it. A phrase that may go
-- on with the next token goes on with it: wherever one may stop, a test of the next token says whether it does.
use Rattle.std.specs.Prelude.{◌≡◌, ℕ, suc, Bool, true, false, List, [], ◌∷◌, Some, None, Ok}
use Rattle.spec_tokens.specs.Tokens.{Lexeme}
use Rattle.snap_ast.specs.declared.form.Form.TheVariants as f
use Rattle.snap_ast.specs.declared.operator.AssignOperator.{AssignOperator}
use Rattle.snap_ast.specs.declared.operator.BinaryOperator.{BinaryOperator}
use Rattle.snap_ast.specs.declared.operator.UnaryOperator.{UnaryOperator}
use Rattle.snap_ast.specs.declared.operator.UpdateOperator.{UpdateOperator}
use Rattle.snap_ast.specs.declared.part.Binding.{Binding}
use Rattle.snap_ast.specs.declared.part.ConstBinding.{ConstBinding}
use Rattle.snap_ast.specs.declared.part.Named.{Named}
use Rattle.snap_ast.specs.declared.part.Property.{Property}
use Rattle.snap_ast.specs.declared.part.PropertyKey.{PropertyKey}
use Rattle.spec_grammar.specs.Nodes as node
use Rattle.spec_grammar.specs.Operators.{BeforeTarget, BeforeUnary, NoLead, lead_of, Assignment, Choice, NoSequel, sequel_of, Arguments, Bracket, Dot, NoTail, tail_of, operator_at, begins_declaration, begins_statement}
use Rattle.spec_grammar.specs.Parts.{ArrowHead, arrow_head, OfHead, of_head, is_lone_name, is_over, key_at, named_at, parameters, pattern, postfix_at, semicolon}
use Rattle.spec_grammar.specs.Phrase.{Phrase, Below, nothing, ◌▸◌, under, Row, row_on, with_child, wrapped, Optional, absent, present}
use Rattle.spec_grammar.specs.Sign.{is_word_at, newline_at, next, sees, sign_at, start_at, text_at}
use Rattle.spec_grammar.specs.declared.sign.Sign.{Sign}
use Rattle.spec_grammar.specs.declared.sign.Sign.TheVariants as s

mutual
  -- ---- expressions

  -- Expr = Arrow | Target AssignOp Expr | Or [? Expr : Expr]
  pub data IsExpression : List Lexeme → Phrase → List Lexeme → Type 0 where
    ArrowValue : {input rest : List Lexeme} {head : ArrowHead} {value : Phrase} → arrow_head input ≡ Some head → sees s.OpenCurly head.behind ≡ false → IsExpression head.behind value rest → IsExpression input (node.arrow_value (start_at input) head.names value) rest
    ArrowBody : {input rest : List Lexeme} {head : ArrowHead} {body : Row ℕ} → arrow_head input ≡ Some head → sees s.OpenCurly head.behind ≡ true → IsBody (row_on nothing) (next head.behind) body rest → IsExpression input (node.arrow_body (start_at input) head.names body) rest
    NoArrow : {input middle rest : List Lexeme} {left value : Phrase} → arrow_head input ≡ None → IsOperand 10 input left middle → IsSequel left middle value rest → IsExpression input value rest

  -- what an Or becomes with what stands behind it
  pub data IsSequel : Phrase → List Lexeme → Phrase → List Lexeme → Type 0 where
    NoMore : {left : Phrase} {input : List Lexeme} → sequel_of (sign_at input) ≡ NoSequel → IsSequel left input left input
    Conditional : {left : Phrase} {input middle rest : List Lexeme} {chosen otherwise : Phrase} → sequel_of (sign_at input) ≡ Choice → IsExpression (next input) chosen middle → sees s.Colon middle ≡ true → IsExpression (next middle) otherwise rest → IsSequel left input (node.conditional_node left chosen otherwise) rest
    Assign : {left : Phrase} {input rest : List Lexeme} {operator : AssignOperator} {value : Phrase} → sequel_of (sign_at input) ≡ Assignment operator → left.is_wrapped ≡ false → IsExpression (next input) value rest → IsSequel left input (node.assign_node operator left value) rest

  -- From Unary, at level 0, over Product = Product (* | / | %) Unary | Unary to Or = Or || And | And, at level 10.
  pub data IsOperand : ℕ → List Lexeme → Phrase → List Lexeme → Type 0 where
    Lowest : {input rest : List Lexeme} {value : Phrase} → IsUnary input value rest → IsOperand 0 input value rest
    Chain : {level : ℕ} {input middle rest : List Lexeme} {first value : Phrase} → IsOperand level input first middle → IsChain level first middle value rest → IsOperand (suc level) input value rest

  -- what an operand becomes with the operators of a level, and their right operands, behind it
  pub data IsChain : ℕ → Phrase → List Lexeme → Phrase → List Lexeme → Type 0 where
    ChainEnd : {level : ℕ} {left : Phrase} {input : List Lexeme} → operator_at level (sign_at input) ≡ None → IsChain level left input left input
    ChainLink : {level : ℕ} {left : Phrase} {input middle rest : List Lexeme} {operator : BinaryOperator} {right value : Phrase} → operator_at level (sign_at input) ≡ Some operator → IsOperand level (next input) right middle → IsChain level (node.binary_node operator left right) middle value rest → IsChain level left input value rest

  -- Unary = (delete | typeof | + | - | ~ | !) Unary | (++ | --) Target | Target (++ | --) | Call
  pub data IsUnary : List Lexeme → Phrase → List Lexeme → Type 0 where
    Prefix : {input rest : List Lexeme} {operator : UnaryOperator} {operand : Phrase} → lead_of (sign_at input) ≡ BeforeUnary operator → IsUnary (next input) operand rest → node.takes operator operand ≡ true → IsUnary input (node.unary_node (start_at input) operator operand) rest
    PrefixName : {input : List Lexeme} {operator : UpdateOperator} → lead_of (sign_at input) ≡ BeforeTarget operator → is_lone_name (next input) ≡ true → IsUnary input (node.update_name (start_at input) operator true (named_at (next input))) (next (next input))
    PrefixTarget : {input rest : List Lexeme} {operator : UpdateOperator} {target : Phrase} → lead_of (sign_at input) ≡ BeforeTarget operator → is_lone_name (next input) ≡ false → IsUnary (next input) target rest → target.is_wrapped ≡ false → IsUnary input (node.update_node (start_at input) operator true target) rest
    Postfix : {input middle : List Lexeme} {operator : UpdateOperator} {target : Phrase} → lead_of (sign_at input) ≡ NoLead → IsCall input target middle → postfix_at middle ≡ Some operator → target.is_wrapped ≡ false → IsUnary input (node.postfix_node operator target) (next middle)
    NoOperator : {input rest : List Lexeme} {value : Phrase} → lead_of (sign_at input) ≡ NoLead → IsCall input value rest → postfix_at rest ≡ None → IsUnary input value rest

  -- Call = Call . AnyWord | Call [ Expr ] | Call ( List(Expr) ) | New | Primary
  pub data IsCall : List Lexeme → Phrase → List Lexeme → Type 0 where
    CallOfNew : {input middle rest : List Lexeme} {first value : Phrase} → IsNew input first middle → IsTail true first middle value rest → IsCall input value rest
    CallOfPrimary : {input middle rest : List Lexeme} {first value : Phrase} → sees s.New input ≡ false → IsPrimary input first middle → IsTail true first middle value rest → IsCall input value rest

  -- what a phrase becomes with the words, brackets and, where the flag says so, arguments behind it
  pub data IsTail : Bool → Phrase → List Lexeme → Phrase → List Lexeme → Type 0 where
    TailEnd : {calls : Bool} {left : Phrase} {input : List Lexeme} → tail_of calls (sign_at input) ≡ NoTail → IsTail calls left input left input
    TailWord : {calls : Bool} {left value : Phrase} {input rest : List Lexeme} → tail_of calls (sign_at input) ≡ Dot → is_word_at (next input) ≡ true → IsTail calls (node.member_node left (text_at (next input))) (next (next input)) value rest → IsTail calls left input value rest
    TailIndex : {calls : Bool} {left key value : Phrase} {input middle rest : List Lexeme} → tail_of calls (sign_at input) ≡ Bracket → IsExpression (next input) key middle → sees s.CloseSquare middle ≡ true → IsTail calls (node.index_node left key) (next middle) value rest → IsTail calls left input value rest
    TailArguments : {calls : Bool} {left value : Phrase} {arguments : Row ℕ} {input middle rest : List Lexeme} → tail_of calls (sign_at input) ≡ Arguments → IsList s.CloseParen (row_on (under left)) (next input) arguments middle → IsTail calls (node.call_node left.at arguments) middle value rest → IsTail calls left input value rest

  -- New = new Member [( List(Expr) )]
  pub data IsNew : List Lexeme → Phrase → List Lexeme → Type 0 where
    NewWithout : {input rest : List Lexeme} {callee : Phrase} → sees s.New input ≡ true → IsMember (next input) callee rest → sees s.OpenParen rest ≡ false → IsNew input (node.new_node (start_at input) (row_on (under callee))) rest
    NewWith : {input middle rest : List Lexeme} {callee : Phrase} {arguments : Row ℕ} → sees s.New input ≡ true → IsMember (next input) callee middle → sees s.OpenParen middle ≡ true → IsList s.CloseParen (row_on (under callee)) (next middle) arguments rest → IsNew input (node.new_node (start_at input) arguments) rest

  -- Member = Primary (. AnyWord | [ Expr ])*
  pub data IsMember : List Lexeme → Phrase → List Lexeme → Type 0 where
    Member : {input middle rest : List Lexeme} {first value : Phrase} → IsPrimary input first middle → IsTail false first middle value rest → IsMember input value rest

  -- Primary = Name | Number | Text | true | false | null | undefined | ( Expr ) | [ List(Expr) [,] ] | { List(Prop) [,] } | function ( List(Name) ) { Statement* }
  pub data IsPrimary : List Lexeme → Phrase → List Lexeme → Type 0 where
    Name : {input : List Lexeme} → sign_at input ≡ s.Name → IsPrimary input (node.name_node (named_at input)) (next input)
    Number : {input : List Lexeme} → sign_at input ≡ s.Number → IsPrimary input (node.number_node (start_at input) (text_at input)) (next input)
    Text : {input : List Lexeme} → sign_at input ≡ s.Text → IsPrimary input (node.text_node (start_at input) (text_at input)) (next input)
    True : {input : List Lexeme} → sign_at input ≡ s.True → IsPrimary input (node.leaf (start_at input) (f.Bool true)) (next input)
    False : {input : List Lexeme} → sign_at input ≡ s.False → IsPrimary input (node.leaf (start_at input) (f.Bool false)) (next input)
    Null : {input : List Lexeme} → sign_at input ≡ s.Null → IsPrimary input (node.leaf (start_at input) f.Null) (next input)
    Undefined : {input : List Lexeme} → sign_at input ≡ s.Undefined → IsPrimary input (node.leaf (start_at input) f.Undefined) (next input)
    Parentheses : {input middle : List Lexeme} {inner : Phrase} → sign_at input ≡ s.OpenParen → IsExpression (next input) inner middle → sees s.CloseParen middle ≡ true → IsPrimary input (wrapped (start_at input) inner) (next middle)
    Array : {input rest : List Lexeme} {elements : Row ℕ} → sign_at input ≡ s.OpenSquare → IsList s.CloseSquare (row_on nothing) (next input) elements rest → IsPrimary input (node.array_node (start_at input) elements) rest
    Object : {input rest : List Lexeme} {properties : Row Property} → sign_at input ≡ s.OpenCurly → IsProperties (row_on nothing) (next input) properties rest → IsPrimary input (node.object_node (start_at input) properties) rest
    FunctionValue : {input rest : List Lexeme} {names : List Named} {body : Row ℕ} → sign_at input ≡ s.Function → IsFunction (next input) names body rest → IsPrimary input (node.function_value (start_at input) names body) rest

  -- List(Expr) [,] and the closing sign, behind the expressions that a row has
  pub data IsList : Sign → Row ℕ → List Lexeme → Row ℕ → List Lexeme → Type 0 where
    ListEnd : {close : Sign} {row : Row ℕ} {input : List Lexeme} → sees close input ≡ true → IsList close row input row (next input)
    ListLast : {close : Sign} {row : Row ℕ} {input middle : List Lexeme} {item : Phrase} → sees close input ≡ false → IsExpression input item middle → sees s.Comma middle ≡ false → sees close middle ≡ true → IsList close row input (with_child row item) (next middle)
    ListMore : {close : Sign} {row all : Row ℕ} {input middle rest : List Lexeme} {item : Phrase} → sees close input ≡ false → IsExpression input item middle → sees s.Comma middle ≡ true → IsList close (with_child row item) (next middle) all rest → IsList close row input all rest

  -- List(Prop) [,] and the closing brace, behind the properties that a row has
  pub data IsProperties : Row Property → List Lexeme → Row Property → List Lexeme → Type 0 where
    PropertiesEnd : {row : Row Property} {input : List Lexeme} → sees s.CloseCurly input ≡ true → IsProperties row input row (next input)
    PropertiesLast : {row all : Row Property} {input middle : List Lexeme} → sees s.CloseCurly input ≡ false → IsProperty row input all middle → sees s.Comma middle ≡ false → sees s.CloseCurly middle ≡ true → IsProperties row input all (next middle)
    PropertiesMore : {row more all : Row Property} {input middle rest : List Lexeme} → sees s.CloseCurly input ≡ false → IsProperty row input more middle → sees s.Comma middle ≡ true → IsProperties more (next middle) all rest → IsProperties row input all rest

  -- Prop = (AnyWord | Text | Number | [ Expr ]) : Expr | Name
  pub data IsProperty : Row Property → List Lexeme → Row Property → List Lexeme → Type 0 where
    Computed : {row : Row Property} {input middle rest : List Lexeme} {key value : Phrase} → sees s.OpenSquare input ≡ true → IsExpression (next input) key middle → sees s.CloseSquare middle ≡ true → sees s.Colon (next middle) ≡ true → IsExpression (next (next middle)) value rest → IsProperty row input (node.with_computed row key value) rest
    Keyed : {row : Row Property} {input rest : List Lexeme} {key : PropertyKey} {value : Phrase} → sees s.OpenSquare input ≡ false → sees s.Colon (next input) ≡ true → key_at input ≡ Some key → IsExpression (next (next input)) value rest → IsProperty row input (node.with_property row key value) rest
    Shorthand : {row : Row Property} {input : List Lexeme} → sees s.OpenSquare input ≡ false → sees s.Colon (next input) ≡ false → sees s.Name input ≡ true → IsProperty row input (node.with_shorthand row (named_at input)) (next input)

  -- ( List(Name) ) { Statement* }
  pub data IsFunction : List Lexeme → List Named → Row ℕ → List Lexeme → Type 0 where
    Function : {input middle rest : List Lexeme} {names : List Named} {body : Row ℕ} → sees s.OpenParen input ≡ true → parameters (next input) ≡ Ok (names, middle) → sees s.OpenCurly middle ≡ true → IsBody (row_on nothing) (next middle) body rest → IsFunction input names body rest

  -- ---- statements

  -- Statement* and the closing brace, behind the statements that a row has
  pub data IsBody : Row ℕ → List Lexeme → Row ℕ → List Lexeme → Type 0 where
    BodyEnd : {row : Row ℕ} {input : List Lexeme} → sees s.CloseCurly input ≡ true → IsBody row input row (next input)
    BodyMore : {row all : Row ℕ} {input middle rest : List Lexeme} {statement : Phrase} → sees s.CloseCurly input ≡ false → IsStatement input statement middle → IsBody (with_child row statement) middle all rest → IsBody row input all rest

  -- Block = { Statement* }
  pub data IsBlock : List Lexeme → Phrase → List Lexeme → Type 0 where
    Block : {input rest : List Lexeme} {body : Row ℕ} → sees s.OpenCurly input ≡ true → IsBody (row_on nothing) (next input) body rest → IsBlock input (node.block_node (start_at input) body) rest

  pub data IsStatement : List Lexeme → Phrase → List Lexeme → Type 0 where
    Let : {input middle rest : List Lexeme} {bindings : Row Binding} → sign_at input ≡ s.Let → IsBindings (row_on nothing) (next input) bindings middle → semicolon middle ≡ Ok (tt, rest) → IsStatement input (node.let_node (start_at input) bindings) rest
    Const : {input middle rest : List Lexeme} {bindings : Row ConstBinding} → sign_at input ≡ s.Const → IsConstBindings (row_on nothing) (next input) bindings middle → semicolon middle ≡ Ok (tt, rest) → IsStatement input (node.const_node (start_at input) bindings) rest
    FunctionStatement : {input rest : List Lexeme} {names : List Named} {body : Row ℕ} → sign_at input ≡ s.Function → sees s.Name (next input) ≡ true → IsFunction (next (next input)) names body rest → IsStatement input (node.function_node (start_at input) (named_at (next input)) names body) rest
    BlockStatement : {input rest : List Lexeme} {block : Phrase} → sign_at input ≡ s.OpenCurly → IsBlock input block rest → IsStatement input block rest
    Empty : {input : List Lexeme} → sign_at input ≡ s.Semicolon → IsStatement input (node.leaf (start_at input) f.Empty) (next input)
    Expression : {input middle rest : List Lexeme} {value : Phrase} → begins_statement (sign_at input) ≡ false → IsExpression input value middle → semicolon middle ≡ Ok (tt, rest) → IsStatement input (node.expression_node value) rest
    If : {input middle rest : List Lexeme} {test chosen : Phrase} → sign_at input ≡ s.If → IsCondition (next input) test middle → IsBranch middle chosen rest → sees s.Else rest ≡ false → IsStatement input (node.if_node (start_at input) test chosen) rest
    IfElse : {input middle behind rest : List Lexeme} {test chosen otherwise : Phrase} → sign_at input ≡ s.If → IsCondition (next input) test middle → IsBranch middle chosen behind → sees s.Else behind ≡ true → IsBranch (next behind) otherwise rest → IsStatement input (node.if_else_node (start_at input) test chosen otherwise) rest
    While : {input middle rest : List Lexeme} {test body : Phrase} → sign_at input ≡ s.While → IsCondition (next input) test middle → IsBranch middle body rest → IsStatement input (node.while_node (start_at input) test body) rest
    For : {input rest : List Lexeme} {loop : Phrase} → sign_at input ≡ s.For → sees s.OpenParen (next input) ≡ true → IsFor (start_at input) (next (next input)) loop rest → IsStatement input loop rest
    Break : {input rest : List Lexeme} → sign_at input ≡ s.Break → semicolon (next input) ≡ Ok (tt, rest) → IsStatement input (node.leaf (start_at input) f.Break) rest
    Continue : {input rest : List Lexeme} → sign_at input ≡ s.Continue → semicolon (next input) ≡ Ok (tt, rest) → IsStatement input (node.leaf (start_at input) f.Continue) rest
    Return : {input rest : List Lexeme} → sign_at input ≡ s.Return → is_over (next input) ≡ true → semicolon (next input) ≡ Ok (tt, rest) → IsStatement input (node.return_node (start_at input) (absent nothing)) rest
    ReturnValue : {input middle rest : List Lexeme} {value : Phrase} → sign_at input ≡ s.Return → is_over (next input) ≡ false → IsExpression (next input) value middle → semicolon middle ≡ Ok (tt, rest) → IsStatement input (node.return_node (start_at input) (present nothing value)) rest
    Throw : {input middle rest : List Lexeme} {value : Phrase} → sign_at input ≡ s.Throw → newline_at (next input) ≡ false → IsExpression (next input) value middle → semicolon middle ≡ Ok (tt, rest) → IsStatement input (node.throw_node (start_at input) value) rest
    Try : {input middle rest : List Lexeme} {tried whole : Phrase} → sign_at input ≡ s.Try → IsBlock (next input) tried middle → IsHandled (start_at input) tried middle whole rest → IsStatement input whole rest

  -- ( Expr )
  pub data IsCondition : List Lexeme → Phrase → List Lexeme → Type 0 where
    Condition : {input middle : List Lexeme} {value : Phrase} → sees s.OpenParen input ≡ true → IsExpression (next input) value middle → sees s.CloseParen middle ≡ true → IsCondition input value (next middle)

  -- Body: a Statement that is no let, const or function
  pub data IsBranch : List Lexeme → Phrase → List Lexeme → Type 0 where
    Branch : {input rest : List Lexeme} {statement : Phrase} → begins_declaration (sign_at input) ≡ false → IsStatement input statement rest → IsBranch input statement rest

  -- [Expr] and the closing sign
  pub data IsOptional : Sign → Below → List Lexeme → Optional → List Lexeme → Type 0 where
    Absent : {close : Sign} {below : Below} {input : List Lexeme} → sees close input ≡ true → IsOptional close below input (absent below) (next input)
    Present : {close : Sign} {below : Below} {input middle : List Lexeme} {value : Phrase} → sees close input ≡ false → IsExpression input value middle → sees close middle ≡ true → IsOptional close below input (present below value) (next middle)

  -- a loop that begins at a place, behind its opening parenthesis
  pub data IsFor : ℕ → List Lexeme → Phrase → List Lexeme → Type 0 where
    ForOf : {at : ℕ} {input middle rest : List Lexeme} {head : OfHead} {values body : Phrase} → of_head input ≡ Some head → IsExpression head.behind values middle → sees s.CloseParen middle ≡ true → IsBranch (next middle) body rest → IsFor at input (node.for_of_node at head.is_constant head.named values body) rest
    ForLet : {at : ℕ} {input behind middle tested rest : List Lexeme} {bindings : Row Binding} {test update : Optional} {body : Phrase} → of_head input ≡ None → sees s.Let input ≡ true → IsBindings (row_on nothing) (next input) bindings behind → sees s.Semicolon behind ≡ true → IsOptional s.Semicolon bindings.below (next behind) test middle → IsOptional s.CloseParen test.below middle update tested → IsBranch tested body rest → IsFor at input (node.for_let_node at bindings test update body) rest
    ForPlain : {at : ℕ} {input behind middle tested rest : List Lexeme} {start test update : Optional} {body : Phrase} → of_head input ≡ None → sees s.Let input ≡ false → IsOptional s.Semicolon nothing input start behind → IsOptional s.Semicolon start.below behind test middle → IsOptional s.CloseParen test.below middle update tested → IsBranch tested body rest → IsFor at input (node.for_node at start test update body) rest

  -- a try that begins at a place, behind its first block
  pub data IsHandled : ℕ → Phrase → List Lexeme → Phrase → List Lexeme → Type 0 where
    Catch : {at : ℕ} {tried handler : Phrase} {input middle rest : List Lexeme} {finalizer : Optional} → sees s.Catch input ≡ true → sees s.OpenParen (next input) ≡ false → IsBlock (next input) handler middle → IsFinalizer (under tried ▸ handler) middle finalizer rest → IsHandled at tried input (node.try_catch_node at tried handler finalizer) rest
    CatchName : {at : ℕ} {tried handler : Phrase} {input middle rest : List Lexeme} {finalizer : Optional} → sees s.Catch input ≡ true → sees s.OpenParen (next input) ≡ true → sees s.Name (next (next input)) ≡ true → sees s.CloseParen (next (next (next input))) ≡ true → IsBlock (next (next (next (next input)))) handler middle → IsFinalizer (under tried ▸ handler) middle finalizer rest → IsHandled at tried input (node.try_catch_name_node at tried (named_at (next (next input))) handler finalizer) rest
    Finally : {at : ℕ} {tried finalizer : Phrase} {input rest : List Lexeme} → sees s.Catch input ≡ false → sees s.Finally input ≡ true → IsBlock (next input) finalizer rest → IsHandled at tried input (node.try_finally_node at tried finalizer) rest

  -- [finally Block]
  pub data IsFinalizer : Below → List Lexeme → Optional → List Lexeme → Type 0 where
    NoFinalizer : {below : Below} {input : List Lexeme} → sees s.Finally input ≡ false → IsFinalizer below input (absent below) input
    Finalizer : {below : Below} {input rest : List Lexeme} {block : Phrase} → sees s.Finally input ≡ true → IsBlock (next input) block rest → IsFinalizer below input (present below block) rest

  -- Binding (, Binding)*
  pub data IsBindings : Row Binding → List Lexeme → Row Binding → List Lexeme → Type 0 where
    BindingsLast : {row all : Row Binding} {input rest : List Lexeme} → IsBinding row input all rest → sees s.Comma rest ≡ false → IsBindings row input all rest
    BindingsMore : {row more all : Row Binding} {input middle rest : List Lexeme} → IsBinding row input more middle → sees s.Comma middle ≡ true → IsBindings more (next middle) all rest → IsBindings row input all rest

  -- Binding = Name [= Expr]
  pub data IsBinding : Row Binding → List Lexeme → Row Binding → List Lexeme → Type 0 where
    BindingName : {row : Row Binding} {input : List Lexeme} → sees s.Name input ≡ true → sees s.Assign (next input) ≡ false → IsBinding row input (node.with_name row (named_at input)) (next input)
    BindingValue : {row : Row Binding} {input rest : List Lexeme} {value : Phrase} → sees s.Name input ≡ true → sees s.Assign (next input) ≡ true → IsExpression (next (next input)) value rest → IsBinding row input (node.with_value row (named_at input) value) rest

  -- ConstBinding (, ConstBinding)*
  pub data IsConstBindings : Row ConstBinding → List Lexeme → Row ConstBinding → List Lexeme → Type 0 where
    ConstLast : {row all : Row ConstBinding} {input rest : List Lexeme} → IsConstBinding row input all rest → sees s.Comma rest ≡ false → IsConstBindings row input all rest
    ConstMore : {row more all : Row ConstBinding} {input middle rest : List Lexeme} → IsConstBinding row input more middle → sees s.Comma middle ≡ true → IsConstBindings more (next middle) all rest → IsConstBindings row input all rest

  -- ConstBinding = Name = Expr | { Name (, Name)* [,] } = Expr
  pub data IsConstBinding : Row ConstBinding → List Lexeme → Row ConstBinding → List Lexeme → Type 0 where
    ConstName : {row : Row ConstBinding} {input rest : List Lexeme} {value : Phrase} → sees s.OpenCurly input ≡ false → sees s.Name input ≡ true → sees s.Assign (next input) ≡ true → IsExpression (next (next input)) value rest → IsConstBinding row input (node.with_constant row (named_at input) value) rest
    ConstPattern : {row : Row ConstBinding} {input middle rest : List Lexeme} {names : List Named} {value : Phrase} → sees s.OpenCurly input ≡ true → pattern (next input) ≡ Ok (names, middle) → sees s.Assign middle ≡ true → IsExpression (next middle) value rest → IsConstBinding row input (node.with_pattern row names value) rest

-- Script = Statement*, behind the statements that a row has
pub data IsScript : Row ℕ → List Lexeme → Row ℕ → Type 0 where
  ScriptEnd : {row : Row ℕ} → IsScript row [] row
  ScriptMore : {row all : Row ℕ} {first : Lexeme} {input rest : List Lexeme} {statement : Phrase} → IsStatement (first ∷ input) statement rest → IsScript (with_child row statement) rest all → IsScript row (first ∷ input) all

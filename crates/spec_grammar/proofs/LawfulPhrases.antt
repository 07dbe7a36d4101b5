-- Every phrase of right tokens is a piece of a lawful tree: an induction over the grammar.
use Rattle.std.proofs.Common.{◌≡◌, ℕ, true, false, Bool, List, [], ◌∷◌, ◌++◌, append-nil, map, refl, sym, ap, subst, true≢false, ◌∙◌}
use Rattle.snap_ast.specs.Children.{AnyStatement, Body, Block, AnyExpression, AssignTarget, PrefixTarget, PostfixTarget, Child, block, expression, optional, statement}
use Rattle.snap_ast.specs.Lawful.{Rank, Braces, Plain, may_be}
use Rattle.snap_ast.specs.Words.{Each, IsNamed, IsSome}
use Rattle.snap_ast.specs.declared.part.Binding.{Binding}
use Rattle.snap_ast.specs.declared.part.ConstBinding.{ConstBinding}
use Rattle.snap_ast.specs.declared.part.Named.{Named}
use Rattle.snap_ast.specs.declared.part.Property.{Property}
use Rattle.spec_grammar.proofs.LawfulLoneNames.{prefix_target}
use Rattle.spec_grammar.proofs.LawfulPieces.{IsA, IsBelow, below_more, below_none, below_under, node_is, rank_at, row_more}
use Rattle.spec_grammar.proofs.LawfulRows.{AreBindings, AreConsts, AreProperties, computed_more, constant_more, name_more, no_bindings, no_consts, no_properties, pattern_more, property_more, shorthand_more, value_more}
use Rattle.spec_grammar.proofs.LawfulTargets.{IsOperandOf, as_assign, as_class, as_prefix, assign_is, operand_node, postfix_is, taken_is}
use Rattle.spec_grammar.proofs.LawfulTokens.{AreRight}
use Rattle.spec_grammar.proofs.LawfulHeads.{arrow_right, of_head_right, parameters_right, pattern_right, semicolon_right, some_more}
use Rattle.spec_grammar.proofs.LawfulWords.{key_right, lone_name_right, name_at_right, named_right, next_right, number_at_right, text_at_right, word_at_right}
use Rattle.spec_grammar.specs.Grammar as g
use Rattle.spec_grammar.specs.Grammar.{IsExpression, IsSequel, IsOperand, IsChain, IsUnary, IsCall, IsTail, IsNew, IsMember, IsPrimary, IsList, IsProperties, IsProperty, IsFunction, IsBody, IsBlock, IsStatement, IsCondition, IsBranch, IsOptional, IsFor, IsHandled, IsFinalizer, IsBindings, IsBinding, IsConstBindings, IsConstBinding}
use Rattle.spec_grammar.specs.Operators.{begins_declaration}
use Rattle.spec_grammar.specs.Phrase.{Below, Optional, Phrase, Row, wrapped}
use Rattle.spec_grammar.specs.Sign.{next, sign_at}
use Rattle.spec_grammar.specs.declared.sign.Sign.{Sign}
use Rattle.spec_grammar.specs.declared.sign.Sign.TheVariants as s
use Rattle.spec_tokens.specs.Tokens.{Lexeme}

-- an expression in parentheses stands wherever an operand does
wrapped_is : (at : ℕ) {inner : Phrase} → IsA AnyExpression inner → IsOperandOf PostfixTarget (wrapped at inner)
wrapped_is at {inner} is_a = record { is_a = record { piece = record { span = is_a.piece.span; words = is_a.piece.words }; is = is_a.is }; firm = λ e. absurd (true≢false e) }

-- a statement, which is a body where it is no declaration
pub record IsStatementOf (input : List Lexeme) (whole : Phrase) : Type 0 where
  pub is_a : IsA AnyStatement whole
  pub body : begins_declaration (sign_at input) ≡ false → may_be Body (rank_at whole.nodes) ≡ true

declared : {input : List Lexeme} {whole : Phrase} (sign : Sign) → IsA AnyStatement whole → sign_at input ≡ sign → begins_declaration sign ≡ true → IsStatementOf input whole
declared {input} {whole} sign is_a e declares =
    record { is_a = is_a; body = λ none. absurd (true≢false (sym declares ∙ sym (ap begins_declaration e) ∙ none)) }

any_statement : (rank : Rank) → may_be Body rank ≡ true → may_be AnyStatement rank ≡ true
any_statement Braces e = refl
any_statement Plain e = refl
any_statement rank e = absurd cc

any_body : (rank : Rank) → may_be Block rank ≡ true → may_be Body rank ≡ true
any_body Braces e = refl
any_body rank e = absurd cc

plain : {input : List Lexeme} {whole : Phrase} → IsA Body whole → IsStatementOf input whole
plain {input} {whole} is_a = record { is_a = as_class is_a (any_statement (rank_at whole.nodes) is_a.is); body = λ none. is_a.is }

block_body : {whole : Phrase} → IsA Block whole → IsA Body whole
block_body {whole} is_a = as_class is_a (any_body (rank_at whole.nodes) is_a.is)

absent_below : {list : List Child} {below : Below} → IsBelow list below → IsBelow (list ++ []) below
absent_below {list} {below} is = subst (λ list. IsBelow list below) (sym (append-nil list)) is

mutual
  unfolding begins_declaration

  expression_is : {input rest : List Lexeme} {value : Phrase} → IsExpression input value rest → AreRight input → IsA AnyExpression value × AreRight rest
  expression_is (g.ArrowValue {input = input} {head = head} e b d) right =
      let found = arrow_right input head right e in
      let value = expression_is d found.1 in
      (node_is found.0 (below_under value.0) refl, value.1)
  expression_is (g.ArrowBody {input = input} {head = head} e b d) right =
      let found = arrow_right input head right e in
      let body = body_is d below_none (next_right head.behind found.1) in
      (node_is found.0 body.0 refl, body.1)
  expression_is (g.NoArrow e d t) right =
      let first = operand_is d right in
      sequel_is t first.0 first.1

  sequel_is : {left value : Phrase} {input rest : List Lexeme} → IsSequel left input value rest → IsOperandOf AssignTarget left → AreRight input → IsA AnyExpression value × AreRight rest
  sequel_is (g.NoMore e) left right = (left.is_a, right)
  sequel_is (g.Conditional {input = input} {middle = middle} e d c f) left right =
      let chosen = expression_is d (next_right input right) in
      let otherwise = expression_is f (next_right middle chosen.1) in
      (node_is tt (below_more (below_more (below_under left.is_a) chosen.0) otherwise.0) refl, otherwise.1)
  sequel_is (g.Assign {input = input} {operator = operator} e w d) left right =
      let value = expression_is d (next_right input right) in
      (assign_is operator left w value.0, value.1)

  operand_is : {level : ℕ} {input rest : List Lexeme} {value : Phrase} → IsOperand level input value rest → AreRight input → IsOperandOf AssignTarget value × AreRight rest
  operand_is (g.Lowest d) right = let value = unary_is d right in (as_assign value.0, value.1)
  operand_is (g.Chain d t) right =
      let first = operand_is d right in
      chain_is t first.0 first.1

  chain_is : {level : ℕ} {left value : Phrase} {input rest : List Lexeme} → IsChain level left input value rest → IsOperandOf AssignTarget left → AreRight input → IsOperandOf AssignTarget value × AreRight rest
  chain_is (g.ChainEnd e) left right = (left, right)
  chain_is (g.ChainLink {input = input} e d t) left right =
      let operand = operand_is d (next_right input right) in
      chain_is t (operand_node tt (below_more (below_under left.is_a) operand.0.is_a) refl refl) operand.1

  unary_is : {input rest : List Lexeme} {value : Phrase} → IsUnary input value rest → AreRight input → IsOperandOf PrefixTarget value × AreRight rest
  unary_is (g.Prefix {input = input} {operator = operator} e d t) right =
      let operand = unary_is d (next_right input right) in
      (operand_node tt (below_under (taken_is operator t operand.0.is_a)) refl refl, operand.1)
  unary_is (g.PrefixName {input = input} e l) right =
      let behind = next_right input right in
      (operand_node (lone_name_right (next input) behind l) below_none refl refl, next_right (next input) behind)
  unary_is (g.PrefixTarget {input = input} e l d w) right =
      let target = unary_is d (next_right input right) in
      (operand_node tt (below_under (prefix_target d l w target.0)) refl refl, target.1)
  unary_is (g.Postfix {middle = middle} {operator = operator} l d e w) right =
      let target = call_is d right in
      (postfix_is operator target.0 w, next_right middle target.1)
  unary_is (g.NoOperator l d e) right = let value = call_is d right in (as_prefix value.0, value.1)

  call_is : {input rest : List Lexeme} {value : Phrase} → IsCall input value rest → AreRight input → IsOperandOf PostfixTarget value × AreRight rest
  call_is (g.CallOfNew d t) right =
      let first = new_is d right in
      tail_is t first.0 first.1
  call_is (g.CallOfPrimary n d t) right =
      let first = primary_is d right in
      tail_is t first.0 first.1

  tail_is : {calls : Bool} {left value : Phrase} {input rest : List Lexeme} → IsTail calls left input value rest → IsOperandOf PostfixTarget left → AreRight input → IsOperandOf PostfixTarget value × AreRight rest
  tail_is (g.TailEnd e) left right = (left, right)
  tail_is (g.TailWord {input = input} e w t) left right =
      let behind = next_right input right in
      tail_is t (operand_node (word_at_right (next input) behind w) (below_under left.is_a) refl refl) (next_right (next input) behind)
  tail_is (g.TailIndex {input = input} {middle = middle} e d c t) left right =
      let key = expression_is d (next_right input right) in
      tail_is t (operand_node tt (below_more (below_under left.is_a) key.0) refl refl) (next_right middle key.1)
  tail_is (g.TailArguments {input = input} e d t) left right =
      let arguments = list_is d (expression 0 ∷ []) (below_under left.is_a) (next_right input right) in
      tail_is t (operand_node tt arguments.0 refl refl) arguments.1

  new_is : {input rest : List Lexeme} {value : Phrase} → IsNew input value rest → AreRight input → IsOperandOf PostfixTarget value × AreRight rest
  new_is (g.NewWithout {input = input} n d o) right =
      let callee = member_is d (next_right input right) in
      (operand_node tt (below_under callee.0.is_a) refl refl, callee.1)
  new_is (g.NewWith {input = input} {middle = middle} n d o l) right =
      let callee = member_is d (next_right input right) in
      let arguments = list_is l (expression 0 ∷ []) (below_under callee.0.is_a) (next_right middle callee.1) in
      (operand_node tt arguments.0 refl refl, arguments.1)

  member_is : {input rest : List Lexeme} {value : Phrase} → IsMember input value rest → AreRight input → IsOperandOf PostfixTarget value × AreRight rest
  member_is (g.Member d t) right =
      let first = primary_is d right in
      tail_is t first.0 first.1

  primary_is : {input rest : List Lexeme} {value : Phrase} → IsPrimary input value rest → AreRight input → IsOperandOf PostfixTarget value × AreRight rest
  primary_is (g.Name {input = input} e) right = (operand_node (name_at_right input right e) below_none refl refl, next_right input right)
  primary_is (g.Number {input = input} e) right = (operand_node (number_at_right input right e) below_none refl refl, next_right input right)
  primary_is (g.Text {input = input} e) right = (operand_node (text_at_right input right e) below_none refl refl, next_right input right)
  primary_is (g.True {input = input} e) right = (operand_node tt below_none refl refl, next_right input right)
  primary_is (g.False {input = input} e) right = (operand_node tt below_none refl refl, next_right input right)
  primary_is (g.Null {input = input} e) right = (operand_node tt below_none refl refl, next_right input right)
  primary_is (g.Undefined {input = input} e) right = (operand_node tt below_none refl refl, next_right input right)
  primary_is (g.Parentheses {input = input} {middle = middle} e d c) right =
      let inner = expression_is d (next_right input right) in
      (wrapped_is _ inner.0, next_right middle inner.1)
  primary_is (g.Array {input = input} e d) right =
      let elements = list_is d [] below_none (next_right input right) in
      (operand_node tt elements.0 refl refl, elements.1)
  primary_is (g.Object {input = input} e d) right =
      let properties = properties_is d no_properties (next_right input right) in
      (operand_node properties.0.keyed properties.0.below refl refl, properties.1)
  primary_is (g.FunctionValue {input = input} e d) right =
      let function = function_is d (next_right input right) in
      (operand_node function.0 function.1 refl refl, function.2)

  list_is : {close : Sign} {row all : Row ℕ} {input rest : List Lexeme} → IsList close row input all rest → (front : List Child) → IsBelow (front ++ map expression row.items) row.below → AreRight input → IsBelow (front ++ map expression all.items) all.below × AreRight rest
  list_is (g.ListEnd {input = input} e) front below right = (below, next_right input right)
  list_is (g.ListLast {row = row} {middle = middle} e d c f) front below right =
      let item = expression_is d right in
      (row_more front row below item.0, next_right middle item.1)
  list_is (g.ListMore {row = row} {middle = middle} e d c t) front below right =
      let item = expression_is d right in
      list_is t front (row_more front row below item.0) (next_right middle item.1)

  properties_is : {row all : Row Property} {input rest : List Lexeme} → IsProperties row input all rest → AreProperties row → AreRight input → AreProperties all × AreRight rest
  properties_is (g.PropertiesEnd {input = input} e) row right = (row, next_right input right)
  properties_is (g.PropertiesLast {middle = middle} e d c f) row right =
      let all = property_is d row right in
      (all.0, next_right middle all.1)
  properties_is (g.PropertiesMore {middle = middle} e d c t) row right =
      let more = property_is d row right in
      properties_is t more.0 (next_right middle more.1)

  property_is : {row all : Row Property} {input rest : List Lexeme} → IsProperty row input all rest → AreProperties row → AreRight input → AreProperties all × AreRight rest
  property_is (g.Computed {input = input} {middle = middle} e d c f v) row right =
      let key = expression_is d (next_right input right) in
      let value = expression_is v (next_right (next middle) (next_right middle key.1)) in
      (computed_more row key.0 value.0, value.1)
  property_is (g.Keyed {input = input} {key = key} e c k d) row right =
      let value = expression_is d (next_right (next input) (next_right input right)) in
      (property_more row (key_right input key right k) value.0, value.1)
  property_is (g.Shorthand {input = input} e c n) row right = (shorthand_more _ row (named_right input right n), next_right input right)

  function_is : {input : List Lexeme} {names : List Named} {body : Row ℕ} {rest : List Lexeme} → IsFunction input names body rest → AreRight input → Each IsNamed names × IsBelow (map statement body.items) body.below × AreRight rest
  function_is (g.Function {input = input} {middle = middle} {names = names} o p c d) right =
      let parameters = parameters_right (next input) middle names (next_right input right) p in
      let body = body_is d below_none (next_right middle parameters.1) in
      (parameters.0, body.0, body.1)

  body_is : {row all : Row ℕ} {input rest : List Lexeme} → IsBody row input all rest → IsBelow (map statement row.items) row.below → AreRight input → IsBelow (map statement all.items) all.below × AreRight rest
  body_is (g.BodyEnd {input = input} e) below right = (below, next_right input right)
  body_is (g.BodyMore {row = row} e d t) below right =
      let first = statement_is d right in
      body_is t (row_more [] row below first.0.is_a) first.1

  block_is : {input rest : List Lexeme} {whole : Phrase} → IsBlock input whole rest → AreRight input → IsA Block whole × AreRight rest
  block_is (g.Block {input = input} o d) right =
      let body = body_is d below_none (next_right input right) in
      (node_is tt body.0 refl, body.1)

  pub statement_is : {input rest : List Lexeme} {whole : Phrase} → IsStatement input whole rest → AreRight input → IsStatementOf input whole × AreRight rest
  statement_is (g.Let {input = input} {middle = middle} {rest = rest} e d c) right =
      let bindings = bindings_is d no_bindings (next_right input right) in
      (declared s.Let (node_is (bindings.0.named, bindings.1) bindings.0.below refl) e refl, semicolon_right middle rest bindings.2 c)
  statement_is (g.Const {input = input} {middle = middle} {rest = rest} e d c) right =
      let bindings = const_bindings_is d no_consts (next_right input right) in
      (declared s.Const (node_is (bindings.0.named, bindings.1) bindings.0.below refl) e refl, semicolon_right middle rest bindings.2 c)
  statement_is (g.FunctionStatement {input = input} e n d) right =
      let behind = next_right input right in
      let function = function_is d (next_right (next input) behind) in
      (declared s.Function (node_is (named_right (next input) behind n, function.0) function.1 refl) e refl, function.2)
  statement_is (g.BlockStatement e d) right = let whole = block_is d right in (plain (block_body whole.0), whole.1)
  statement_is (g.Empty {input = input} e) right = (plain (node_is tt below_none refl), next_right input right)
  statement_is (g.Expression {middle = middle} {rest = rest} e d c) right =
      let value = expression_is d right in
      (plain (node_is tt (below_under value.0) refl), semicolon_right middle rest value.1 c)
  statement_is (g.If {input = input} e d b o) right =
      let test = condition_is d (next_right input right) in
      let chosen = branch_is b test.1 in
      (plain (node_is tt (below_more (below_under test.0) chosen.0) refl), chosen.1)
  statement_is (g.IfElse {input = input} {behind = behind} e d b o f) right =
      let test = condition_is d (next_right input right) in
      let chosen = branch_is b test.1 in
      let otherwise = branch_is f (next_right behind chosen.1) in
      (plain (node_is tt (below_more (below_more (below_under test.0) chosen.0) otherwise.0) refl), otherwise.1)
  statement_is (g.While {input = input} e d b) right =
      let test = condition_is d (next_right input right) in
      let body = branch_is b test.1 in
      (plain (node_is tt (below_more (below_under test.0) body.0) refl), body.1)
  statement_is (g.For {input = input} e o d) right =
      let loop = for_is d (next_right (next input) (next_right input right)) in
      (plain loop.0, loop.1)
  statement_is (g.Break {input = input} {rest = rest} e c) right = (plain (node_is tt below_none refl), semicolon_right (next input) rest (next_right input right) c)
  statement_is (g.Continue {input = input} {rest = rest} e c) right = (plain (node_is tt below_none refl), semicolon_right (next input) rest (next_right input right) c)
  statement_is (g.Return {input = input} {rest = rest} e o c) right = (plain (node_is tt below_none refl), semicolon_right (next input) rest (next_right input right) c)
  statement_is (g.ReturnValue {input = input} {middle = middle} {rest = rest} e o d c) right =
      let value = expression_is d (next_right input right) in
      (plain (node_is tt (below_more below_none value.0) refl), semicolon_right middle rest value.1 c)
  statement_is (g.Throw {input = input} {middle = middle} {rest = rest} e n d c) right =
      let value = expression_is d (next_right input right) in
      (plain (node_is tt (below_under value.0) refl), semicolon_right middle rest value.1 c)
  statement_is (g.Try {input = input} e d h) right =
      let tried = block_is d (next_right input right) in
      let whole = handled_is h tried.0 tried.1 in
      (plain whole.0, whole.1)

  condition_is : {input rest : List Lexeme} {value : Phrase} → IsCondition input value rest → AreRight input → IsA AnyExpression value × AreRight rest
  condition_is (g.Condition {input = input} {middle = middle} o d c) right =
      let value = expression_is d (next_right input right) in
      (value.0, next_right middle value.1)

  branch_is : {input rest : List Lexeme} {whole : Phrase} → IsBranch input whole rest → AreRight input → IsA Body whole × AreRight rest
  branch_is (g.Branch none d) right =
      let whole = statement_is d right in
      (as_class whole.0.is_a (whole.0.body none), whole.1)

  optional_is : {close : Sign} {below : Below} {input : List Lexeme} {value : Optional} {rest : List Lexeme} → IsOptional close below input value rest → (list : List Child) → IsBelow list below → AreRight input → IsBelow (list ++ optional expression value.number) value.below × AreRight rest
  optional_is (g.Absent {input = input} e) list below right = (absent_below below, next_right input right)
  optional_is (g.Present {middle = middle} e d c) list below right =
      let value = expression_is d right in
      (below_more below value.0, next_right middle value.1)

  for_is : {at : ℕ} {input rest : List Lexeme} {whole : Phrase} → IsFor at input whole rest → AreRight input → IsA Body whole × AreRight rest
  for_is (g.ForOf {input = input} {middle = middle} {head = head} e d c b) right =
      let found = of_head_right input head right e in
      let values = expression_is d found.1 in
      let body = branch_is b (next_right middle values.1) in
      (node_is found.0 (below_more (below_under values.0) body.0) refl, body.1)
  for_is (g.ForLet {input = input} {behind = behind} o l d c t u b) right =
      let bindings = bindings_is d no_bindings (next_right input right) in
      let test = optional_is t _ bindings.0.below (next_right behind bindings.2) in
      let update = optional_is u _ test.0 test.1 in
      let body = branch_is b update.1 in
      (node_is (bindings.0.named, bindings.1) (below_more update.0 body.0) refl, body.1)
  for_is (g.ForPlain o l d t u b) right =
      let start = optional_is d [] below_none right in
      let test = optional_is t _ start.0 start.1 in
      let update = optional_is u _ test.0 test.1 in
      let body = branch_is b update.1 in
      (node_is tt (below_more update.0 body.0) refl, body.1)

  handled_is : {at : ℕ} {tried : Phrase} {input : List Lexeme} {whole : Phrase} {rest : List Lexeme} → IsHandled at tried input whole rest → IsA Block tried → AreRight input → IsA Body whole × AreRight rest
  handled_is (g.Catch {input = input} c o d f) tried right =
      let handler = block_is d (next_right input right) in
      let finalizer = finalizer_is f _ (below_more (below_under tried) handler.0) handler.1 in
      (node_is tt finalizer.0 refl, finalizer.1)
  handled_is (g.CatchName {input = input} c o n p d f) tried right =
      let name = next_right (next input) (next_right input right) in
      let handler = block_is d (next_right (next (next (next input))) (next_right (next (next input)) name)) in
      let finalizer = finalizer_is f _ (below_more (below_under tried) handler.0) handler.1 in
      (node_is (named_right (next (next input)) name n) finalizer.0 refl, finalizer.1)
  handled_is (g.Finally {input = input} c l d) tried right =
      let finalizer = block_is d (next_right input right) in
      (node_is tt (below_more (below_under tried) finalizer.0) refl, finalizer.1)

  finalizer_is : {below : Below} {input : List Lexeme} {value : Optional} {rest : List Lexeme} → IsFinalizer below input value rest → (list : List Child) → IsBelow list below → AreRight input → IsBelow (list ++ optional block value.number) value.below × AreRight rest
  finalizer_is (g.NoFinalizer e) list below right = (absent_below below, right)
  finalizer_is (g.Finalizer {input = input} e d) list below right =
      let whole = block_is d (next_right input right) in
      (below_more below whole.0, whole.1)

  bindings_is : {row all : Row Binding} {input rest : List Lexeme} → IsBindings row input all rest → AreBindings row → AreRight input → AreBindings all × IsSome all.items × AreRight rest
  bindings_is (g.BindingsLast d c) row right = binding_is d row right
  bindings_is (g.BindingsMore {middle = middle} d c t) row right =
      let more = binding_is d row right in
      bindings_is t more.0 (next_right middle more.2)

  binding_is : {row all : Row Binding} {input rest : List Lexeme} → IsBinding row input all rest → AreBindings row → AreRight input → AreBindings all × IsSome all.items × AreRight rest
  binding_is (g.BindingName {row = row} {input = input} n a) are right = (name_more _ are (named_right input right n), some_more row.items _, next_right input right)
  binding_is (g.BindingValue {row = row} {input = input} n a d) are right =
      let value = expression_is d (next_right (next input) (next_right input right)) in
      (value_more _ are (named_right input right n) value.0, some_more row.items _, value.1)

  const_bindings_is : {row all : Row ConstBinding} {input rest : List Lexeme} → IsConstBindings row input all rest → AreConsts row → AreRight input → AreConsts all × IsSome all.items × AreRight rest
  const_bindings_is (g.ConstLast d c) row right = const_binding_is d row right
  const_bindings_is (g.ConstMore {middle = middle} d c t) row right =
      let more = const_binding_is d row right in
      const_bindings_is t more.0 (next_right middle more.2)

  const_binding_is : {row all : Row ConstBinding} {input rest : List Lexeme} → IsConstBinding row input all rest → AreConsts row → AreRight input → AreConsts all × IsSome all.items × AreRight rest
  const_binding_is (g.ConstName {row = row} {input = input} o n a d) are right =
      let value = expression_is d (next_right (next input) (next_right input right)) in
      (constant_more _ are (named_right input right n) value.0, some_more row.items _, value.1)
  const_binding_is (g.ConstPattern {row = row} {input = input} {middle = middle} {names = names} o p a d) are right =
      let found = pattern_right (next input) middle names (next_right input right) p in
      let value = expression_is d (next_right middle found.2) in
      (pattern_more names are found.0 found.1 value.0, some_more row.items _, value.1)

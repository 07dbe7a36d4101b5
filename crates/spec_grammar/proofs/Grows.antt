-- A phrase takes a token at least and has a node; what goes on from something is no lower than it.
use Rattle.std.proofs.Common.{◌≡◌, ℕ, suc, ◌≤◌, ◌<◌, Bool, List, length, refl, sym, ◌∙◌, arith}
use Rattle.std.specs.Prelude.{Option, Some, None}
use Rattle.spec_tokens.specs.Tokens.{Lexeme}
use Rattle.snap_ast.specs.declared.operator.AssignOperator.{AssignOperator}
use Rattle.snap_ast.specs.declared.operator.UpdateOperator.{UpdateOperator}
use Rattle.snap_ast.specs.declared.part.Binding.{Binding}
use Rattle.snap_ast.specs.declared.part.ConstBinding.{ConstBinding}
use Rattle.snap_ast.specs.declared.part.Named.{Named}
use Rattle.snap_ast.specs.declared.part.Property.{Property}
use Rattle.spec_grammar.proofs.Shorter.{arrow_head_shorter, lone_name_seen, next_le, of_head_le, parameters_le, pattern_le, semicolon_le, sees_shorter, sign_shorter}
use Rattle.spec_grammar.specs.Grammar as g
use Rattle.spec_grammar.specs.Grammar.{IsExpression, IsSequel, IsOperand, IsChain, IsUnary, IsCall, IsTail, IsNew, IsMember, IsPrimary, IsList, IsProperties, IsProperty, IsFunction, IsBody, IsBlock, IsStatement, IsCondition, IsBranch, IsOptional, IsFor, IsHandled, IsFinalizer, IsBindings, IsBinding, IsConstBindings, IsConstBinding}
use Rattle.spec_grammar.specs.Nodes.{name_of, postfix_by, postfix_node, assign_by, assign_node}
use Rattle.spec_grammar.specs.Phrase.{Phrase, Below, Row, Optional}
use Rattle.spec_grammar.specs.Sign.{next, same_sign}
use Rattle.spec_grammar.specs.declared.sign.Sign.{Sign}
use Rattle.spec_grammar.specs.declared.sign.Sign.TheVariants as s

-- a phrase that is a name has no node but that one
pub record IsLeaf (value : Phrase) : Type 0 where
  pub low : (named : Named) → name_of value ≡ Some named → value.height ≤ 1

-- a phrase with a node, which takes a token at least
pub record Takes (value : Phrase) (input rest : List Lexeme) : Type 0 where
  pub tall : 1 ≤ value.height
  pub shorter : length rest < length input
  pub single : IsLeaf value

-- what a phrase becomes with what stands behind it
pub record Goes (left value : Phrase) (input rest : List Lexeme) : Type 0 where
  pub higher : IsLeaf left → 1 ≤ left.height → left.height ≤ value.height
  pub within : length rest ≤ length input
  pub single : IsLeaf left → IsLeaf value

-- a height that is no lower than another, behind which no more tokens stand
pub record Grows (low high : ℕ) (input rest : List Lexeme) : Type 0 where
  pub higher : low ≤ high
  pub within : length rest ≤ length input

-- a phrase that is no name
pub leafless : {value : Phrase} → name_of value ≡ None → IsLeaf value
leafless none = record { low = λ named e. absurd (some_none (sym none ∙ e)) } where
  some_none : {named : Named} → ◌≡◌ {A = Option Named} None (Some named) → ⊥
  some_none e = absurd cc

pub postfix_takes : (operator : UpdateOperator) (target : Phrase) (named : Option Named) → (1 ≤ (postfix_by operator target named).height) × (name_of (postfix_by operator target named) ≡ None)
unfolding name_of
postfix_takes operator target (Some named) = (omega arith, refl)
postfix_takes operator target None = (omega arith, refl)

pub assign_goes : (operator : AssignOperator) (left value : Phrase) (named : Option Named) → name_of left ≡ named → IsLeaf left → 1 ≤ value.height → left.height ≤ (assign_by operator left value named).height
assign_goes operator left value (Some named) e leaf tall = let low = leaf.low named e in omega (arith, low, tall)
assign_goes operator left value None e leaf tall = omega arith

assign_single : (operator : AssignOperator) (left value : Phrase) (named : Option Named) → name_of (assign_by operator left value named) ≡ None
unfolding name_of
assign_single operator left value (Some named) = refl
assign_single operator left value None = refl

mutual
  unfolding name_of postfix_node assign_node same_sign

  pub expression_takes : {input rest : List Lexeme} {value : Phrase} → IsExpression input value rest → Takes value input rest
  expression_takes (g.ArrowValue {input = input} {head = head} e b d) = record { tall = omega arith; shorter = omega (arith, expression_takes d, arrow_head_shorter input head e); single = leafless refl }
  expression_takes (g.ArrowBody {input = input} {head = head} e b d) = record { tall = omega arith; shorter = omega (arith, body_grows d, next_le head.behind, arrow_head_shorter input head e); single = leafless refl }
  expression_takes (g.NoArrow e d t) =
      let first = operand_takes d in
      let more = sequel_goes t in
      record { tall = omega (arith, first.tall, more.higher first.single first.tall); shorter = omega (arith, first.shorter, more.within); single = more.single first.single }

  pub sequel_goes : {left value : Phrase} {input rest : List Lexeme} → IsSequel left input value rest → Goes left value input rest
  sequel_goes (g.NoMore e) = record { higher = λ leaf tall. omega arith; within = omega arith; single = λ leaf. leaf }
  sequel_goes (g.Conditional {input = input} {middle = middle} e d c f) = record { higher = λ leaf tall. omega arith; within = omega (arith, expression_takes d, expression_takes f, next_le input, next_le middle); single = λ leaf. leafless refl }
  sequel_goes (g.Assign {left = left} {input = input} {operator = operator} {value = value} e w d) =
      let right = expression_takes d in
      record { higher = λ leaf tall. assign_goes operator left value (name_of left) refl leaf right.tall; within = omega (arith, right.shorter, next_le input); single = λ leaf. leafless (assign_single operator left value (name_of left)) }

  pub operand_takes : {level : ℕ} {input rest : List Lexeme} {value : Phrase} → IsOperand level input value rest → Takes value input rest
  operand_takes (g.Lowest d) = unary_takes d
  operand_takes (g.Chain d t) =
      let first = operand_takes d in
      let more = chain_goes t in
      record { tall = omega (arith, first.tall, more.higher first.single first.tall); shorter = omega (arith, first.shorter, more.within); single = more.single first.single }

  pub chain_goes : {level : ℕ} {left value : Phrase} {input rest : List Lexeme} → IsChain level left input value rest → Goes left value input rest
  chain_goes (g.ChainEnd e) = record { higher = λ leaf tall. omega arith; within = omega arith; single = λ leaf. leaf }
  chain_goes (g.ChainLink {input = input} e d t) =
      let more = chain_goes t in
      record { higher = λ leaf tall. omega (arith, more.higher (leafless refl) (omega arith)); within = omega (arith, operand_takes d, more.within, next_le input); single = λ leaf. more.single (leafless refl) }

  pub unary_takes : {input rest : List Lexeme} {value : Phrase} → IsUnary input value rest → Takes value input rest
  unary_takes (g.Prefix {input = input} e d t) = record { tall = omega arith; shorter = omega (arith, unary_takes d, next_le input); single = leafless refl }
  unary_takes (g.PrefixName {input = input} e l) = record { tall = omega arith; shorter = omega (arith, sees_shorter (next input) s.Name (lone_name_seen (next input) l) refl, next_le input); single = leafless refl }
  unary_takes (g.PrefixTarget {input = input} e l d w) = record { tall = omega arith; shorter = omega (arith, unary_takes d, next_le input); single = leafless refl }
  unary_takes (g.Postfix {middle = middle} {operator = operator} {target = target} l d e w) =
      let made = postfix_takes operator target (name_of target) in
      record { tall = made.0; shorter = omega (arith, call_takes d, next_le middle); single = leafless made.1 }
  unary_takes (g.NoOperator l d e) = call_takes d

  pub call_takes : {input rest : List Lexeme} {value : Phrase} → IsCall input value rest → Takes value input rest
  call_takes (g.CallOfNew d t) =
      let first = new_takes d in
      let more = tail_goes t in
      record { tall = omega (arith, first.tall, more.higher first.single first.tall); shorter = omega (arith, first.shorter, more.within); single = more.single first.single }
  call_takes (g.CallOfPrimary n d t) =
      let first = primary_takes d in
      let more = tail_goes t in
      record { tall = omega (arith, first.tall, more.higher first.single first.tall); shorter = omega (arith, first.shorter, more.within); single = more.single first.single }

  pub tail_goes : {calls : Bool} {left value : Phrase} {input rest : List Lexeme} → IsTail calls left input value rest → Goes left value input rest
  tail_goes (g.TailEnd e) = record { higher = λ leaf tall. omega arith; within = omega arith; single = λ leaf. leaf }
  tail_goes (g.TailWord {input = input} e w t) =
      let more = tail_goes t in
      record { higher = λ leaf tall. omega (arith, more.higher (leafless refl) (omega arith)); within = omega (arith, more.within, next_le input, next_le (next input)); single = λ leaf. more.single (leafless refl) }
  tail_goes (g.TailIndex {input = input} {middle = middle} e d c t) =
      let more = tail_goes t in
      record { higher = λ leaf tall. omega (arith, more.higher (leafless refl) (omega arith)); within = omega (arith, expression_takes d, more.within, next_le input, next_le middle); single = λ leaf. more.single (leafless refl) }
  tail_goes (g.TailArguments {input = input} e d t) =
      let more = tail_goes t in
      record { higher = λ leaf tall. omega (arith, list_grows d, more.higher (leafless refl) (omega arith)); within = omega (arith, list_grows d, more.within, next_le input); single = λ leaf. more.single (leafless refl) }

  pub new_takes : {input rest : List Lexeme} {value : Phrase} → IsNew input value rest → Takes value input rest
  new_takes (g.NewWithout {input = input} n d o) = record { tall = omega arith; shorter = omega (arith, member_takes d, next_le input); single = leafless refl }
  new_takes (g.NewWith {input = input} {middle = middle} n d o l) = record { tall = omega arith; shorter = omega (arith, member_takes d, list_grows l, next_le input, next_le middle); single = leafless refl }

  pub member_takes : {input rest : List Lexeme} {value : Phrase} → IsMember input value rest → Takes value input rest
  member_takes (g.Member d t) =
      let first = primary_takes d in
      let more = tail_goes t in
      record { tall = omega (arith, first.tall, more.higher first.single first.tall); shorter = omega (arith, first.shorter, more.within); single = more.single first.single }

  pub primary_takes : {input rest : List Lexeme} {value : Phrase} → IsPrimary input value rest → Takes value input rest
  primary_takes (g.Name {input = input} e) = record { tall = omega arith; shorter = sign_shorter input s.Name e refl; single = record { low = λ named e. omega arith } }
  primary_takes (g.Number {input = input} e) = record { tall = omega arith; shorter = sign_shorter input s.Number e refl; single = leafless refl }
  primary_takes (g.Text {input = input} e) = record { tall = omega arith; shorter = sign_shorter input s.Text e refl; single = leafless refl }
  primary_takes (g.True {input = input} e) = record { tall = omega arith; shorter = sign_shorter input s.True e refl; single = leafless refl }
  primary_takes (g.False {input = input} e) = record { tall = omega arith; shorter = sign_shorter input s.False e refl; single = leafless refl }
  primary_takes (g.Null {input = input} e) = record { tall = omega arith; shorter = sign_shorter input s.Null e refl; single = leafless refl }
  primary_takes (g.Undefined {input = input} e) = record { tall = omega arith; shorter = sign_shorter input s.Undefined e refl; single = leafless refl }
  primary_takes (g.Parentheses {input = input} {middle = middle} e d c) =
      let inner = expression_takes d in
      record { tall = omega (arith, inner.tall); shorter = omega (arith, inner.shorter, next_le input, next_le middle); single = record { low = λ named e. inner.single.low named e } }
  primary_takes (g.Array {input = input} e l) = record { tall = omega arith; shorter = omega (arith, list_grows l, sign_shorter input s.OpenSquare e refl); single = leafless refl }
  primary_takes (g.Object {input = input} e l) = record { tall = omega arith; shorter = omega (arith, properties_grows l, sign_shorter input s.OpenCurly e refl); single = leafless refl }
  primary_takes (g.FunctionValue {input = input} e d) = record { tall = omega arith; shorter = omega (arith, function_le d, sign_shorter input s.Function e refl); single = leafless refl }

  pub list_grows : {close : Sign} {row all : Row ℕ} {input rest : List Lexeme} → IsList close row input all rest → Grows row.below.height all.below.height input rest
  list_grows (g.ListEnd {input = input} e) = record { higher = omega arith; within = next_le input }
  list_grows (g.ListLast {middle = middle} e d c f) = record { higher = omega arith; within = omega (arith, expression_takes d, next_le middle) }
  list_grows (g.ListMore {middle = middle} e d c l) = record { higher = omega (arith, list_grows l); within = omega (arith, expression_takes d, list_grows l, next_le middle) }

  pub properties_grows : {row all : Row Property} {input rest : List Lexeme} → IsProperties row input all rest → Grows row.below.height all.below.height input rest
  properties_grows (g.PropertiesEnd {input = input} e) = record { higher = omega arith; within = next_le input }
  properties_grows (g.PropertiesLast {middle = middle} e d c f) = record { higher = omega (arith, property_grows d); within = omega (arith, property_grows d, next_le middle) }
  properties_grows (g.PropertiesMore {middle = middle} e d c l) = record { higher = omega (arith, property_grows d, properties_grows l); within = omega (arith, property_grows d, properties_grows l, next_le middle) }

  pub property_grows : {row all : Row Property} {input rest : List Lexeme} → IsProperty row input all rest → Grows row.below.height all.below.height input rest
  property_grows (g.Computed {input = input} {middle = middle} e d c o f) = record { higher = omega arith; within = omega (arith, expression_takes d, expression_takes f, next_le input, next_le middle, next_le (next middle)) }
  property_grows (g.Keyed {input = input} o c k d) = record { higher = omega arith; within = omega (arith, expression_takes d, next_le input, next_le (next input)) }
  property_grows (g.Shorthand {input = input} o c n) = record { higher = omega arith; within = next_le input }

  pub function_le : {input rest : List Lexeme} {names : List Named} {body : Row ℕ} → IsFunction input names body rest → length rest ≤ length input
  function_le (g.Function {input = input} {middle = middle} {names = names} o p c d) = omega (arith, parameters_le (next input) middle names p, body_grows d, next_le input, next_le middle)

  pub body_grows : {row all : Row ℕ} {input rest : List Lexeme} → IsBody row input all rest → Grows row.below.height all.below.height input rest
  body_grows (g.BodyEnd {input = input} e) = record { higher = omega arith; within = next_le input }
  body_grows (g.BodyMore e d l) = record { higher = omega (arith, body_grows l); within = omega (arith, statement_takes d, body_grows l) }

  pub block_takes : {input rest : List Lexeme} {value : Phrase} → IsBlock input value rest → Takes value input rest
  block_takes (g.Block {input = input} e d) = record { tall = omega arith; shorter = omega (arith, body_grows d, sees_shorter input s.OpenCurly e refl); single = leafless refl }

  pub statement_takes : {input rest : List Lexeme} {value : Phrase} → IsStatement input value rest → Takes value input rest
  statement_takes (g.Let {input = input} {middle = middle} {rest = rest} e d f) = record { tall = omega arith; shorter = omega (arith, bindings_grows d, semicolon_le middle rest f, sign_shorter input s.Let e refl); single = leafless refl }
  statement_takes (g.Const {input = input} {middle = middle} {rest = rest} e d f) = record { tall = omega arith; shorter = omega (arith, const_bindings_grows d, semicolon_le middle rest f, sign_shorter input s.Const e refl); single = leafless refl }
  statement_takes (g.FunctionStatement {input = input} e n d) = record { tall = omega arith; shorter = omega (arith, function_le d, next_le (next input), sign_shorter input s.Function e refl); single = leafless refl }
  statement_takes (g.BlockStatement e d) = block_takes d
  statement_takes (g.Empty {input = input} e) = record { tall = omega arith; shorter = sign_shorter input s.Semicolon e refl; single = leafless refl }
  statement_takes (g.Expression {middle = middle} {rest = rest} b d e) = record { tall = omega arith; shorter = omega (arith, expression_takes d, semicolon_le middle rest e); single = leafless refl }
  statement_takes (g.If {input = input} e c d n) = record { tall = omega arith; shorter = omega (arith, condition_le c, branch_takes d, next_le input); single = leafless refl }
  statement_takes (g.IfElse {input = input} {behind = behind} e c d n f) = record { tall = omega arith; shorter = omega (arith, condition_le c, branch_takes d, branch_takes f, next_le input, next_le behind); single = leafless refl }
  statement_takes (g.While {input = input} e c d) = record { tall = omega arith; shorter = omega (arith, condition_le c, branch_takes d, next_le input); single = leafless refl }
  statement_takes (g.For {input = input} e o d) =
      let loop = for_takes d in
      record { tall = loop.tall; shorter = omega (arith, loop.shorter, next_le input, next_le (next input)); single = loop.single }
  statement_takes (g.Break {input = input} {rest = rest} e f) = record { tall = omega arith; shorter = omega (arith, semicolon_le (next input) rest f, sign_shorter input s.Break e refl); single = leafless refl }
  statement_takes (g.Continue {input = input} {rest = rest} e f) = record { tall = omega arith; shorter = omega (arith, semicolon_le (next input) rest f, sign_shorter input s.Continue e refl); single = leafless refl }
  statement_takes (g.Return {input = input} {rest = rest} e o f) = record { tall = omega arith; shorter = omega (arith, semicolon_le (next input) rest f, sign_shorter input s.Return e refl); single = leafless refl }
  statement_takes (g.ReturnValue {input = input} {middle = middle} {rest = rest} e o d f) = record { tall = omega arith; shorter = omega (arith, expression_takes d, semicolon_le middle rest f, next_le input); single = leafless refl }
  statement_takes (g.Throw {input = input} {middle = middle} {rest = rest} e o d f) = record { tall = omega arith; shorter = omega (arith, expression_takes d, semicolon_le middle rest f, next_le input); single = leafless refl }
  statement_takes (g.Try {input = input} e d h) =
      let whole = handled_takes h in
      record { tall = whole.tall; shorter = omega (arith, block_takes d, whole.shorter, next_le input); single = whole.single }

  pub condition_le : {input rest : List Lexeme} {value : Phrase} → IsCondition input value rest → length rest ≤ length input
  condition_le (g.Condition {input = input} {middle = middle} o d c) = omega (arith, expression_takes d, next_le input, next_le middle)

  pub branch_takes : {input rest : List Lexeme} {value : Phrase} → IsBranch input value rest → Takes value input rest
  branch_takes (g.Branch n d) = statement_takes d

  pub optional_grows : {close : Sign} {below : Below} {input rest : List Lexeme} {found : Optional} → IsOptional close below input found rest → Grows below.height found.below.height input rest
  optional_grows (g.Absent {input = input} e) = record { higher = omega arith; within = next_le input }
  optional_grows (g.Present {middle = middle} e d c) = record { higher = omega arith; within = omega (arith, expression_takes d, next_le middle) }

  pub for_takes : {at : ℕ} {input rest : List Lexeme} {value : Phrase} → IsFor at input value rest → Takes value input rest
  for_takes (g.ForOf {input = input} {middle = middle} {head = head} e d c b) = record { tall = omega arith; shorter = omega (arith, of_head_le input head e, expression_takes d, branch_takes b, next_le middle); single = leafless refl }
  for_takes (g.ForLet {input = input} {behind = behind} e l d f t u b) = record { tall = omega arith; shorter = omega (arith, bindings_grows d, optional_grows t, optional_grows u, branch_takes b, next_le input, next_le behind); single = leafless refl }
  for_takes (g.ForPlain e l i t u b) = record { tall = omega arith; shorter = omega (arith, optional_grows i, optional_grows t, optional_grows u, branch_takes b); single = leafless refl }

  pub handled_takes : {at : ℕ} {tried value : Phrase} {input rest : List Lexeme} → IsHandled at tried input value rest → Takes value input rest
  handled_takes (g.Catch {input = input} c o d f) = record { tall = omega arith; shorter = omega (arith, block_takes d, finalizer_grows f, next_le input); single = leafless refl }
  handled_takes (g.CatchName {input = input} c o n p d f) = record { tall = omega arith; shorter = omega (arith, block_takes d, finalizer_grows f, next_le input, next_le (next input), next_le (next (next input)), next_le (next (next (next input)))); single = leafless refl }
  handled_takes (g.Finally {input = input} c f d) = record { tall = omega arith; shorter = omega (arith, block_takes d, next_le input); single = leafless refl }

  pub finalizer_grows : {below : Below} {input rest : List Lexeme} {found : Optional} → IsFinalizer below input found rest → Grows below.height found.below.height input rest
  finalizer_grows (g.NoFinalizer e) = record { higher = omega arith; within = omega arith }
  finalizer_grows (g.Finalizer {input = input} e d) = record { higher = omega arith; within = omega (arith, block_takes d, next_le input) }

  pub bindings_grows : {row all : Row Binding} {input rest : List Lexeme} → IsBindings row input all rest → Grows row.below.height all.below.height input rest
  bindings_grows (g.BindingsLast d e) = binding_grows d
  bindings_grows (g.BindingsMore {middle = middle} d e l) = record { higher = omega (arith, binding_grows d, bindings_grows l); within = omega (arith, binding_grows d, bindings_grows l, next_le middle) }

  pub binding_grows : {row all : Row Binding} {input rest : List Lexeme} → IsBinding row input all rest → Grows row.below.height all.below.height input rest
  binding_grows (g.BindingName {input = input} n e) = record { higher = omega arith; within = next_le input }
  binding_grows (g.BindingValue {input = input} n e d) = record { higher = omega arith; within = omega (arith, expression_takes d, next_le input, next_le (next input)) }

  pub const_bindings_grows : {row all : Row ConstBinding} {input rest : List Lexeme} → IsConstBindings row input all rest → Grows row.below.height all.below.height input rest
  const_bindings_grows (g.ConstLast d e) = const_binding_grows d
  const_bindings_grows (g.ConstMore {middle = middle} d e l) = record { higher = omega (arith, const_binding_grows d, const_bindings_grows l); within = omega (arith, const_binding_grows d, const_bindings_grows l, next_le middle) }

  pub const_binding_grows : {row all : Row ConstBinding} {input rest : List Lexeme} → IsConstBinding row input all rest → Grows row.below.height all.below.height input rest
  const_binding_grows (g.ConstName {input = input} b n e d) = record { higher = omega arith; within = omega (arith, expression_takes d, next_le input, next_le (next input)) }
  const_binding_grows (g.ConstPattern {input = input} {middle = middle} {names = names} b p e d) = record { higher = omega arith; within = omega (arith, pattern_le (next input) middle names p, expression_takes d, next_le input, next_le middle) }

-- a try is above its first block
pub handled_higher : {at : ℕ} {tried : Phrase} {input rest : List Lexeme} {value : Phrase} → IsHandled at tried input value rest → suc tried.height ≤ value.height
handled_higher (g.Catch c o d f) = omega (arith, finalizer_grows f)
handled_higher (g.CatchName c o n p d f) = omega (arith, finalizer_grows f)
handled_higher (g.Finally c f d) = omega arith

pub binding_shorter : {row : Row Binding} {input rest : List Lexeme} {all : Row Binding} → IsBinding row input all rest → length rest < length input
unfolding same_sign
binding_shorter (g.BindingName {input = input} n e) = sees_shorter input s.Name n refl
binding_shorter (g.BindingValue {input = input} n e d) = omega (arith, expression_takes d, next_le input, next_le (next input))

pub const_binding_shorter : {row : Row ConstBinding} {input rest : List Lexeme} {all : Row ConstBinding} → IsConstBinding row input all rest → length rest < length input
const_binding_shorter (g.ConstName {input = input} b n e d) = omega (arith, expression_takes d, next_le input, next_le (next input))
const_binding_shorter (g.ConstPattern {input = input} {middle = middle} {names = names} b p e d) = omega (arith, pattern_le (next input) middle names p, expression_takes d, next_le input, next_le middle)

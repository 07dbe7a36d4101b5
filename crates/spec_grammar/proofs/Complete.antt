-- What the grammar has is read, where its levels fit, and else is nested too deep.
use Rattle.std.proofs.Common.{◌≡◌, ℕ, suc, ◌≤◌, ◌<◌, ◌+◌, Bool, true, false, List, length, refl, arith}
use Rattle.spec_tokens.specs.Tokens.{Lexeme}
use Rattle.snap_ast.specs.declared.form.Form.TheVariants as f
use Rattle.snap_ast.specs.declared.part.Binding.{Binding}
use Rattle.snap_ast.specs.declared.part.ConstBinding.{ConstBinding}
use Rattle.snap_ast.specs.declared.part.Named.{Named}
use Rattle.snap_ast.specs.declared.part.Property.{Property}
use Rattle.spec_grammar.proofs.Finds.{Finds, at_any}
use Rattle.spec_grammar.proofs.Grows as w
use Rattle.spec_grammar.proofs.Grows.{IsLeaf, Takes, leafless}
use Rattle.spec_grammar.proofs.Shorter.{sees_shorter}
use Rattle.spec_grammar.proofs.StepsExpressions as e
use Rattle.spec_grammar.proofs.StepsStatements as t
use Rattle.spec_grammar.specs.Grammar as g
use Rattle.spec_grammar.specs.Grammar.{IsExpression, IsSequel, IsOperand, IsChain, IsUnary, IsCall, IsTail, IsNew, IsMember, IsPrimary, IsList, IsProperties, IsProperty, IsFunction, IsBody, IsBlock, IsStatement, IsCondition, IsBranch, IsOptional, IsFor, IsHandled, IsFinalizer, IsBindings, IsBinding, IsConstBindings, IsConstBinding}
use Rattle.spec_grammar.specs.Nodes as node
use Rattle.spec_grammar.specs.Nodes.{name_of}
use Rattle.spec_grammar.specs.Parts.{named_at}
use Rattle.spec_grammar.specs.Phrase.{Phrase, Below, Row, Optional}
use Rattle.spec_grammar.specs.Read.{phrase}
use Rattle.spec_grammar.specs.ReadLists.{list_from, list, body_from, body, block, function}
use Rattle.spec_grammar.specs.ReadExpressions as r
use Rattle.spec_grammar.specs.ReadStatements as q
use Rattle.spec_grammar.specs.Sign.{next, same_sign, start_at, text_at}
use Rattle.spec_grammar.specs.declared.sign.Sign.{Sign}
use Rattle.spec_grammar.specs.declared.sign.Sign.TheVariants as s
use Rattle.spec_grammar.specs.declared.start.Start.TheVariants as start

-- ---- a phrase at every level

expression_below : {rest : List Lexeme} {value : Phrase} (input : List Lexeme) → Takes value input rest → ((m : ℕ) → Finds (suc m) value.height (r.expression (phrase m) m input) value rest) → (m : ℕ) → Finds m value.height (phrase m start.Expression input) value rest
unfolding phrase
expression_below input takes found m = at_any start.Expression input takes.tall found m

statement_below : {rest : List Lexeme} {value : Phrase} (input : List Lexeme) → Takes value input rest → ((m : ℕ) → Finds (suc m) value.height (q.statement (phrase m) input) value rest) → (m : ℕ) → Finds m value.height (phrase m start.Statement input) value rest
unfolding phrase
statement_below input takes found m = at_any start.Statement input takes.tall found m

block_below : {rest : List Lexeme} {value : Phrase} (input : List Lexeme) → Takes value input rest → ((m : ℕ) → Finds (suc m) value.height (block (phrase m) input) value rest) → (m : ℕ) → Finds m value.height (phrase m start.Block input) value rest
unfolding phrase
block_below input takes found m = at_any start.Block input takes.tall found m

member_below : {rest : List Lexeme} {value : Phrase} (input : List Lexeme) → Takes value input rest → ((m : ℕ) → Finds (suc m) value.height (r.member (phrase m) m input) value rest) → (m : ℕ) → Finds m value.height (phrase m start.Member input) value rest
unfolding phrase
member_below input takes found m = at_any start.Member input takes.tall found m

operand_below : {rest : List Lexeme} {value : Phrase} (level : ℕ) (input : List Lexeme) → Takes value input rest → ((m : ℕ) → Finds (suc m) value.height (r.operand_with (phrase m) m (r.base_at (phrase m) m (r.parens input)) level input) value rest) → (m : ℕ) → Finds m value.height (phrase m (start.Operand level) input) value rest
unfolding phrase r.operand
operand_below level input takes found m = at_any (start.Operand level) input takes.tall found m

unary_below : {rest : List Lexeme} {value : Phrase} (input : List Lexeme) → Takes value input rest → ((m : ℕ) → Finds (suc m) value.height (r.unary_with (phrase m) m (r.base_at (phrase m) m (r.parens input)) input) value rest) → (m : ℕ) → Finds m value.height (phrase m (start.Operand 0) input) value rest
unary_below input takes found m = operand_below 0 input takes (λ m. e.operand_lowest (phrase m) m (r.base_at (phrase m) m (r.parens input)) input (found m)) m

-- ---- the whole grammar

mutual
  unfolding name_of same_sign list body r.properties q.bindings q.const_bindings r.primary_by

  pub expression_found : {input rest : List Lexeme} {value : Phrase} → IsExpression input value rest → (m : ℕ) → Finds (suc m) value.height (r.expression (phrase m) m input) value rest
  expression_found (g.ArrowValue {input = input} {head = head} a b d) m = e.arrow_value (phrase m) m input a b (expression_below head.behind (w.expression_takes d) (expression_found d) m)
  expression_found (g.ArrowBody {input = input} {head = head} a b d) m = e.arrow_body (phrase m) m input a b (body_found d m (length (next head.behind)) (omega arith) (omega arith))
  expression_found (g.NoArrow {input = input} a d t) m =
      let first = w.operand_takes d in
      let more = w.sequel_goes t in
      e.no_arrow (phrase m) m input a (operand_found d m) (more.higher first.single first.tall) (λ h. sequel_found t m h)

  pub sequel_found : {left value : Phrase} {input rest : List Lexeme} → IsSequel left input value rest → (m : ℕ) → left.height ≤ suc m → Finds (suc m) value.height (r.sequel (phrase m) m left input) value rest
  sequel_found (g.NoMore {left = left} {input = input} a) m h = e.no_more (phrase m) m left input a h
  sequel_found (g.Conditional {left = left} {input = input} {middle = middle} a d c b) m h = e.conditional (phrase m) m left input a (expression_below (next input) (w.expression_takes d) (expression_found d) m) c (expression_below (next middle) (w.expression_takes b) (expression_found b) m)
  sequel_found (g.Assign {left = left} {input = input} a b d) m h = e.assign (phrase m) m left input a b (expression_below (next input) (w.expression_takes d) (expression_found d) m)

  pub operand_found : {level : ℕ} {input rest : List Lexeme} {value : Phrase} → IsOperand level input value rest → (m : ℕ) → Finds (suc m) value.height (r.operand_with (phrase m) m (r.base_at (phrase m) m (r.parens input)) level input) value rest
  operand_found (g.Lowest {input = input} d) m = e.operand_lowest (phrase m) m (r.base_at (phrase m) m (r.parens input)) input (unary_found d m)
  operand_found (g.Chain {level = level} {input = input} d t) m =
      let first = w.operand_takes d in
      let more = w.chain_goes t in
      e.operand_chain (phrase m) m level (r.base_at (phrase m) m (r.parens input)) input (operand_found d m) (more.higher first.single first.tall) (λ h. chain_found t m (suc m) h (omega (arith, first.tall)))

  pub chain_found : {level : ℕ} {left value : Phrase} {input rest : List Lexeme} → IsChain level left input value rest → (m turns : ℕ) → left.height ≤ suc m → suc m < left.height + turns → Finds (suc m) value.height (r.chain_from (phrase m) m level turns left input) value rest
  chain_found (g.ChainEnd {level = level} {left = left} {input = input} a) m turns h l = e.chain_end (phrase m) m turns level left input a (omega arith) h
  chain_found (g.ChainLink {level = level} {left = left} {input = input} a d c) m turns h l =
      let more = w.chain_goes c in
      e.chain_link (phrase m) m turns level left input a (operand_below level (next input) (w.operand_takes d) (operand_found d) m) (more.higher (leafless refl) (omega arith)) (λ turns h l. chain_found c m turns h l) h l

  pub unary_found : {input rest : List Lexeme} {value : Phrase} → IsUnary input value rest → (m : ℕ) → Finds (suc m) value.height (r.unary_with (phrase m) m (r.base_at (phrase m) m (r.parens input)) input) value rest
  unary_found (g.Prefix {input = input} a d c) m = e.unary_prefix (phrase m) m (r.base_at (phrase m) m (r.parens input)) input a (unary_below (next input) (w.unary_takes d) (unary_found d) m) c
  unary_found (g.PrefixName {input = input} a l) m = e.unary_name (phrase m) m (r.base_at (phrase m) m (r.parens input)) input a l
  unary_found (g.PrefixTarget {input = input} a l d c) m = e.unary_target (phrase m) m (r.base_at (phrase m) m (r.parens input)) input a l (unary_below (next input) (w.unary_takes d) (unary_found d) m) c
  unary_found (g.Postfix {input = input} a d b c) m = e.unary_postfix (phrase m) m (r.base_at (phrase m) m (r.parens input)) input a (call_found d m) (w.call_takes d).single b c
  unary_found (g.NoOperator {input = input} a d b) m = e.unary_plain (phrase m) m (r.base_at (phrase m) m (r.parens input)) input a (call_found d m) b

  pub call_found : {input rest : List Lexeme} {value : Phrase} → IsCall input value rest → (m : ℕ) → Finds (suc m) value.height (r.call_with (phrase m) m (r.base_at (phrase m) m (r.parens input)) input) value rest
  call_found (g.CallOfNew {input = input} d c) m =
      let first = w.new_takes d in
      let more = w.tail_goes c in
      e.call_of (phrase m) m (r.base_at (phrase m) m (r.parens input)) input (new_found d m) (more.higher first.single first.tall) (λ h. tail_found c m (suc m) h (omega (arith, first.tall)))
  call_found (g.CallOfPrimary {input = input} n d c) m =
      let first = w.primary_takes d in
      let more = w.tail_goes c in
      e.call_primary (phrase m) m input n (primary_found d m) (more.higher first.single first.tall) (λ h. tail_found c m (suc m) h (omega (arith, first.tall)))

  pub tail_found : {calls : Bool} {left value : Phrase} {input rest : List Lexeme} → IsTail calls left input value rest → (m turns : ℕ) → left.height ≤ suc m → suc m < left.height + turns → Finds (suc m) value.height (r.tail_from (phrase m) m calls turns left input) value rest
  tail_found (g.TailEnd {calls = calls} {left = left} {input = input} a) m turns h l = e.tail_end (phrase m) m turns calls left input a (omega arith) h
  tail_found (g.TailWord {calls = calls} {left = left} {input = input} a b c) m turns h l =
      let more = w.tail_goes c in
      e.tail_word (phrase m) m turns calls left input a b (more.higher (leafless refl) (omega arith)) (λ turns h l. tail_found c m turns h l) h l
  tail_found (g.TailIndex {calls = calls} {left = left} {input = input} a d b c) m turns h l =
      let more = w.tail_goes c in
      e.tail_index (phrase m) m turns calls left input a (expression_below (next input) (w.expression_takes d) (expression_found d) m) b (more.higher (leafless refl) (omega arith)) (λ turns h l. tail_found c m turns h l) h l
  tail_found (g.TailArguments {calls = calls} {left = left} {input = input} a d c) m turns h l =
      let more = w.tail_goes c in
      e.tail_arguments (phrase m) m turns calls left input a (w.list_grows d).higher (λ k. list_found d m (length (next input)) refl k (omega arith)) (more.higher (leafless refl) (omega arith)) (λ turns h l. tail_found c m turns h l) h l

  pub new_found : {input rest : List Lexeme} {value : Phrase} → IsNew input value rest → (m : ℕ) → Finds (suc m) value.height (r.base_at (phrase m) m (r.parens input) input) value rest
  new_found (g.NewWithout {input = input} n d o) m = e.new_at (phrase m) m input n refl (e.new_without (phrase m) m input n (member_below (next input) (w.member_takes d) (member_found d) m) o)
  new_found (g.NewWith {input = input} {middle = middle} n d o l) m = e.new_at (phrase m) m input n refl (e.new_with (phrase m) m input n (member_below (next input) (w.member_takes d) (member_found d) m) o (w.list_grows l).higher (λ k. list_found l m (length (next middle)) refl k (omega arith)))

  pub member_found : {input rest : List Lexeme} {value : Phrase} → IsMember input value rest → (m : ℕ) → Finds (suc m) value.height (r.member (phrase m) m input) value rest
  member_found (g.Member {input = input} d c) m =
      let first = w.primary_takes d in
      let more = w.tail_goes c in
      e.member_of (phrase m) m input (primary_found d m) (more.higher first.single first.tall) (λ h. tail_found c m (suc m) h (omega (arith, first.tall)))

  pub primary_found : {input rest : List Lexeme} {value : Phrase} → IsPrimary input value rest → (m : ℕ) → Finds (suc m) value.height (r.primary_at (phrase m) m (r.parens input) input) value rest
  primary_found (g.Name {input = input} a) m = e.primary_single (phrase m) m input s.Name (λ input. node.name_node (named_at input)) a refl refl refl
  primary_found (g.Number {input = input} a) m = e.primary_single (phrase m) m input s.Number (λ input. node.number_node (start_at input) (text_at input)) a refl refl refl
  primary_found (g.Text {input = input} a) m = e.primary_single (phrase m) m input s.Text (λ input. node.text_node (start_at input) (text_at input)) a refl refl refl
  primary_found (g.True {input = input} a) m = e.primary_single (phrase m) m input s.True (λ input. node.leaf (start_at input) (f.Bool true)) a refl refl refl
  primary_found (g.False {input = input} a) m = e.primary_single (phrase m) m input s.False (λ input. node.leaf (start_at input) (f.Bool false)) a refl refl refl
  primary_found (g.Null {input = input} a) m = e.primary_single (phrase m) m input s.Null (λ input. node.leaf (start_at input) f.Null) a refl refl refl
  primary_found (g.Undefined {input = input} a) m = e.primary_single (phrase m) m input s.Undefined (λ input. node.leaf (start_at input) f.Undefined) a refl refl refl
  primary_found (g.Parentheses {input = input} a d c) m = e.primary_parentheses (phrase m) m input a (expression_found d m) c
  primary_found (g.Array {input = input} a l) m = e.primary_array (phrase m) m input a refl (list_found l m (length (next input)) refl (omega arith) (omega arith))
  primary_found (g.Object {input = input} a l) m = e.primary_object (phrase m) m input a refl (properties_found l m (length (next input)) (omega arith) (omega arith))
  primary_found (g.FunctionValue {input = input} a d) m = e.primary_function (phrase m) m input a refl (function_found d m)

  pub list_found : {close : Sign} {row all : Row ℕ} {input rest : List Lexeme} → IsList close row input all rest → (m turns : ℕ) → same_sign s.End close ≡ false → row.below.height ≤ m → length input ≤ turns → Finds m all.below.height (list_from (phrase m) close turns row input) all rest
  list_found (g.ListEnd {close = close} {row = row} {input = input} a) m turns n h l = e.list_end (phrase m) m turns close row input a (omega (arith, sees_shorter input close a n)) h
  list_found (g.ListLast {close = close} {row = row} {input = input} a d c b) m turns n h l = e.list_last (phrase m) m turns close row input a (expression_below input (w.expression_takes d) (expression_found d) m) c b (omega (arith, w.expression_takes d)) h
  list_found (g.ListMore {close = close} {row = row} {input = input} a d c b) m turns n h l = e.list_more (phrase m) m turns close row input a (expression_below input (w.expression_takes d) (expression_found d) m) c (w.list_grows b).higher (w.expression_takes d).shorter (λ turns h l. list_found b m turns n h l) l h

  pub properties_found : {row all : Row Property} {input rest : List Lexeme} → IsProperties row input all rest → (m turns : ℕ) → row.below.height ≤ m → length input ≤ turns → Finds m all.below.height (r.properties_from (phrase m) m turns row input) all rest
  properties_found (g.PropertiesEnd {row = row} {input = input} a) m turns h l = e.properties_end (phrase m) m turns row input a (omega (arith, sees_shorter input s.CloseCurly a refl)) h
  properties_found (g.PropertiesLast {row = row} {input = input} {middle = middle} a d c b) m turns h l = e.properties_last (phrase m) m turns row input a (property_found d m h) c b (omega (arith, w.property_grows d, sees_shorter middle s.CloseCurly b refl))
  properties_found (g.PropertiesMore {row = row} {input = input} a d c b) m turns h l = e.properties_more (phrase m) m turns row input a (property_found d m h) c (w.properties_grows b).higher (w.property_grows d).within (λ turns h l. properties_found b m turns h l) l refl

  pub property_found : {row all : Row Property} {input rest : List Lexeme} → IsProperty row input all rest → (m : ℕ) → row.below.height ≤ m → Finds m all.below.height (r.property (phrase m) m row input) all rest
  property_found (g.Computed {row = row} {input = input} {middle = middle} a d c o b) m h = e.property_computed (phrase m) m row input a (expression_below (next input) (w.expression_takes d) (expression_found d) m) c o (expression_below (next (next middle)) (w.expression_takes b) (expression_found b) m) h
  property_found (g.Keyed {row = row} {input = input} o c k d) m h = e.property_keyed (phrase m) m row input o c k (expression_below (next (next input)) (w.expression_takes d) (expression_found d) m) h
  property_found (g.Shorthand {row = row} {input = input} o c n) m h = e.property_shorthand (phrase m) m row input o c n h

  pub function_found : {input rest : List Lexeme} {names : List Named} {found : Row ℕ} → IsFunction input names found rest → (m : ℕ) → Finds m found.below.height (function (phrase m) input) (names, found) rest
  function_found (g.Function {input = input} {middle = middle} o p c d) m = e.function_step (phrase m) m input o p c (body_found d m (length (next middle)) (omega arith) (omega arith))

  pub body_found : {row all : Row ℕ} {input rest : List Lexeme} → IsBody row input all rest → (m turns : ℕ) → row.below.height ≤ m → length input ≤ turns → Finds m all.below.height (body_from (phrase m) turns row input) all rest
  body_found (g.BodyEnd {row = row} {input = input} a) m turns h l = e.body_end (phrase m) m turns row input a (omega (arith, sees_shorter input s.CloseCurly a refl)) h
  body_found (g.BodyMore {row = row} {input = input} a d b) m turns h l = e.body_more (phrase m) m turns row input a (statement_below input (w.statement_takes d) (statement_found d) m) (w.body_grows b).higher (w.statement_takes d).shorter (λ turns h l. body_found b m turns h l) l h

  pub block_found : {input rest : List Lexeme} {value : Phrase} → IsBlock input value rest → (m : ℕ) → Finds (suc m) value.height (block (phrase m) input) value rest
  block_found (g.Block {input = input} a d) m = t.block_step (phrase m) m input a (body_found d m (length (next input)) (omega arith) (omega arith))

  pub statement_found : {input rest : List Lexeme} {value : Phrase} → IsStatement input value rest → (m : ℕ) → Finds (suc m) value.height (q.statement (phrase m) input) value rest
  statement_found (g.Let {input = input} a d b) m = t.let_step (phrase m) m input a (bindings_found d m (length (next input)) (omega arith) (omega arith)) b
  statement_found (g.Const {input = input} a d b) m = t.const_step (phrase m) m input a (const_bindings_found d m (length (next input)) (omega arith) (omega arith)) b
  statement_found (g.FunctionStatement {input = input} a n d) m = t.function_step (phrase m) m input a n (function_found d m)
  statement_found (g.BlockStatement {input = input} a d) m = t.block_statement (phrase m) m input a (block_found d m)
  statement_found (g.Empty {input = input} a) m = t.empty_step (phrase m) m input a
  statement_found (g.Expression {input = input} b d a) m = t.expression_step (phrase m) m input b (expression_below input (w.expression_takes d) (expression_found d) m) a
  statement_found (g.If {input = input} a c d n) m = t.if_step (phrase m) m input a (condition_found c m) (branch_found d m) n
  statement_found (g.IfElse {input = input} a c d n b) m = t.if_else_step (phrase m) m input a (condition_found c m) (branch_found d m) n (branch_found b m)
  statement_found (g.While {input = input} a c d) m = t.while_step (phrase m) m input a (condition_found c m) (branch_found d m)
  statement_found (g.For {input = input} a o d) m = t.for_step (phrase m) m input a o (for_found d m)
  statement_found (g.Break {input = input} a b) m = t.break_step (phrase m) m input a b
  statement_found (g.Continue {input = input} a b) m = t.continue_step (phrase m) m input a b
  statement_found (g.Return {input = input} a o b) m = t.return_step (phrase m) m input a o b
  statement_found (g.ReturnValue {input = input} a o d b) m = t.return_value_step (phrase m) m input a o (expression_below (next input) (w.expression_takes d) (expression_found d) m) b
  statement_found (g.Throw {input = input} a o d b) m = t.throw_step (phrase m) m input a o (expression_below (next input) (w.expression_takes d) (expression_found d) m) b
  statement_found (g.Try {input = input} a d b) m = t.try_step (phrase m) m input a (block_below (next input) (w.block_takes d) (block_found d) m) (w.handled_higher b) (λ h. handled_found b m h)

  pub condition_found : {input rest : List Lexeme} {value : Phrase} → IsCondition input value rest → (m : ℕ) → Finds m value.height (q.condition (phrase m) input) value rest
  condition_found (g.Condition {input = input} o d c) m = t.condition_step (phrase m) m input o (expression_below (next input) (w.expression_takes d) (expression_found d) m) c

  pub branch_found : {input rest : List Lexeme} {value : Phrase} → IsBranch input value rest → (m : ℕ) → Finds m value.height (q.branch (phrase m) input) value rest
  branch_found (g.Branch {input = input} n d) m = t.branch_step (phrase m) m input n (statement_below input (w.statement_takes d) (statement_found d) m)

  pub optional_found : {close : Sign} {below : Below} {input rest : List Lexeme} {found : Optional} → IsOptional close below input found rest → (m : ℕ) → below.height ≤ m → Finds m found.below.height (q.optional (phrase m) close below input) found rest
  optional_found (g.Absent {close = close} {below = below} {input = input} a) m h = t.optional_absent (phrase m) m close below input a h
  optional_found (g.Present {close = close} {below = below} {input = input} a d c) m h = t.optional_present (phrase m) m close below input a (expression_below input (w.expression_takes d) (expression_found d) m) c h

  pub for_found : {at : ℕ} {input rest : List Lexeme} {value : Phrase} → IsFor at input value rest → (m : ℕ) → Finds (suc m) value.height (q.for_head (phrase m) at input) value rest
  for_found (g.ForOf {at = at} {input = input} {head = head} a d c b) m = t.for_of_step (phrase m) m at input a (expression_below head.behind (w.expression_takes d) (expression_found d) m) c (branch_found b m)
  for_found (g.ForLet {at = at} {input = input} a l d c i u b) m = t.for_let_step (phrase m) m at input a l (bindings_found d m (length (next input)) (omega arith) (omega arith)) c (w.optional_grows i).higher (λ k. optional_found i m k) (w.optional_grows u).higher (λ k. optional_found u m k) (branch_found b m)
  for_found (g.ForPlain {at = at} {input = input} a l d i u b) m = t.for_plain_step (phrase m) m at input a l (optional_found d m (omega arith)) (w.optional_grows i).higher (λ k. optional_found i m k) (w.optional_grows u).higher (λ k. optional_found u m k) (branch_found b m)

  pub handled_found : {at : ℕ} {tried value : Phrase} {input rest : List Lexeme} → IsHandled at tried input value rest → (m : ℕ) → tried.height ≤ m → Finds (suc m) value.height (q.handled (phrase m) at tried input) value rest
  handled_found (g.Catch {at = at} {tried = tried} {input = input} c o d b) m h = t.catch_step (phrase m) m at tried input c o (block_below (next input) (w.block_takes d) (block_found d) m) (w.finalizer_grows b).higher (λ k. finalizer_found b m k) h
  handled_found (g.CatchName {at = at} {tried = tried} {input = input} c o n p d b) m h = t.catch_name_step (phrase m) m at tried input c o n p (block_below (next (next (next (next input)))) (w.block_takes d) (block_found d) m) (w.finalizer_grows b).higher (λ k. finalizer_found b m k) h
  handled_found (g.Finally {at = at} {tried = tried} {input = input} c b d) m h = t.finally_step (phrase m) m at tried input c b (block_below (next input) (w.block_takes d) (block_found d) m) h

  pub finalizer_found : {below : Below} {input rest : List Lexeme} {found : Optional} → IsFinalizer below input found rest → (m : ℕ) → below.height ≤ m → Finds m found.below.height (q.finalizer (phrase m) below input) found rest
  finalizer_found (g.NoFinalizer {below = below} {input = input} a) m h = t.finalizer_none (phrase m) m below input a h
  finalizer_found (g.Finalizer {below = below} {input = input} a d) m h = t.finalizer_some (phrase m) m below input a (block_below (next input) (w.block_takes d) (block_found d) m) h

  pub bindings_found : {row all : Row Binding} {input rest : List Lexeme} → IsBindings row input all rest → (m turns : ℕ) → row.below.height ≤ m → length input ≤ turns → Finds m all.below.height (q.bindings_from (phrase m) turns row input) all rest
  bindings_found (g.BindingsLast {row = row} {input = input} d a) m turns h l = t.bindings_last (phrase m) m turns row input (binding_found d m h) a (omega (arith, w.binding_shorter d))
  bindings_found (g.BindingsMore {row = row} {input = input} d a b) m turns h l = t.bindings_more (phrase m) m turns row input (binding_found d m h) a (w.bindings_grows b).higher (w.binding_grows d).within (λ turns h l. bindings_found b m turns h l) l refl

  pub binding_found : {row all : Row Binding} {input rest : List Lexeme} → IsBinding row input all rest → (m : ℕ) → row.below.height ≤ m → Finds m all.below.height (q.binding (phrase m) row input) all rest
  binding_found (g.BindingName {row = row} {input = input} n a) m h = t.binding_name (phrase m) m row input n a h
  binding_found (g.BindingValue {row = row} {input = input} n a d) m h = t.binding_value (phrase m) m row input n a (expression_below (next (next input)) (w.expression_takes d) (expression_found d) m) h

  pub const_bindings_found : {row all : Row ConstBinding} {input rest : List Lexeme} → IsConstBindings row input all rest → (m turns : ℕ) → row.below.height ≤ m → length input ≤ turns → Finds m all.below.height (q.const_bindings_from (phrase m) turns row input) all rest
  const_bindings_found (g.ConstLast {row = row} {input = input} d a) m turns h l = t.consts_last (phrase m) m turns row input (const_binding_found d m h) a (omega (arith, w.const_binding_shorter d))
  const_bindings_found (g.ConstMore {row = row} {input = input} d a b) m turns h l = t.consts_more (phrase m) m turns row input (const_binding_found d m h) a (w.const_bindings_grows b).higher (w.const_binding_grows d).within (λ turns h l. const_bindings_found b m turns h l) l refl

  pub const_binding_found : {row all : Row ConstBinding} {input rest : List Lexeme} → IsConstBinding row input all rest → (m : ℕ) → row.below.height ≤ m → Finds m all.below.height (q.const_binding (phrase m) row input) all rest
  const_binding_found (g.ConstName {row = row} {input = input} b n a d) m h = t.const_name (phrase m) m row input b n a (expression_below (next (next input)) (w.expression_takes d) (expression_found d) m) h
  const_binding_found (g.ConstPattern {row = row} {input = input} {middle = middle} b p a d) m h = t.const_pattern (phrase m) m row input b p a (expression_below (next middle) (w.expression_takes d) (expression_found d) m) h

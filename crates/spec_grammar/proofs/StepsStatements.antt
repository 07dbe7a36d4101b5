-- What is read of a statement, production by production, where the phrases below its node are found.
use Rattle.std.proofs.Common.{◌≡◌, ℕ, zero, suc, ◌≤◌, ◌<◌, max, Bool, true, false, not, List, length, refl, arith}
use Rattle.std.specs.Prelude.{Ok, Some, None}
use Rattle.spec_tokens.specs.Tokens.{Lexeme}
use Rattle.snap_ast.specs.declared.form.Form.TheVariants as f
use Rattle.snap_ast.specs.declared.part.Binding.{Binding}
use Rattle.snap_ast.specs.declared.part.ConstBinding.{ConstBinding}
use Rattle.snap_ast.specs.declared.part.Named.{Named}
use Rattle.spec_grammar.proofs.Finds.{Finds, found_check, found_expect, found_false, found_here, found_ok, found_then, found_true, found_up}
use Rattle.spec_grammar.proofs.Shorter.{sees_shorter}
use Rattle.spec_grammar.specs.Nodes as node
use Rattle.spec_grammar.specs.Operators.{begins_declaration, begins_statement}
use Rattle.spec_grammar.specs.Outcome.{Parser, expect}
use Rattle.spec_grammar.specs.Parts.{OfHead, of_head, is_over, named_at, pattern, semicolon}
use Rattle.spec_grammar.specs.Phrase.{Phrase, Below, Row, Optional, nothing, under, ◌▸◌, absent, present}
use Rattle.spec_grammar.specs.ReadLists.{body, block, function}
use Rattle.spec_grammar.specs.ReadStatements as r
use Rattle.spec_grammar.specs.Sign.{newline_at, next, same_sign, sees, sign_at, start_at}
use Rattle.spec_grammar.specs.declared.sign.Sign.{Sign}
use Rattle.spec_grammar.specs.declared.sign.Sign.TheVariants as s
use Rattle.spec_grammar.specs.declared.start.Start.{Start}
use Rattle.spec_grammar.specs.declared.start.Start.TheVariants.{Statement, Block, Expression}

not_false : {test : Bool} → test ≡ false → not test ≡ true
not_false e = rw e refl

name_read : (input : List Lexeme) → sees s.Name input ≡ true → r.name input ≡ Ok (named_at input, next input)
unfolding r.name expect
name_read input n = rw n refl

module _ (below : Start → Parser Phrase) (room : ℕ) where
  pub block_step : {found : Row ℕ} {rest : List Lexeme} (input : List Lexeme) → sees s.OpenCurly input ≡ true → Finds room found.below.height (body below (next input)) found rest → Finds (suc room) (suc found.below.height) (block below input) (node.block_node (start_at input) found) rest
  unfolding block
  block_step input o d = found_up (found_expect _ _ _ o (found_then _ _ d (omega arith) (λ h. found_here h)))

  -- ---- declarations

  pub binding_name : (row : Row Binding) (input : List Lexeme) → sees s.Name input ≡ true → sees s.Assign (next input) ≡ false → row.below.height ≤ room → Finds room row.below.height (r.binding below row input) (node.with_name row (named_at input)) (next input)
  unfolding r.binding
  binding_name row input n a h = found_ok _ _ (name_read input n) (found_false _ _ _ _ a (found_here h))

  pub binding_value : {value : Phrase} {rest : List Lexeme} (row : Row Binding) (input : List Lexeme) → sees s.Name input ≡ true → sees s.Assign (next input) ≡ true → Finds room value.height (below Expression (next (next input))) value rest → row.below.height ≤ room → Finds room (node.with_value row (named_at input) value).below.height (r.binding below row input) (node.with_value row (named_at input) value) rest
  unfolding r.binding
  binding_value row input n a d h = found_ok _ _ (name_read input n) (found_true _ _ _ _ a (found_then _ _ d (omega arith) (λ k. found_here (omega arith))))

  pub bindings_last : {all : Row Binding} {rest : List Lexeme} (turns : ℕ) (row : Row Binding) (input : List Lexeme) → Finds room all.below.height (r.binding below row input) all rest → sees s.Comma rest ≡ false → 0 < turns → Finds room all.below.height (r.bindings_from below turns row input) all rest
  unfolding r.bindings_from
  bindings_last zero row input d c t = absurd (omega arith)
  bindings_last (suc turns) row input d c t = found_then _ _ d (omega arith) (λ h. found_false _ _ _ _ c (found_here h))

  pub bindings_more : {longer all : Row Binding} {middle rest : List Lexeme} (turns : ℕ) (row : Row Binding) (input : List Lexeme) → Finds room longer.below.height (r.binding below row input) longer middle → sees s.Comma middle ≡ true → longer.below.height ≤ all.below.height → length middle ≤ length input → ((turns : ℕ) → longer.below.height ≤ room → length (next middle) ≤ turns → Finds room all.below.height (r.bindings_from below turns longer (next middle)) all rest) → length input ≤ turns → same_sign s.End s.Comma ≡ false → Finds room all.below.height (r.bindings_from below turns row input) all rest
  unfolding r.bindings_from
  bindings_more {middle = middle} zero row input d c g l more t n = absurd (omega (arith, sees_shorter middle s.Comma c n))
  bindings_more {middle = middle} (suc turns) row input d c g l more t n = found_then _ _ d g (λ h. found_true _ _ _ _ c (more turns h (omega (arith, sees_shorter middle s.Comma c n))))

  pub const_name : {value : Phrase} {rest : List Lexeme} (row : Row ConstBinding) (input : List Lexeme) → sees s.OpenCurly input ≡ false → sees s.Name input ≡ true → sees s.Assign (next input) ≡ true → Finds room value.height (below Expression (next (next input))) value rest → row.below.height ≤ room → Finds room (node.with_constant row (named_at input) value).below.height (r.const_binding below row input) (node.with_constant row (named_at input) value) rest
  unfolding r.const_binding r.constant
  const_name row input o n a d h = found_false _ _ _ _ o (found_ok _ _ (name_read input n) (found_expect _ _ _ a (found_then _ _ d (omega arith) (λ k. found_here (omega arith)))))

  pub const_pattern : {value : Phrase} {names : List Named} {middle rest : List Lexeme} (row : Row ConstBinding) (input : List Lexeme) → sees s.OpenCurly input ≡ true → pattern (next input) ≡ Ok (names, middle) → sees s.Assign middle ≡ true → Finds room value.height (below Expression (next middle)) value rest → row.below.height ≤ room → Finds room (node.with_pattern row names value).below.height (r.const_binding below row input) (node.with_pattern row names value) rest
  unfolding r.const_binding r.destructured
  const_pattern row input o p a d h = found_true _ _ _ _ o (found_ok _ _ p (found_expect _ _ _ a (found_then _ _ d (omega arith) (λ k. found_here (omega arith)))))

  pub consts_last : {all : Row ConstBinding} {rest : List Lexeme} (turns : ℕ) (row : Row ConstBinding) (input : List Lexeme) → Finds room all.below.height (r.const_binding below row input) all rest → sees s.Comma rest ≡ false → 0 < turns → Finds room all.below.height (r.const_bindings_from below turns row input) all rest
  unfolding r.const_bindings_from
  consts_last zero row input d c t = absurd (omega arith)
  consts_last (suc turns) row input d c t = found_then _ _ d (omega arith) (λ h. found_false _ _ _ _ c (found_here h))

  pub consts_more : {longer all : Row ConstBinding} {middle rest : List Lexeme} (turns : ℕ) (row : Row ConstBinding) (input : List Lexeme) → Finds room longer.below.height (r.const_binding below row input) longer middle → sees s.Comma middle ≡ true → longer.below.height ≤ all.below.height → length middle ≤ length input → ((turns : ℕ) → longer.below.height ≤ room → length (next middle) ≤ turns → Finds room all.below.height (r.const_bindings_from below turns longer (next middle)) all rest) → length input ≤ turns → same_sign s.End s.Comma ≡ false → Finds room all.below.height (r.const_bindings_from below turns row input) all rest
  unfolding r.const_bindings_from
  consts_more {middle = middle} zero row input d c g l more t n = absurd (omega (arith, sees_shorter middle s.Comma c n))
  consts_more {middle = middle} (suc turns) row input d c g l more t n = found_then _ _ d g (λ h. found_true _ _ _ _ c (more turns h (omega (arith, sees_shorter middle s.Comma c n))))

  -- ---- branches and loops

  pub condition_step : {value : Phrase} {middle : List Lexeme} (input : List Lexeme) → sees s.OpenParen input ≡ true → Finds room value.height (below Expression (next input)) value middle → sees s.CloseParen middle ≡ true → Finds room value.height (r.condition below input) value (next middle)
  unfolding r.condition
  condition_step input o d c = found_expect _ _ _ o (found_then _ _ d (omega arith) (λ h. found_expect _ _ _ c (found_here h)))

  pub branch_step : {statement : Phrase} {rest : List Lexeme} (input : List Lexeme) → begins_declaration (sign_at input) ≡ false → Finds room statement.height (below Statement input) statement rest → Finds room statement.height (r.branch below input) statement rest
  unfolding r.branch
  branch_step input n d = found_check _ _ _ (not_false n) d

  pub optional_absent : (close : Sign) (before : Below) (input : List Lexeme) → sees close input ≡ true → before.height ≤ room → Finds room before.height (r.optional below close before input) (absent before) (next input)
  unfolding r.optional
  optional_absent close before input e h = found_true _ _ _ _ e (found_here h)

  pub optional_present : {value : Phrase} {middle : List Lexeme} (close : Sign) (before : Below) (input : List Lexeme) → sees close input ≡ false → Finds room value.height (below Expression input) value middle → sees close middle ≡ true → before.height ≤ room → Finds room (present before value).below.height (r.optional below close before input) (present before value) (next middle)
  unfolding r.optional
  optional_present close before input e d c h = found_false _ _ _ _ e (found_then _ _ d (omega arith) (λ k. found_expect _ _ _ c (found_here (omega arith))))

  pub for_of_step : {values inner : Phrase} {middle rest : List Lexeme} {head : OfHead} (at : ℕ) (input : List Lexeme) → of_head input ≡ Some head → Finds room values.height (below Expression head.behind) values middle → sees s.CloseParen middle ≡ true → Finds room inner.height (r.branch below (next middle)) inner rest → Finds (suc room) (node.for_of_node at head.is_constant head.named values inner).height (r.for_head below at input) (node.for_of_node at head.is_constant head.named values inner) rest
  unfolding r.for_head r.for_of
  for_of_step at input e d c b = rw e (found_up (found_then _ _ d (omega arith) (λ h. found_expect _ _ _ c (found_then _ _ b (omega arith) (λ k. found_here (omega arith))))))

  pub for_let_step : {bindings : Row Binding} {test update : Optional} {inner : Phrase} {behind middle tested rest : List Lexeme} (at : ℕ) (input : List Lexeme) → of_head input ≡ None → sees s.Let input ≡ true → Finds room bindings.below.height (r.bindings below (next input)) bindings behind → sees s.Semicolon behind ≡ true → bindings.below.height ≤ test.below.height → (bindings.below.height ≤ room → Finds room test.below.height (r.optional below s.Semicolon bindings.below (next behind)) test middle) → test.below.height ≤ update.below.height → (test.below.height ≤ room → Finds room update.below.height (r.optional below s.CloseParen test.below middle) update tested) → Finds room inner.height (r.branch below tested) inner rest → Finds (suc room) (node.for_let_node at bindings test update inner).height (r.for_head below at input) (node.for_let_node at bindings test update inner) rest
  unfolding r.for_head r.for_let
  for_let_step at input e l d f g t h u b = rw e (found_true _ _ _ _ l (found_up (found_then _ _ d (omega arith) (λ k. found_expect _ _ _ f (found_then _ _ (t k) (omega arith) (λ j. found_then _ _ (u j) (omega arith) (λ i. found_then _ _ b (omega arith) (λ z. found_here (omega arith)))))))))

  pub for_plain_step : {start test update : Optional} {inner : Phrase} {behind middle tested rest : List Lexeme} (at : ℕ) (input : List Lexeme) → of_head input ≡ None → sees s.Let input ≡ false → Finds room start.below.height (r.optional below s.Semicolon nothing input) start behind → start.below.height ≤ test.below.height → (start.below.height ≤ room → Finds room test.below.height (r.optional below s.Semicolon start.below behind) test middle) → test.below.height ≤ update.below.height → (test.below.height ≤ room → Finds room update.below.height (r.optional below s.CloseParen test.below middle) update tested) → Finds room inner.height (r.branch below tested) inner rest → Finds (suc room) (node.for_node at start test update inner).height (r.for_head below at input) (node.for_node at start test update inner) rest
  unfolding r.for_head r.for_plain
  for_plain_step at input e l d g t h u b = rw e (found_false _ _ _ _ l (found_up (found_then _ _ d (omega arith) (λ k. found_then _ _ (t k) (omega arith) (λ j. found_then _ _ (u j) (omega arith) (λ i. found_then _ _ b (omega arith) (λ z. found_here (omega arith))))))))

  -- ---- try

  pub finalizer_none : (before : Below) (input : List Lexeme) → sees s.Finally input ≡ false → before.height ≤ room → Finds room before.height (r.finalizer below before input) (absent before) input
  unfolding r.finalizer
  finalizer_none before input e h = found_false _ _ _ _ e (found_here h)

  pub finalizer_some : {found : Phrase} {rest : List Lexeme} (before : Below) (input : List Lexeme) → sees s.Finally input ≡ true → Finds room found.height (below Block (next input)) found rest → before.height ≤ room → Finds room (present before found).below.height (r.finalizer below before input) (present before found) rest
  unfolding r.finalizer
  finalizer_some before input e d h = found_true _ _ _ _ e (found_then _ _ d (omega arith) (λ k. found_here (omega arith)))

  pub catch_step : {handler : Phrase} {last : Optional} {middle rest : List Lexeme} (at : ℕ) (tried : Phrase) (input : List Lexeme) → sees s.Catch input ≡ true → sees s.OpenParen (next input) ≡ false → Finds room handler.height (below Block (next input)) handler middle → max tried.height handler.height ≤ last.below.height → (max tried.height handler.height ≤ room → Finds room last.below.height (r.finalizer below (under tried ▸ handler) middle) last rest) → tried.height ≤ room → Finds (suc room) (suc last.below.height) (r.handled below at tried input) (node.try_catch_node at tried handler last) rest
  unfolding r.handled r.catch
  catch_step at tried input c o d g f h = found_true _ _ _ _ c (found_false _ _ _ _ o (found_up (found_then _ _ d (omega arith) (λ k. found_then _ _ (f (omega arith)) (omega arith) (λ j. found_here j)))))

  pub catch_name_step : {handler : Phrase} {last : Optional} {middle rest : List Lexeme} (at : ℕ) (tried : Phrase) (input : List Lexeme) → sees s.Catch input ≡ true → sees s.OpenParen (next input) ≡ true → sees s.Name (next (next input)) ≡ true → sees s.CloseParen (next (next (next input))) ≡ true → Finds room handler.height (below Block (next (next (next (next input))))) handler middle → max tried.height handler.height ≤ last.below.height → (max tried.height handler.height ≤ room → Finds room last.below.height (r.finalizer below (under tried ▸ handler) middle) last rest) → tried.height ≤ room → Finds (suc room) (suc last.below.height) (r.handled below at tried input) (node.try_catch_name_node at tried (named_at (next (next input))) handler last) rest
  unfolding r.handled r.catch_name
  catch_name_step at tried input c o n p d g f h = found_true _ _ _ _ c (found_true _ _ _ _ o (found_ok _ _ (name_read (next (next input)) n) (found_expect _ _ _ p (found_up (found_then _ _ d (omega arith) (λ k. found_then _ _ (f (omega arith)) (omega arith) (λ j. found_here j)))))))

  pub finally_step : {last : Phrase} {rest : List Lexeme} (at : ℕ) (tried : Phrase) (input : List Lexeme) → sees s.Catch input ≡ false → sees s.Finally input ≡ true → Finds room last.height (below Block (next input)) last rest → tried.height ≤ room → Finds (suc room) (node.try_finally_node at tried last).height (r.handled below at tried input) (node.try_finally_node at tried last) rest
  unfolding r.handled r.finally
  finally_step at tried input c f d h = found_false _ _ _ _ c (found_expect _ _ _ f (found_up (found_then _ _ d (omega arith) (λ k. found_here (omega arith)))))

  -- ---- statements

  pub let_step : {found : Row Binding} {middle rest : List Lexeme} (input : List Lexeme) → sign_at input ≡ s.Let → Finds room found.below.height (r.bindings below (next input)) found middle → semicolon middle ≡ Ok (tt, rest) → Finds (suc room) (suc found.below.height) (r.statement below input) (node.let_node (start_at input) found) rest
  unfolding r.statement r.statement_by r.let_statement
  let_step input e d f = rw e (found_up (found_then _ _ d (omega arith) (λ h. found_ok _ _ f (found_here h))))

  pub const_step : {found : Row ConstBinding} {middle rest : List Lexeme} (input : List Lexeme) → sign_at input ≡ s.Const → Finds room found.below.height (r.const_bindings below (next input)) found middle → semicolon middle ≡ Ok (tt, rest) → Finds (suc room) (suc found.below.height) (r.statement below input) (node.const_node (start_at input) found) rest
  unfolding r.statement r.statement_by r.const_statement
  const_step input e d f = rw e (found_up (found_then _ _ d (omega arith) (λ h. found_ok _ _ f (found_here h))))

  pub function_step : {names : List Named} {found : Row ℕ} {rest : List Lexeme} (input : List Lexeme) → sign_at input ≡ s.Function → sees s.Name (next input) ≡ true → Finds room found.below.height (function below (next (next input))) (names, found) rest → Finds (suc room) (suc found.below.height) (r.statement below input) (node.function_node (start_at input) (named_at (next input)) names found) rest
  unfolding r.statement r.statement_by r.function_statement
  function_step input e n d = rw e (found_ok _ _ (name_read (next input) n) (found_up (found_then _ _ d (omega arith) (λ h. found_here h))))

  pub block_statement : {value : Phrase} {rest : List Lexeme} (input : List Lexeme) → sign_at input ≡ s.OpenCurly → Finds (suc room) value.height (block below input) value rest → Finds (suc room) value.height (r.statement below input) value rest
  unfolding r.statement r.statement_by
  block_statement input e d = rw e d

  pub empty_step : (input : List Lexeme) → sign_at input ≡ s.Semicolon → Finds (suc room) 1 (r.statement below input) (node.leaf (start_at input) f.Empty) (next input)
  unfolding r.statement r.statement_by
  empty_step input e = rw e (found_here (omega arith))

  expression_by : (sign : Sign) (at : ℕ) → begins_statement sign ≡ false → r.statement_by below sign at ≡ r.expression_statement below
  unfolding r.statement_by begins_statement
  expression_by s.Let at e = absurd cc
  expression_by s.Const at e = absurd cc
  expression_by s.Function at e = absurd cc
  expression_by s.OpenCurly at e = absurd cc
  expression_by s.Semicolon at e = absurd cc
  expression_by s.If at e = absurd cc
  expression_by s.While at e = absurd cc
  expression_by s.For at e = absurd cc
  expression_by s.Break at e = absurd cc
  expression_by s.Continue at e = absurd cc
  expression_by s.Return at e = absurd cc
  expression_by s.Throw at e = absurd cc
  expression_by s.Try at e = absurd cc
  expression_by sign at e = refl

  pub expression_step : {value : Phrase} {middle rest : List Lexeme} (input : List Lexeme) → begins_statement (sign_at input) ≡ false → Finds room value.height (below Expression input) value middle → semicolon middle ≡ Ok (tt, rest) → Finds (suc room) (suc value.height) (r.statement below input) (node.expression_node value) rest
  unfolding r.statement r.expression_statement
  expression_step input b d f = rw (expression_by (sign_at input) (start_at input) b) (found_up (found_then _ _ d (omega arith) (λ h. found_ok _ _ f (found_here h))))

  pub if_step : {test chosen : Phrase} {middle rest : List Lexeme} (input : List Lexeme) → sign_at input ≡ s.If → Finds room test.height (r.condition below (next input)) test middle → Finds room chosen.height (r.branch below middle) chosen rest → sees s.Else rest ≡ false → Finds (suc room) (node.if_node (start_at input) test chosen).height (r.statement below input) (node.if_node (start_at input) test chosen) rest
  unfolding r.statement r.statement_by r.if_statement
  if_step input e c d n = rw e (found_up (found_then _ _ c (omega arith) (λ h. found_then _ _ d (omega arith) (λ k. found_false _ _ _ _ n (found_here (omega arith))))))

  pub if_else_step : {test chosen otherwise : Phrase} {middle behind rest : List Lexeme} (input : List Lexeme) → sign_at input ≡ s.If → Finds room test.height (r.condition below (next input)) test middle → Finds room chosen.height (r.branch below middle) chosen behind → sees s.Else behind ≡ true → Finds room otherwise.height (r.branch below (next behind)) otherwise rest → Finds (suc room) (node.if_else_node (start_at input) test chosen otherwise).height (r.statement below input) (node.if_else_node (start_at input) test chosen otherwise) rest
  unfolding r.statement r.statement_by r.if_statement
  if_else_step input e c d n f = rw e (found_up (found_then _ _ c (omega arith) (λ h. found_then _ _ d (omega arith) (λ k. found_true _ _ _ _ n (found_then _ _ f (omega arith) (λ j. found_here (omega arith)))))))

  pub while_step : {test inner : Phrase} {middle rest : List Lexeme} (input : List Lexeme) → sign_at input ≡ s.While → Finds room test.height (r.condition below (next input)) test middle → Finds room inner.height (r.branch below middle) inner rest → Finds (suc room) (node.while_node (start_at input) test inner).height (r.statement below input) (node.while_node (start_at input) test inner) rest
  unfolding r.statement r.statement_by r.while_statement
  while_step input e c d = rw e (found_up (found_then _ _ c (omega arith) (λ h. found_then _ _ d (omega arith) (λ k. found_here (omega arith)))))

  pub for_step : {value : Phrase} {rest : List Lexeme} (input : List Lexeme) → sign_at input ≡ s.For → sees s.OpenParen (next input) ≡ true → Finds (suc room) value.height (r.for_head below (start_at input) (next (next input))) value rest → Finds (suc room) value.height (r.statement below input) value rest
  unfolding r.statement r.statement_by r.for_statement
  for_step input e o d = rw e (found_expect _ _ _ o d)

  pub break_step : {rest : List Lexeme} (input : List Lexeme) → sign_at input ≡ s.Break → semicolon (next input) ≡ Ok (tt, rest) → Finds (suc room) 1 (r.statement below input) (node.leaf (start_at input) f.Break) rest
  unfolding r.statement r.statement_by r.jump
  break_step input e f = rw e (found_ok _ _ f (found_here (omega arith)))

  pub continue_step : {rest : List Lexeme} (input : List Lexeme) → sign_at input ≡ s.Continue → semicolon (next input) ≡ Ok (tt, rest) → Finds (suc room) 1 (r.statement below input) (node.leaf (start_at input) f.Continue) rest
  unfolding r.statement r.statement_by r.jump
  continue_step input e f = rw e (found_ok _ _ f (found_here (omega arith)))

  pub return_step : {rest : List Lexeme} (input : List Lexeme) → sign_at input ≡ s.Return → is_over (next input) ≡ true → semicolon (next input) ≡ Ok (tt, rest) → Finds (suc room) 1 (r.statement below input) (node.return_node (start_at input) (absent nothing)) rest
  unfolding r.statement r.statement_by r.return_statement
  return_step input e o f = rw e (found_true _ _ _ _ o (found_ok _ _ f (found_here (omega arith))))

  pub return_value_step : {value : Phrase} {middle rest : List Lexeme} (input : List Lexeme) → sign_at input ≡ s.Return → is_over (next input) ≡ false → Finds room value.height (below Expression (next input)) value middle → semicolon middle ≡ Ok (tt, rest) → Finds (suc room) (node.return_node (start_at input) (present nothing value)).height (r.statement below input) (node.return_node (start_at input) (present nothing value)) rest
  unfolding r.statement r.statement_by r.return_statement
  return_value_step input e o d f = rw e (found_false _ _ _ _ o (found_up (found_then _ _ d (omega arith) (λ h. found_ok _ _ f (found_here (omega arith))))))

  pub throw_step : {value : Phrase} {middle rest : List Lexeme} (input : List Lexeme) → sign_at input ≡ s.Throw → newline_at (next input) ≡ false → Finds room value.height (below Expression (next input)) value middle → semicolon middle ≡ Ok (tt, rest) → Finds (suc room) (suc value.height) (r.statement below input) (node.throw_node (start_at input) value) rest
  unfolding r.statement r.statement_by r.throw_statement
  throw_step input e o d f = rw e (found_check _ _ _ (not_false o) (found_up (found_then _ _ d (omega arith) (λ h. found_ok _ _ f (found_here h)))))

  pub try_step : {tried whole : Phrase} {middle rest : List Lexeme} (input : List Lexeme) → sign_at input ≡ s.Try → Finds room tried.height (below Block (next input)) tried middle → suc tried.height ≤ whole.height → (tried.height ≤ room → Finds (suc room) whole.height (r.handled below (start_at input) tried middle) whole rest) → Finds (suc room) whole.height (r.statement below input) whole rest
  unfolding r.statement r.statement_by r.try_statement
  try_step input e d g h = rw e (found_then _ _ (found_up d) g (λ k. h (omega arith)))

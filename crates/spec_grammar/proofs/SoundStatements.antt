-- A statement that is read is one of the grammar, where the phrases below its node are.
use Rattle.std.proofs.Common.{◌≡◌, ℕ, zero, suc, true, false, List, length, refl, subst, sym}
use Rattle.std.specs.Prelude.{Option, Some, None}
use Rattle.spec_tokens.specs.Tokens.{Lexeme}
use Rattle.snap_ast.specs.declared.part.Binding.{Binding}
use Rattle.snap_ast.specs.declared.part.ConstBinding.{ConstBinding}
use Rattle.snap_ast.specs.declared.part.Named.{Named}
use Rattle.spec_grammar.proofs.Gives.{Gives, IsPhrase, gives_as, gives_check, gives_expect, gives_here, gives_if, gives_none, gives_outcome, gives_then, true_not}
use Rattle.spec_grammar.proofs.SoundExpressions as x
use Rattle.spec_grammar.specs.Grammar as g
use Rattle.spec_grammar.specs.Grammar.{IsExpression, IsFunction, IsBody, IsBlock, IsStatement, IsCondition, IsBranch, IsOptional, IsFor, IsHandled, IsFinalizer, IsBindings, IsBinding, IsConstBindings, IsConstBinding}
use Rattle.spec_grammar.specs.Operators.{begins_statement}
use Rattle.spec_grammar.specs.Outcome.{Parser, and_then}
use Rattle.spec_grammar.specs.Parts.{OfHead, of_head, named_at}
use Rattle.spec_grammar.specs.Phrase.{Phrase, Below, Row, nothing, row_on, under, ◌▸◌}
use Rattle.spec_grammar.specs.ReadStatements as r
use Rattle.spec_grammar.specs.Sign.{next, sees, sign_at, start_at}
use Rattle.spec_grammar.specs.declared.sign.Sign.{Sign}
use Rattle.spec_grammar.specs.declared.sign.Sign.TheVariants as s
use Rattle.spec_grammar.specs.declared.start.Start.{Start}
use Rattle.spec_grammar.specs.declared.start.Start.TheVariants.{Statement, Block, Expression}

-- the name that stands next, and the tokens behind it
abbrev IsNext : List Lexeme → Named → List Lexeme → Type 0
IsNext input named rest = (sees s.Name input ≡ true) × (named ≡ named_at input) × (rest ≡ next input)

name_gives : (input : List Lexeme) → Gives (λ named rest. IsNext input named rest) (r.name input)
unfolding r.name
name_gives input = gives_expect _ _ _ (λ n. gives_here (n, refl, refl))

module _ (below : Start → Parser Phrase) (room : ℕ) (sound : (start : Start) (input : List Lexeme) → Gives (IsPhrase start input) (below start input)) where
  expression_below : (input : List Lexeme) → Gives (λ value rest. IsExpression input value rest) (below Expression input)
  expression_below input = sound Expression input

  block_below : (input : List Lexeme) → Gives (λ value rest. IsBlock input value rest) (below Block input)
  block_below input = sound Block input

  -- behind a name that stands next
  behind_name : {B : Type 0} {P : B → List Lexeme → Type 0} (input : List Lexeme) (f : Named → Parser B) → (sees s.Name input ≡ true → Gives P (f (named_at input) (next input))) → Gives P (and_then (r.name input) f)
  behind_name {P = P} input f found = gives_then _ _ (name_gives input) (λ named rest is. subst (λ rest. Gives P (f named rest)) (sym is.2) (subst (λ named. Gives P (f named (next input))) (sym is.1) (found is.0)))

  -- ---- declarations

  binding_gives : (row : Row Binding) (input : List Lexeme) → Gives (λ all rest. IsBinding row input all rest) (r.binding below row input)
  unfolding r.binding
  binding_gives row input = behind_name input _ (λ n. gives_if _ _ _ _
      (λ a. gives_then _ _ (expression_below (next (next input))) (λ value rest d. gives_here (g.BindingValue n a d)))
      (λ a. gives_here (g.BindingName n a)))

  bindings_gives : (turns : ℕ) (row : Row Binding) (input : List Lexeme) → Gives (λ all rest. IsBindings row input all rest) (r.bindings_from below turns row input)
  unfolding r.bindings_from
  bindings_gives zero row input = gives_none
  bindings_gives (suc turns) row input = gives_then _ _ (binding_gives row input) (λ longer middle d. gives_if _ _ _ _
      (λ c. gives_as (bindings_gives turns longer (next middle)) (λ all rest l. g.BindingsMore d c l))
      (λ c. gives_here (g.BindingsLast d c)))

  const_binding_gives : (row : Row ConstBinding) (input : List Lexeme) → Gives (λ all rest. IsConstBinding row input all rest) (r.const_binding below row input)
  unfolding r.const_binding r.destructured r.constant
  const_binding_gives row input = gives_if _ _ _ _
      (λ o. gives_outcome _ _ (λ names middle p. gives_expect _ _ _ (λ a. gives_then _ _ (expression_below (next middle)) (λ value rest d. gives_here (g.ConstPattern o p a d)))))
      (λ o. behind_name input _ (λ n. gives_expect _ _ _ (λ a. gives_then _ _ (expression_below (next (next input))) (λ value rest d. gives_here (g.ConstName o n a d)))))

  const_bindings_gives : (turns : ℕ) (row : Row ConstBinding) (input : List Lexeme) → Gives (λ all rest. IsConstBindings row input all rest) (r.const_bindings_from below turns row input)
  unfolding r.const_bindings_from
  const_bindings_gives zero row input = gives_none
  const_bindings_gives (suc turns) row input = gives_then _ _ (const_binding_gives row input) (λ longer middle d. gives_if _ _ _ _
      (λ c. gives_as (const_bindings_gives turns longer (next middle)) (λ all rest l. g.ConstMore d c l))
      (λ c. gives_here (g.ConstLast d c)))

  -- ---- branches and loops

  condition_gives : (input : List Lexeme) → Gives (λ value rest. IsCondition input value rest) (r.condition below input)
  unfolding r.condition
  condition_gives input = gives_expect _ _ _ (λ o. gives_then _ _ (expression_below (next input)) (λ value middle d. gives_expect _ _ _ (λ c. gives_here (g.Condition o d c))))

  branch_gives : (input : List Lexeme) → Gives (λ value rest. IsBranch input value rest) (r.branch below input)
  unfolding r.branch
  branch_gives input = gives_check _ _ _ (λ n. gives_as (sound Statement input) (λ value rest d. g.Branch (true_not n) d))

  optional_gives : (close : Sign) (before : Below) (input : List Lexeme) → Gives (λ found rest. IsOptional close before input found rest) (r.optional below close before input)
  unfolding r.optional
  optional_gives close before input = gives_if _ _ _ _ (λ e. gives_here (g.Absent e)) (λ e. gives_then _ _ (expression_below input) (λ value middle d. gives_expect _ _ _ (λ c. gives_here (g.Present e d c))))

  for_by : (at : ℕ) (input : List Lexeme) (found : Option OfHead) → of_head input ≡ found → Gives (λ value rest. IsFor at input value rest) (r.for_by below at (sees s.Let input) found input)
  unfolding r.for_of r.for_let r.for_plain r.bindings
  for_by at input (Some head) e = gives_then _ _ (expression_below head.behind) (λ values middle d. gives_expect _ _ _ (λ c. gives_then _ _ (branch_gives (next middle)) (λ body rest b. gives_here (g.ForOf e d c b))))
  for_by at input None e = gives_if _ _ _ _
      (λ l. gives_then _ _ (bindings_gives (length (next input)) (row_on nothing) (next input)) (λ found behind d. gives_expect _ _ _ (λ c. gives_then _ _ (optional_gives s.Semicolon found.below (next behind)) (λ test middle i. gives_then _ _ (optional_gives s.CloseParen test.below middle) (λ update tested u. gives_then _ _ (branch_gives tested) (λ body rest b. gives_here (g.ForLet e l d c i u b)))))))
      (λ l. gives_then _ _ (optional_gives s.Semicolon nothing input) (λ start behind d. gives_then _ _ (optional_gives s.Semicolon start.below behind) (λ test middle i. gives_then _ _ (optional_gives s.CloseParen test.below middle) (λ update tested u. gives_then _ _ (branch_gives tested) (λ body rest b. gives_here (g.ForPlain e l d i u b))))))

  for_gives : (at : ℕ) (input : List Lexeme) → Gives (λ value rest. IsFor at input value rest) (r.for_head below at input)
  unfolding r.for_head
  for_gives at input = for_by at input (of_head input) refl

  -- ---- try

  finalizer_gives : (before : Below) (input : List Lexeme) → Gives (λ found rest. IsFinalizer before input found rest) (r.finalizer below before input)
  unfolding r.finalizer
  finalizer_gives before input = gives_if _ _ _ _ (λ e. gives_then _ _ (block_below (next input)) (λ found rest d. gives_here (g.Finalizer e d))) (λ e. gives_here (g.NoFinalizer e))

  handled_gives : (at : ℕ) (tried : Phrase) (input : List Lexeme) → Gives (λ value rest. IsHandled at tried input value rest) (r.handled below at tried input)
  unfolding r.handled r.catch r.catch_name r.finally
  handled_gives at tried input = gives_if _ _ _ _
      (λ c. gives_if _ _ _ _
      (λ o. behind_name (next (next input)) _ (λ n. gives_expect _ _ _ (λ p. gives_then _ _ (block_below (next (next (next (next input))))) (λ handler middle d. gives_then _ _ (finalizer_gives (under tried ▸ handler) middle) (λ last rest f. gives_here (g.CatchName c o n p d f))))))
      (λ o. gives_then _ _ (block_below (next input)) (λ handler middle d. gives_then _ _ (finalizer_gives (under tried ▸ handler) middle) (λ last rest f. gives_here (g.Catch c o d f)))))
      (λ c. gives_expect _ _ _ (λ f. gives_then _ _ (block_below (next input)) (λ last rest d. gives_here (g.Finally c f d))))

  -- ---- statements

  statement_by : (sign : Sign) (input : List Lexeme) → sign_at input ≡ sign → Gives (λ value rest. IsStatement input value rest) (r.statement_by below sign (start_at input) input)
  unfolding r.statement_by begins_statement r.let_statement r.const_statement r.function_statement r.if_statement r.while_statement r.for_statement r.jump r.return_statement r.throw_statement r.try_statement r.expression_statement r.bindings r.const_bindings
  statement_by s.Let input e = gives_then _ _ (bindings_gives (length (next input)) (row_on nothing) (next input)) (λ found middle d. gives_outcome _ _ (λ _ rest f. gives_here (g.Let e d f)))
  statement_by s.Const input e = gives_then _ _ (const_bindings_gives (length (next input)) (row_on nothing) (next input)) (λ found middle d. gives_outcome _ _ (λ _ rest f. gives_here (g.Const e d f)))
  statement_by s.Function input e = behind_name (next input) _ (λ n. gives_then _ _ (x.function_gives below room sound (next (next input))) (λ found rest d. gives_here (g.FunctionStatement e n d)))
  statement_by s.OpenCurly input e = gives_as (x.block_gives below room sound input) (λ value rest d. g.BlockStatement e d)
  statement_by s.Semicolon input e = gives_here (g.Empty e)
  statement_by s.If input e = gives_then _ _ (condition_gives (next input)) (λ test middle c. gives_then _ _ (branch_gives middle) (λ chosen behind d. gives_if _ _ _ _
      (λ n. gives_then _ _ (branch_gives (next behind)) (λ otherwise rest f. gives_here (g.IfElse e c d n f)))
      (λ n. gives_here (g.If e c d n))))
  statement_by s.While input e = gives_then _ _ (condition_gives (next input)) (λ test middle c. gives_then _ _ (branch_gives middle) (λ body rest d. gives_here (g.While e c d)))
  statement_by s.For input e = gives_expect _ _ _ (λ o. gives_as (for_gives (start_at input) (next (next input))) (λ value rest d. g.For e o d))
  statement_by s.Break input e = gives_outcome _ _ (λ _ rest f. gives_here (g.Break e f))
  statement_by s.Continue input e = gives_outcome _ _ (λ _ rest f. gives_here (g.Continue e f))
  statement_by s.Return input e = gives_if _ _ _ _
      (λ o. gives_outcome _ _ (λ _ rest f. gives_here (g.Return e o f)))
      (λ o. gives_then _ _ (expression_below (next input)) (λ value middle d. gives_outcome _ _ (λ _ rest f. gives_here (g.ReturnValue e o d f))))
  statement_by s.Throw input e = gives_check _ _ _ (λ o. gives_then _ _ (expression_below (next input)) (λ value middle d. gives_outcome _ _ (λ _ rest f. gives_here (g.Throw e (true_not o) d f))))
  statement_by s.Try input e = gives_then _ _ (block_below (next input)) (λ tried middle d. gives_as (handled_gives (start_at input) tried middle) (λ value rest h. g.Try e d h))
  statement_by sign input e = plain_gives input (let is : begins_statement sign ≡ false = refl in rw e is) where
    plain_gives : (input : List Lexeme) → begins_statement (sign_at input) ≡ false → Gives (λ value rest. IsStatement input value rest) (r.expression_statement below input)
    plain_gives input b = gives_then _ _ (expression_below input) (λ value middle d. gives_outcome _ _ (λ _ rest f. gives_here (g.Expression b d f)))

  pub statement_gives : (input : List Lexeme) → Gives (λ value rest. IsStatement input value rest) (r.statement below input)
  unfolding r.statement
  statement_gives input = statement_by (sign_at input) input refl

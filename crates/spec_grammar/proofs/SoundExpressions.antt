-- An expression that is read is one of the grammar, where the phrases below its node are.
use Rattle.std.proofs.Common.{◌≡◌, ℕ, zero, suc, Bool, true, false, ◌⊎◌, inl, inr, List, length, refl, ◌∙◌, ap, subst, if◌then◌else◌}
use Rattle.std.specs.Prelude.{Ok, Option, Some, None}
use Rattle.spec_tokens.specs.Tokens.{Lexeme}
use Rattle.snap_ast.specs.declared.operator.BinaryOperator.{BinaryOperator}
use Rattle.snap_ast.specs.declared.operator.UpdateOperator.{UpdateOperator}
use Rattle.snap_ast.specs.declared.part.Named.{Named}
use Rattle.snap_ast.specs.declared.part.Property.{Property}
use Rattle.snap_ast.specs.declared.part.PropertyKey.{PropertyKey}
use Rattle.spec_grammar.proofs.Gives.{Gives, IsPhrase, gives_as, gives_check, gives_expect, gives_fits, gives_here, gives_if, gives_none, gives_outcome, gives_then, true_not}
use Rattle.spec_grammar.proofs.Starts.{not_seen, parens_open, same_parens, seen_is}
use Rattle.spec_grammar.specs.Grammar as g
use Rattle.spec_grammar.specs.Grammar.{IsExpression, IsSequel, IsOperand, IsChain, IsUnary, IsCall, IsTail, IsNew, IsMember, IsPrimary, IsList, IsProperties, IsProperty, IsFunction, IsBody, IsBlock}
use Rattle.spec_grammar.specs.Nodes as node
use Rattle.spec_grammar.specs.Operators.{Lead, BeforeTarget, BeforeUnary, NoLead, lead_of, Sequel, Assignment, Choice, NoSequel, sequel_of, Tail, Arguments, Bracket, Dot, NoTail, tail_of, operator_at}
use Rattle.spec_grammar.specs.Outcome.{Parser, and_then, ◌>>=◌, pure}
use Rattle.spec_grammar.specs.Parts.{ArrowHead, arrow_head, is_tail, key_at, postfix_at}
use Rattle.spec_grammar.specs.Phrase.{Phrase, Row, nothing, row_on, under}
use Rattle.spec_grammar.specs.ReadLists.{list_from, list, body_from, body, block, function}
use Rattle.spec_grammar.specs.ReadExpressions as r
use Rattle.spec_grammar.specs.Sign.{is_word_at, next, same_sign, sees, sign_at, text_at}
use Rattle.spec_grammar.specs.declared.sign.Sign.{Sign}
use Rattle.spec_grammar.specs.declared.sign.Sign.TheVariants as s
use Rattle.spec_grammar.specs.declared.start.Start.{Start}
use Rattle.spec_grammar.specs.declared.start.Start.TheVariants.{Statement, Expression, Operand, Member}

module _ (below : Start → Parser Phrase) (room : ℕ) (sound : (start : Start) (input : List Lexeme) → Gives (IsPhrase start input) (below start input)) where
  expression_below : (input : List Lexeme) → Gives (λ value rest. IsExpression input value rest) (below Expression input)
  expression_below input = sound Expression input

  -- ---- lists

  pub list_gives : (turns : ℕ) (close : Sign) (row : Row ℕ) (input : List Lexeme) → Gives (λ all rest. IsList close row input all rest) (list_from below close turns row input)
  unfolding list_from
  list_gives zero close row input = gives_none
  list_gives (suc turns) close row input =
      gives_if _ _ _ _ (λ e. gives_here (g.ListEnd e)) (λ e. gives_then _ _ (expression_below input) (λ item middle d. gives_if _ _ _ _
      (λ c. gives_as (list_gives turns close _ (next middle)) (λ all rest l. g.ListMore e d c l))
      (λ c. gives_expect _ _ _ (λ f. gives_here (g.ListLast e d c f)))))

  pub body_gives : (turns : ℕ) (row : Row ℕ) (input : List Lexeme) → Gives (λ all rest. IsBody row input all rest) (body_from below turns row input)
  unfolding body_from
  body_gives zero row input = gives_none
  body_gives (suc turns) row input =
      gives_if _ _ _ _ (λ e. gives_here (g.BodyEnd e)) (λ e. gives_then _ _ (sound Statement input) (λ statement middle d. gives_as (body_gives turns _ middle) (λ all rest l. g.BodyMore e d l)))

  pub block_gives : (input : List Lexeme) → Gives (λ value rest. IsBlock input value rest) (block below input)
  unfolding block body
  block_gives input = gives_expect _ _ _ (λ o. gives_then _ _ (body_gives (length (next input)) (row_on nothing) (next input)) (λ found rest d. gives_here (g.Block o d)))

  pub function_gives : (input : List Lexeme) → Gives (λ found rest. IsFunction input found.0 found.1 rest) (function below input)
  unfolding function body
  function_gives input = gives_expect _ _ _ (λ o. gives_outcome _ _ (λ names middle p. gives_expect _ _ _ (λ c. gives_then _ _ (body_gives (length (next middle)) (row_on nothing) (next middle)) (λ found rest d. gives_here (g.Function o p c d)))))

  -- ---- properties

  keyed_gives : (row : Row Property) (input : List Lexeme) (found : Option PropertyKey) → key_at input ≡ found → sees s.OpenSquare input ≡ false → sees s.Colon (next input) ≡ true → Gives (λ all rest. IsProperty row input all rest) (r.key_by below room row found input)
  unfolding r.key_by
  keyed_gives row input None k o c = gives_none
  keyed_gives row input (Some key) k o c = gives_then _ _ (expression_below (next (next input))) (λ value rest d. gives_here (g.Keyed o c k d))

  pub property_gives : (row : Row Property) (input : List Lexeme) → Gives (λ all rest. IsProperty row input all rest) (r.property below room row input)
  unfolding r.property r.computed r.keyed r.shorthand
  property_gives row input =
      gives_if _ _ _ _
      (λ o. gives_then _ _ (expression_below (next input)) (λ key middle d. gives_expect _ _ _ (λ c. gives_expect _ _ _ (λ f. gives_then _ _ (expression_below (next (next middle))) (λ value rest e. gives_here (g.Computed o d c f e))))))
      (λ o. gives_if _ _ _ _ (λ c. keyed_gives row input (key_at input) refl o c) (λ c. gives_check _ _ _ (λ n. gives_fits _ _ _ _ _ (gives_here (g.Shorthand o c n)))))

  pub properties_gives : (turns : ℕ) (row : Row Property) (input : List Lexeme) → Gives (λ all rest. IsProperties row input all rest) (r.properties_from below room turns row input)
  unfolding r.properties_from
  properties_gives zero row input = gives_none
  properties_gives (suc turns) row input =
      gives_if _ _ _ _ (λ e. gives_here (g.PropertiesEnd e)) (λ e. gives_then _ _ (property_gives row input) (λ longer middle d. gives_if _ _ _ _
      (λ c. gives_as (properties_gives turns longer (next middle)) (λ all rest l. g.PropertiesMore e d c l))
      (λ c. gives_expect _ _ _ (λ f. gives_here (g.PropertiesLast e d c f)))))

  -- ---- Primary and New

  primary_by : (sign : Sign) (input : List Lexeme) → sign_at input ≡ sign → Gives (λ value rest. IsPrimary input value rest) (r.primary_by below room sign input)
  unfolding r.primary_by r.single r.array r.object r.function_value list r.properties
  primary_by s.Name input e = gives_here (g.Name e)
  primary_by s.Number input e = gives_here (g.Number e)
  primary_by s.Text input e = gives_here (g.Text e)
  primary_by s.True input e = gives_here (g.True e)
  primary_by s.False input e = gives_here (g.False e)
  primary_by s.Null input e = gives_here (g.Null e)
  primary_by s.Undefined input e = gives_here (g.Undefined e)
  primary_by s.OpenSquare input e = gives_then _ _ (list_gives (length (next input)) s.CloseSquare (row_on nothing) (next input)) (λ found rest d. gives_here (g.Array e d))
  primary_by s.OpenCurly input e = gives_then _ _ (properties_gives (length (next input)) (row_on nothing) (next input)) (λ found rest d. gives_here (g.Object e d))
  primary_by s.Function input e = gives_then _ _ (function_gives (next input)) (λ found rest d. gives_here (g.FunctionValue e d))
  primary_by sign input e = gives_none

  pub primary_gives : (input : List Lexeme) → Gives (λ value rest. IsPrimary input value rest) (r.primary below room input)
  unfolding r.primary
  primary_gives input = primary_by (sign_at input) input refl

  new_gives : (input : List Lexeme) → sees s.New input ≡ true → Gives (λ value rest. IsNew input value rest) (r.new below room input)
  unfolding r.new r.new_with list
  new_gives input n = gives_then _ _ (sound Member (next input)) (λ callee middle d. gives_if _ _ _ _
      (λ o. gives_then _ _ (list_gives (length (next middle)) s.CloseParen (row_on (under callee)) (next middle)) (λ found rest l. gives_here (g.NewWith n d o l)))
      (λ o. gives_here (g.NewWithout n d o)))

  -- a New, or a Primary that is none
  abbrev IsBase : List Lexeme → Phrase → List Lexeme → Type 0
  IsBase input value rest = IsNew input value rest ⊎ ((sees s.New input ≡ false) × IsPrimary input value rest)

  base_gives : (input : List Lexeme) → Gives (λ value rest. IsBase input value rest) (r.base below room input)
  unfolding r.base
  base_gives input = gives_if _ _ _ _ (λ n. gives_as (new_gives input n) (λ value rest d. inl d)) (λ n. gives_as (primary_gives input) (λ value rest d. inr (n, d)))

  -- ---- what stands behind a phrase

  tail_by : (kind : Tail) (turns : ℕ) (calls : Bool) (left : Phrase) (input : List Lexeme) → tail_of calls (sign_at input) ≡ kind → ((longer : Phrase) (input : List Lexeme) → Gives (λ value rest. IsTail calls longer input value rest) (r.tail_from below room calls turns longer input)) → Gives (λ value rest. IsTail calls left input value rest) ((if is_tail kind then (r.tail_step below room kind left >>= (λ longer. r.tail_from below room calls turns longer)) else pure left) input)
  unfolding r.word list
  tail_by NoTail turns calls left input e more = gives_here (g.TailEnd e)
  tail_by Dot turns calls left input e more = gives_then {Q = λ longer middle. (longer ≡ node.member_node left (text_at (next input))) × (middle ≡ next (next input)) × (is_word_at (next input) ≡ true)} _ _ (gives_fits _ _ _ _ _ (gives_then {Q = λ text middle. (text ≡ text_at (next input)) × (middle ≡ next (next input)) × (is_word_at (next input) ≡ true)} _ _ (gives_check _ _ _ (λ w. gives_here (refl, refl, w))) (λ text middle is. gives_here (ap (node.member_node left) is.0, is.1, is.2)))) (λ longer middle is. gives_as (more longer middle) (λ value rest d. g.TailWord e is.2 (subst (λ middle. IsTail calls (node.member_node left (text_at (next input))) middle value rest) is.1 (subst (λ longer. IsTail calls longer middle value rest) is.0 d))))
  tail_by Bracket turns calls left input e more = gives_then {Q = λ longer middle. (key : Phrase) × (behind : List Lexeme) × IsExpression (next input) key behind × (sees s.CloseSquare behind ≡ true) × (longer ≡ node.index_node left key) × (middle ≡ next behind)} _ _ (gives_fits _ _ _ _ _ (gives_then _ _ (expression_below (next input)) (λ key behind d. gives_expect _ _ _ (λ c. gives_here (key, behind, d, c, refl, refl))))) (λ longer middle is. gives_as (more longer middle) (λ value rest d. g.TailIndex e is.2 is.3 (subst (λ middle. IsTail calls (node.index_node left is.0) middle value rest) is.5 (subst (λ longer. IsTail calls longer middle value rest) is.4 d))))
  tail_by Arguments turns calls left input e more = gives_then {Q = λ longer middle. (found : Row ℕ) × IsList s.CloseParen (row_on (under left)) (next input) found middle × (longer ≡ node.call_node left.at found)} _ _ (gives_fits _ _ _ _ _ (gives_then _ _ (list_gives (length (next input)) s.CloseParen (row_on (under left)) (next input)) (λ found middle d. gives_here (found, d, refl)))) (λ longer middle is. gives_as (more longer middle) (λ value rest d. g.TailArguments e is.1 (subst (λ longer. IsTail calls longer middle value rest) is.2 d)))

  pub tail_gives : (turns : ℕ) (calls : Bool) (left : Phrase) (input : List Lexeme) → Gives (λ value rest. IsTail calls left input value rest) (r.tail_from below room calls turns left input)
  unfolding r.tail_from
  tail_gives zero calls left input = gives_none
  tail_gives (suc turns) calls left input = tail_by (tail_of calls (sign_at input)) turns calls left input refl (λ longer input. tail_gives turns calls longer input)

  chain_by : (found : Option BinaryOperator) (turns level : ℕ) (left : Phrase) (input : List Lexeme) → operator_at level (sign_at input) ≡ found → ((longer : Phrase) (input : List Lexeme) → Gives (λ value rest. IsChain level longer input value rest) (r.chain_from below room level turns longer input)) → (let step : Parser Phrase = elim found [ None ↦ pure left | Some operator ↦ r.link below room level left operator >>= (λ longer. r.chain_from below room level turns longer) ] in Gives (λ value rest. IsChain level left input value rest) (step input))
  unfolding r.link
  chain_by None turns level left input e more = gives_here (g.ChainEnd e)
  chain_by (Some operator) turns level left input e more = gives_then {Q = λ longer middle. (right : Phrase) × IsOperand level (next input) right middle × (longer ≡ node.binary_node operator left right)} _ _ (gives_fits _ _ _ _ _ (gives_then _ _ (sound (Operand level) (next input)) (λ right middle d. gives_here (right, d, refl)))) (λ longer middle is. gives_as (more longer middle) (λ value rest d. g.ChainLink e is.1 (subst (λ longer. IsChain level longer middle value rest) is.2 d)))

  pub chain_gives : (turns level : ℕ) (left : Phrase) (input : List Lexeme) → Gives (λ value rest. IsChain level left input value rest) (r.chain_from below room level turns left input)
  unfolding r.chain_from
  chain_gives zero level left input = gives_none
  chain_gives (suc turns) level left input = chain_by (operator_at level (sign_at input)) turns level left input refl (λ longer input. chain_gives turns level longer input)

  -- ---- Call, Member, Unary and operands

  call_gives : (first : Parser Phrase) (input : List Lexeme) → Gives (λ value rest. IsBase input value rest) (first input) → Gives (λ value rest. IsCall input value rest) (r.call_with below room first input)
  unfolding r.call_with r.tail
  call_gives first input base = gives_then _ _ base (λ left middle d. gives_as (tail_gives (suc room) true left middle) (λ value rest t. call_by input left value middle rest d t)) where
    call_by : (input : List Lexeme) (left value : Phrase) (middle rest : List Lexeme) → IsBase input left middle → IsTail true left middle value rest → IsCall input value rest
    call_by input left value middle rest (inl d) t = g.CallOfNew d t
    call_by input left value middle rest (inr d) t = g.CallOfPrimary d.0 d.1 t

  postfix_by : (call : Phrase) (middle : List Lexeme) (found : Option UpdateOperator) → postfix_at middle ≡ found → (input : List Lexeme) → lead_of (sign_at input) ≡ NoLead → IsCall input call middle → Gives (λ value rest. IsUnary input value rest) (r.postfix_by below room call found middle)
  unfolding r.fits_target
  postfix_by call middle None e input l d = gives_here (g.NoOperator l d e)
  postfix_by call middle (Some operator) e input l d = gives_check _ _ _ (λ w. target_by (node.name_of call) (g.Postfix l d e (true_not w))) where
    target_by : (named : Option Named) → IsUnary input (node.postfix_node operator call) (next middle) → Gives (λ value rest. IsUnary input value rest) (and_then (r.fits_by below room call named middle) (λ _ input. Ok (node.postfix_node operator call, next input)))
    target_by (Some named) made = gives_here made
    target_by None made = gives_fits _ _ _ _ _ (gives_here made)

  unary_by : (lead : Lead) (first : Parser Phrase) (input : List Lexeme) → lead_of (sign_at input) ≡ lead → Gives (λ value rest. IsBase input value rest) (first input) → Gives (λ value rest. IsUnary input value rest) (r.unary_by below room first lead input)
  unfolding r.postfix r.update_single r.update_target
  unary_by (BeforeUnary operator) first input e base = gives_then _ _ (sound (Operand 0) (next input)) (λ operand rest d. gives_check _ _ _ (λ t. gives_here (g.Prefix e (lowest d) t))) where
    lowest : {input rest : List Lexeme} {value : Phrase} → IsOperand 0 input value rest → IsUnary input value rest
    lowest (g.Lowest d) = d
  unary_by (BeforeTarget operator) first input e base = gives_if _ _ _ _ (λ l. gives_here (g.PrefixName e l)) (λ l. gives_then _ _ (sound (Operand 0) (next input)) (λ operand rest d. gives_check _ _ _ (λ w. gives_here (g.PrefixTarget e l (lowest d) (true_not w))))) where
    lowest : {input rest : List Lexeme} {value : Phrase} → IsOperand 0 input value rest → IsUnary input value rest
    lowest (g.Lowest d) = d
  unary_by NoLead first input e base = gives_then _ _ (call_gives first input base) (λ call middle d. postfix_by call middle (postfix_at middle) refl input e d)

  climb_gives : (level : ℕ) (input : List Lexeme) (first : Phrase) (middle : List Lexeme) → IsUnary input first middle → Gives (λ value rest. IsOperand level input value rest) (r.climb below room level first middle)
  unfolding r.climb
  climb_gives zero input first middle d = gives_here (g.Lowest d)
  climb_gives (suc level) input first middle d = gives_then _ _ (climb_gives level input first middle d) (λ left middle d. gives_as (chain_gives (suc room) level left middle) (λ value rest t. g.Chain d t))

  operand_gives : (level : ℕ) (first : Parser Phrase) (input : List Lexeme) → Gives (λ value rest. IsBase input value rest) (first input) → Gives (λ value rest. IsOperand level input value rest) (r.operand_with below room first level input)
  unfolding r.operand_with r.unary_with
  operand_gives level first input base = gives_then _ _ (unary_by (lead_of (sign_at input)) first input refl base) (λ value middle d. climb_gives level input value middle d)

  -- ---- expressions

  sequel_by : (left : Phrase) (input : List Lexeme) (kind : Sequel) → sequel_of (sign_at input) ≡ kind → Gives (λ value rest. IsSequel left input value rest) (r.sequel_by below room left kind input)
  unfolding r.fits_target
  sequel_by left input NoSequel e = gives_here (g.NoMore e)
  sequel_by left input Choice e = gives_fits _ _ _ _ _ (gives_then _ _ (expression_below (next input)) (λ chosen middle d. gives_expect _ _ _ (λ c. gives_then _ _ (expression_below (next middle)) (λ otherwise rest f. gives_here (g.Conditional e d c f)))))
  sequel_by left input (Assignment operator) e = gives_check _ _ _ (λ w. target_by (node.name_of left) (gives_then _ _ (expression_below (next input)) (λ value rest d. gives_here (g.Assign e (true_not w) d)))) where
    target_by : (named : Option Named) → Gives (λ value rest. IsSequel left input value rest) (and_then (below Expression (next input)) (λ value rest. Ok (node.assign_node operator left value, rest))) → Gives (λ value rest. IsSequel left input value rest) (and_then (r.fits_by below room left named input) (λ _ input. and_then (below Expression (next input)) (λ value rest. Ok (node.assign_node operator left value, rest))))
    target_by (Some named) made = made
    target_by None made = gives_fits _ _ _ _ _ made

  sequel_gives : (left : Phrase) (input : List Lexeme) → Gives (λ value rest. IsSequel left input value rest) (r.sequel below room left input)
  unfolding r.sequel
  sequel_gives left input = sequel_by left input (sequel_of (sign_at input)) refl

  head_by : (first : Parser Phrase) (input : List Lexeme) (found : Option ArrowHead) → arrow_head input ≡ found → (arrow_head input ≡ None → Gives (λ value rest. IsBase input value rest) (first input)) → Gives (λ value rest. IsExpression input value rest) (r.expression_by below room first found input)
  unfolding r.arrow r.arrow_body r.arrow_value body
  head_by first input (Some head) e base =
      gives_if _ _ _ _
      (λ b. gives_then _ _ (body_gives (length (next head.behind)) (row_on nothing) (next head.behind)) (λ found rest d. gives_here (g.ArrowBody e b d)))
      (λ b. gives_then _ _ (expression_below head.behind) (λ value rest d. gives_here (g.ArrowValue e b d)))
  head_by first input None e base = gives_then _ _ (operand_gives 10 first input (base e)) (λ left middle d. gives_as (sequel_gives left middle) (λ value rest t. g.NoArrow e d t))

  expression_with_gives : (first : Parser Phrase) (input : List Lexeme) → (arrow_head input ≡ None → Gives (λ value rest. IsBase input value rest) (first input)) → Gives (λ value rest. IsExpression input value rest) (r.expression_with below room first input)
  unfolding r.expression_with
  expression_with_gives first input base = head_by first input (arrow_head input) refl base

  parenthesized_gives : (first : Parser Phrase) (input : List Lexeme) → sees s.OpenParen input ≡ true → (arrow_head (next input) ≡ None → Gives (λ value rest. IsBase (next input) value rest) (first (next input))) → Gives (λ value rest. IsPrimary input value rest) (r.parenthesized below room first input)
  unfolding r.parenthesized
  parenthesized_gives first input o base = gives_then _ _ (expression_with_gives first (next input) base) (λ inner middle d. gives_expect _ _ _ (λ c. gives_here (g.Parentheses (seen_is s.OpenParen input o) d c)))

  pub base_at_gives : (count : ℕ) (input : List Lexeme) → count ≡ r.parens input → Gives (λ value rest. IsBase input value rest) (r.base_at below room count input)
  unfolding r.base_at same_sign
  base_at_gives zero input e = base_gives input
  base_at_gives (suc count) input e =
      let opened = parens_open count input e in
      gives_as (parenthesized_gives (r.base_at below room count) input opened.0 (λ none. base_at_gives count (next input) (opened.1 ∙ same_parens (next input) none))) (λ value rest d. inr (not_seen s.OpenParen s.New input (seen_is s.OpenParen input opened.0) refl, d))

  primary_at_gives : (count : ℕ) (input : List Lexeme) → count ≡ r.parens input → Gives (λ value rest. IsPrimary input value rest) (r.primary_at below room count input)
  primary_at_gives zero input e = primary_gives input
  primary_at_gives (suc count) input e =
      let opened = parens_open count input e in
      parenthesized_gives (r.base_at below room count) input opened.0 (λ none. base_at_gives count (next input) (opened.1 ∙ same_parens (next input) none))

  -- ---- what is read at a level

  pub expression_gives : (input : List Lexeme) → Gives (λ value rest. IsExpression input value rest) (r.expression below room input)
  unfolding r.expression
  expression_gives input = expression_with_gives (r.base_at below room (r.parens input)) input (λ none. base_at_gives (r.parens input) input refl)

  pub operand_at_gives : (level : ℕ) (input : List Lexeme) → Gives (λ value rest. IsOperand level input value rest) (r.operand below room level input)
  unfolding r.operand
  operand_at_gives level input = operand_gives level (r.base_at below room (r.parens input)) input (base_at_gives (r.parens input) input refl)

  pub member_gives : (input : List Lexeme) → Gives (λ value rest. IsMember input value rest) (r.member below room input)
  unfolding r.member r.tail
  member_gives input = gives_then _ _ (primary_at_gives (r.parens input) input refl) (λ first middle d. gives_as (tail_gives (suc room) false first middle) (λ value rest t. g.Member d t))

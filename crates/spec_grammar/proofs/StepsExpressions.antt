-- What is read of an expression, production by production, where the phrases below its node are found.
use Rattle.std.proofs.Common.{◌≡◌, ℕ, zero, suc, ◌≤◌, ◌<◌, ◌+◌, Bool, true, false, not, List, length, refl, arith}
use Rattle.std.specs.Prelude.{Ok, Option, Some, None}
use Rattle.spec_tokens.specs.Tokens.{Lexeme}
use Rattle.snap_ast.specs.declared.operator.AssignOperator.{AssignOperator}
use Rattle.snap_ast.specs.declared.operator.BinaryOperator.{BinaryOperator}
use Rattle.snap_ast.specs.declared.operator.UnaryOperator.{UnaryOperator}
use Rattle.snap_ast.specs.declared.operator.UpdateOperator.{UpdateOperator}
use Rattle.snap_ast.specs.declared.part.Named.{Named}
use Rattle.snap_ast.specs.declared.part.Property.{Property}
use Rattle.snap_ast.specs.declared.part.PropertyKey.{PropertyKey}
use Rattle.spec_grammar.proofs.Finds.{Finds, found_assoc, found_below, found_check, found_expect, found_false, found_fits, found_here, found_ok, found_then, found_true, found_up}
use Rattle.spec_grammar.proofs.Grows.{IsLeaf}
use Rattle.spec_grammar.proofs.Shorter.{next_le, sees_shorter}
use Rattle.spec_grammar.proofs.Starts.{base_is_primary, no_parens, same_start, seen_is, some_parens}
use Rattle.spec_grammar.specs.Nodes as node
use Rattle.spec_grammar.specs.Nodes.{name_of, postfix_by, postfix_node, assign_by, assign_node}
use Rattle.spec_grammar.specs.Operators.{Arguments, Assignment, BeforeTarget, BeforeUnary, Bracket, Choice, Dot, NoLead, NoSequel, NoTail, lead_of, operator_at, sequel_of, tail_of}
use Rattle.spec_grammar.specs.Outcome.{Parser, and_then, check}
use Rattle.spec_grammar.specs.Parts.{ArrowHead, arrow_head, is_lone_name, key_at, named_at, parameters, postfix_at}
use Rattle.spec_grammar.specs.Phrase.{Phrase, Row, nothing, row_on, under, with_child, wrapped}
use Rattle.spec_grammar.specs.ReadLists.{list_from, list, body_from, body, function}
use Rattle.spec_grammar.specs.ReadExpressions as r
use Rattle.spec_grammar.specs.Sign.{is_word_at, next, same_sign, sees, sign_at, start_at, text_at}
use Rattle.spec_grammar.specs.declared.sign.Sign.{Sign}
use Rattle.spec_grammar.specs.declared.sign.Sign.TheVariants as s
use Rattle.spec_grammar.specs.declared.start.Start.{Start}
use Rattle.spec_grammar.specs.declared.start.Start.TheVariants.{Statement, Expression, Operand, Member}

not_false : {test : Bool} → test ≡ false → not test ≡ true
not_false e = rw e refl

word_read : (input : List Lexeme) → is_word_at input ≡ true → r.word input ≡ Ok (text_at input, next input)
unfolding r.word check
word_read input w = rw w refl

module _ (below : Start → Parser Phrase) (room : ℕ) where
  -- ---- lists

  pub list_end : (turns : ℕ) (close : Sign) (row : Row ℕ) (input : List Lexeme) → sees close input ≡ true → 0 < turns → row.below.height ≤ room → Finds room row.below.height (list_from below close turns row input) row (next input)
  unfolding list_from
  list_end zero close row input e t h = absurd (omega arith)
  list_end (suc turns) close row input e t h = found_true _ _ _ _ e (found_here h)

  pub list_last : {item : Phrase} {middle : List Lexeme} (turns : ℕ) (close : Sign) (row : Row ℕ) (input : List Lexeme) → sees close input ≡ false → Finds room item.height (below Expression input) item middle → sees s.Comma middle ≡ false → sees close middle ≡ true → 0 < turns → row.below.height ≤ room → Finds room (with_child row item).below.height (list_from below close turns row input) (with_child row item) (next middle)
  unfolding list_from
  list_last zero close row input e d c f t h = absurd (omega arith)
  list_last (suc turns) close row input e d c f t h = found_false _ _ _ _ e (found_then _ _ d (omega arith) (λ k. found_false _ _ _ _ c (found_expect _ _ _ f (found_here (omega arith)))))

  pub list_more : {item : Phrase} {all : Row ℕ} {middle rest : List Lexeme} (turns : ℕ) (close : Sign) (row : Row ℕ) (input : List Lexeme) → sees close input ≡ false → Finds room item.height (below Expression input) item middle → sees s.Comma middle ≡ true → (with_child row item).below.height ≤ all.below.height → length middle < length input → ((turns : ℕ) → (with_child row item).below.height ≤ room → length (next middle) ≤ turns → Finds room all.below.height (list_from below close turns (with_child row item) (next middle)) all rest) → length input ≤ turns → row.below.height ≤ room → Finds room all.below.height (list_from below close turns row input) all rest
  unfolding list_from
  list_more zero close row input e d c g l more t h = absurd (omega arith)
  list_more {middle = middle} (suc turns) close row input e d c g l more t h = found_false _ _ _ _ e (found_then _ _ d (omega arith) (λ k. found_true _ _ _ _ c (more turns (omega arith) (omega (arith, next_le middle)))))

  pub properties_end : (turns : ℕ) (row : Row Property) (input : List Lexeme) → sees s.CloseCurly input ≡ true → 0 < turns → row.below.height ≤ room → Finds room row.below.height (r.properties_from below room turns row input) row (next input)
  unfolding r.properties_from
  properties_end zero row input e t h = absurd (omega arith)
  properties_end (suc turns) row input e t h = found_true _ _ _ _ e (found_here h)

  pub properties_last : {all : Row Property} {middle : List Lexeme} (turns : ℕ) (row : Row Property) (input : List Lexeme) → sees s.CloseCurly input ≡ false → Finds room all.below.height (r.property below room row input) all middle → sees s.Comma middle ≡ false → sees s.CloseCurly middle ≡ true → 0 < turns → Finds room all.below.height (r.properties_from below room turns row input) all (next middle)
  unfolding r.properties_from
  properties_last zero row input e d c f t = absurd (omega arith)
  properties_last (suc turns) row input e d c f t = found_false _ _ _ _ e (found_then _ _ d (omega arith) (λ k. found_false _ _ _ _ c (found_expect _ _ _ f (found_here k))))

  pub properties_more : {longer all : Row Property} {middle rest : List Lexeme} (turns : ℕ) (row : Row Property) (input : List Lexeme) → sees s.CloseCurly input ≡ false → Finds room longer.below.height (r.property below room row input) longer middle → sees s.Comma middle ≡ true → longer.below.height ≤ all.below.height → length middle ≤ length input → ((turns : ℕ) → longer.below.height ≤ room → length (next middle) ≤ turns → Finds room all.below.height (r.properties_from below room turns longer (next middle)) all rest) → length input ≤ turns → same_sign s.End s.Comma ≡ false → Finds room all.below.height (r.properties_from below room turns row input) all rest
  unfolding r.properties_from
  properties_more {middle = middle} zero row input e d c g l more t n = absurd (omega (arith, sees_shorter middle s.Comma c n))
  properties_more {middle = middle} (suc turns) row input e d c g l more t n = found_false _ _ _ _ e (found_then _ _ d g (λ k. found_true _ _ _ _ c (more turns k (omega (arith, sees_shorter middle s.Comma c n)))))

  pub property_computed : {key value : Phrase} {middle rest : List Lexeme} (row : Row Property) (input : List Lexeme) → sees s.OpenSquare input ≡ true → Finds room key.height (below Expression (next input)) key middle → sees s.CloseSquare middle ≡ true → sees s.Colon (next middle) ≡ true → Finds room value.height (below Expression (next (next middle))) value rest → row.below.height ≤ room → Finds room (node.with_computed row key value).below.height (r.property below room row input) (node.with_computed row key value) rest
  unfolding r.property r.computed
  property_computed row input o d c f e h = found_true _ _ _ _ o (found_then _ _ d (omega arith) (λ k. found_expect _ _ _ c (found_expect _ _ _ f (found_then _ _ e (omega arith) (λ j. found_here (omega arith))))))

  pub property_keyed : {value : Phrase} {rest : List Lexeme} {key : PropertyKey} (row : Row Property) (input : List Lexeme) → sees s.OpenSquare input ≡ false → sees s.Colon (next input) ≡ true → key_at input ≡ Some key → Finds room value.height (below Expression (next (next input))) value rest → row.below.height ≤ room → Finds room (node.with_property row key value).below.height (r.property below room row input) (node.with_property row key value) rest
  unfolding r.property r.keyed r.key_by
  property_keyed row input o c k d h = found_false _ _ _ _ o (found_true _ _ _ _ c (rw k (found_then _ _ d (omega arith) (λ j. found_here (omega arith)))))

  pub property_shorthand : (row : Row Property) (input : List Lexeme) → sees s.OpenSquare input ≡ false → sees s.Colon (next input) ≡ false → sees s.Name input ≡ true → row.below.height ≤ room → Finds room (node.with_shorthand row (named_at input)).below.height (r.property below room row input) (node.with_shorthand row (named_at input)) (next input)
  unfolding r.property r.shorthand
  property_shorthand row input o c n h = found_false _ _ _ _ o (found_false _ _ _ _ c (found_check _ _ _ n (found_fits _ _ _ _ (omega arith) (λ k. found_here (omega arith)))))

  pub body_end : (turns : ℕ) (row : Row ℕ) (input : List Lexeme) → sees s.CloseCurly input ≡ true → 0 < turns → row.below.height ≤ room → Finds room row.below.height (body_from below turns row input) row (next input)
  unfolding body_from
  body_end zero row input e t h = absurd (omega arith)
  body_end (suc turns) row input e t h = found_true _ _ _ _ e (found_here h)

  pub body_more : {statement : Phrase} {all : Row ℕ} {middle rest : List Lexeme} (turns : ℕ) (row : Row ℕ) (input : List Lexeme) → sees s.CloseCurly input ≡ false → Finds room statement.height (below Statement input) statement middle → (with_child row statement).below.height ≤ all.below.height → length middle < length input → ((turns : ℕ) → (with_child row statement).below.height ≤ room → length middle ≤ turns → Finds room all.below.height (body_from below turns (with_child row statement) middle) all rest) → length input ≤ turns → row.below.height ≤ room → Finds room all.below.height (body_from below turns row input) all rest
  unfolding body_from
  body_more zero row input e d g l more t h = absurd (omega arith)
  body_more (suc turns) row input e d g l more t h = found_false _ _ _ _ e (found_then _ _ d (omega arith) (λ k. more turns (omega arith) (omega arith)))

  pub function_step : {names : List Named} {found : Row ℕ} {middle rest : List Lexeme} (input : List Lexeme) → sees s.OpenParen input ≡ true → parameters (next input) ≡ Ok (names, middle) → sees s.OpenCurly middle ≡ true → Finds room found.below.height (body below (next middle)) found rest → Finds room found.below.height (function below input) (names, found) rest
  unfolding function
  function_step input o p c d = found_expect _ _ _ o (found_ok _ _ p (found_expect _ _ _ c (found_then _ _ d (omega arith) (λ h. found_here h))))

  -- ---- what stands behind a phrase

  pub tail_end : (turns : ℕ) (calls : Bool) (left : Phrase) (input : List Lexeme) → tail_of calls (sign_at input) ≡ NoTail → 0 < turns → left.height ≤ suc room → Finds (suc room) left.height (r.tail_from below room calls turns left input) left input
  unfolding r.tail_from
  tail_end zero calls left input e t h = absurd (omega arith)
  tail_end (suc turns) calls left input e t h = rw e (found_here h)

  pub tail_word : {value : Phrase} {rest : List Lexeme} (turns : ℕ) (calls : Bool) (left : Phrase) (input : List Lexeme) → tail_of calls (sign_at input) ≡ Dot → is_word_at (next input) ≡ true → suc left.height ≤ value.height → ((turns : ℕ) → suc left.height ≤ suc room → suc room < suc left.height + turns → Finds (suc room) value.height (r.tail_from below room calls turns (node.member_node left (text_at (next input))) (next (next input))) value rest) → left.height ≤ suc room → suc room < left.height + turns → Finds (suc room) value.height (r.tail_from below room calls turns left input) value rest
  unfolding r.tail_from
  tail_word zero calls left input e w g more h t = absurd (omega arith)
  tail_word (suc turns) calls left input e w g more h t = rw e (found_then _ _ (found_up (found_fits _ _ _ _ (omega arith) (λ k. found_ok _ _ (word_read (next input) w) (found_here k)))) g (λ k. more turns k (omega arith)))

  pub tail_index : {key value : Phrase} {middle rest : List Lexeme} (turns : ℕ) (calls : Bool) (left : Phrase) (input : List Lexeme) → tail_of calls (sign_at input) ≡ Bracket → Finds room key.height (below Expression (next input)) key middle → sees s.CloseSquare middle ≡ true → (node.index_node left key).height ≤ value.height → ((turns : ℕ) → (node.index_node left key).height ≤ suc room → suc room < (node.index_node left key).height + turns → Finds (suc room) value.height (r.tail_from below room calls turns (node.index_node left key) (next middle)) value rest) → left.height ≤ suc room → suc room < left.height + turns → Finds (suc room) value.height (r.tail_from below room calls turns left input) value rest
  unfolding r.tail_from
  tail_index zero calls left input e d c g more h t = absurd (omega arith)
  tail_index (suc turns) calls left input e d c g more h t = rw e (found_then _ _ (found_up (found_fits _ _ _ _ (omega arith) (λ k. found_then _ _ d (omega arith) (λ j. found_expect _ _ _ c (found_here (omega arith)))))) g (λ k. more turns k (omega arith)))

  pub tail_arguments : {value : Phrase} {arguments : Row ℕ} {middle rest : List Lexeme} (turns : ℕ) (calls : Bool) (left : Phrase) (input : List Lexeme) → tail_of calls (sign_at input) ≡ Arguments → left.height ≤ arguments.below.height → (left.height ≤ room → Finds room arguments.below.height (list below s.CloseParen (row_on (under left)) (next input)) arguments middle) → suc arguments.below.height ≤ value.height → ((turns : ℕ) → suc arguments.below.height ≤ suc room → suc room < suc arguments.below.height + turns → Finds (suc room) value.height (r.tail_from below room calls turns (node.call_node left.at arguments) middle) value rest) → left.height ≤ suc room → suc room < left.height + turns → Finds (suc room) value.height (r.tail_from below room calls turns left input) value rest
  unfolding r.tail_from
  tail_arguments zero calls left input e l d g more h t = absurd (omega arith)
  tail_arguments (suc turns) calls left input e l d g more h t = rw e (found_then _ _ (found_up (found_fits _ _ _ _ l (λ k. found_then _ _ (d k) (omega arith) (λ j. found_here j)))) g (λ k. more turns k (omega arith)))

  pub chain_end : (turns level : ℕ) (left : Phrase) (input : List Lexeme) → operator_at level (sign_at input) ≡ None → 0 < turns → left.height ≤ suc room → Finds (suc room) left.height (r.chain_from below room level turns left input) left input
  unfolding r.chain_from
  chain_end zero level left input e t h = absurd (omega arith)
  chain_end (suc turns) level left input e t h = rw e (found_here h)

  pub chain_link : {operator : BinaryOperator} {right value : Phrase} {middle rest : List Lexeme} (turns level : ℕ) (left : Phrase) (input : List Lexeme) → operator_at level (sign_at input) ≡ Some operator → Finds room right.height (below (Operand level) (next input)) right middle → (node.binary_node operator left right).height ≤ value.height → ((turns : ℕ) → (node.binary_node operator left right).height ≤ suc room → suc room < (node.binary_node operator left right).height + turns → Finds (suc room) value.height (r.chain_from below room level turns (node.binary_node operator left right) middle) value rest) → left.height ≤ suc room → suc room < left.height + turns → Finds (suc room) value.height (r.chain_from below room level turns left input) value rest
  unfolding r.chain_from r.link
  chain_link zero level left input e d g more h t = absurd (omega arith)
  chain_link (suc turns) level left input e d g more h t = rw e (found_then _ _ (found_up (found_fits _ _ _ _ (omega arith) (λ k. found_then _ _ d (omega arith) (λ j. found_here (omega arith))))) g (λ k. more turns k (omega arith)))

  -- ---- Unary

  pub unary_prefix : {operator : UnaryOperator} {operand : Phrase} {rest : List Lexeme} (first : Parser Phrase) (input : List Lexeme) → lead_of (sign_at input) ≡ BeforeUnary operator → Finds room operand.height (below (Operand 0) (next input)) operand rest → node.takes operator operand ≡ true → Finds (suc room) (suc operand.height) (r.unary_with below room first input) (node.unary_node (start_at input) operator operand) rest
  unfolding r.unary_with
  unary_prefix first input e d t = rw e (found_up (found_then _ _ d (omega arith) (λ h. found_check _ _ _ t (found_here h))))

  pub unary_name : {operator : UpdateOperator} (first : Parser Phrase) (input : List Lexeme) → lead_of (sign_at input) ≡ BeforeTarget operator → is_lone_name (next input) ≡ true → Finds (suc room) 1 (r.unary_with below room first input) (node.update_name (start_at input) operator true (named_at (next input))) (next (next input))
  unfolding r.unary_with r.update_single
  unary_name first input e l = rw e (found_true _ _ _ _ l (found_here (omega arith)))

  pub unary_target : {operator : UpdateOperator} {target : Phrase} {rest : List Lexeme} (first : Parser Phrase) (input : List Lexeme) → lead_of (sign_at input) ≡ BeforeTarget operator → is_lone_name (next input) ≡ false → Finds room target.height (below (Operand 0) (next input)) target rest → target.is_wrapped ≡ false → Finds (suc room) (suc target.height) (r.unary_with below room first input) (node.update_node (start_at input) operator true target) rest
  unfolding r.unary_with r.update_target
  unary_target first input e l d w = rw e (found_false _ _ _ _ l (found_up (found_then _ _ d (omega arith) (λ h. found_check _ _ _ (not_false w) (found_here h)))))

  -- a name, or what may stand below a node, stands before an update
  postfix_found : (operator : UpdateOperator) (target : Phrase) (middle : List Lexeme) (named : Option Named) → name_of target ≡ named → postfix_node operator target ≡ postfix_by operator target named → Finds (suc room) (postfix_by operator target named).height (and_then (r.fits_target below room target middle) (λ _ input. Ok (postfix_node operator target, next input))) (postfix_node operator target) (next middle)
  unfolding r.fits_target
  postfix_found operator target middle (Some named) e is = rw e (found_here (omega arith))
  postfix_found operator target middle None e is = rw e (found_below _ _ _ _ (omega arith) (λ h. found_here (omega arith)))

  pub postfix_low : (operator : UpdateOperator) (target : Phrase) (named : Option Named) → name_of target ≡ named → IsLeaf target → target.height ≤ (postfix_by operator target named).height
  postfix_low operator target (Some named) e leaf = let low = leaf.low named e in omega (arith, low)
  postfix_low operator target None e leaf = omega arith

  pub unary_postfix : {operator : UpdateOperator} {target : Phrase} {middle : List Lexeme} (first : Parser Phrase) (input : List Lexeme) → lead_of (sign_at input) ≡ NoLead → Finds (suc room) target.height (r.call_with below room first input) target middle → IsLeaf target → postfix_at middle ≡ Some operator → target.is_wrapped ≡ false → Finds (suc room) (postfix_node operator target).height (r.unary_with below room first input) (postfix_node operator target) (next middle)
  unfolding r.unary_with r.postfix postfix_node
  unary_postfix {operator = operator} {target = target} {middle = middle} first input l d leaf e w =
      rw l (found_then _ _ d (postfix_low operator target (name_of target) refl leaf) (λ h. rw e (found_check _ _ _ (not_false w) (postfix_found operator target middle (name_of target) refl refl))))

  pub unary_plain : {value : Phrase} {rest : List Lexeme} (first : Parser Phrase) (input : List Lexeme) → lead_of (sign_at input) ≡ NoLead → Finds (suc room) value.height (r.call_with below room first input) value rest → postfix_at rest ≡ None → Finds (suc room) value.height (r.unary_with below room first input) value rest
  unfolding r.unary_with r.postfix
  unary_plain first input l d e = rw l (found_then _ _ d (omega arith) (λ h. rw e (found_here h)))

  -- ---- New and Primary

  pub new_without : {callee : Phrase} {rest : List Lexeme} (input : List Lexeme) → sees s.New input ≡ true → Finds room callee.height (below Member (next input)) callee rest → sees s.OpenParen rest ≡ false → Finds (suc room) (suc callee.height) (r.base below room input) (node.new_node (start_at input) (row_on (under callee))) rest
  unfolding r.base r.new
  new_without input n d o = found_true _ _ _ _ n (found_up (found_then _ _ d (omega arith) (λ h. found_false _ _ _ _ o (found_here h))))

  pub new_with : {callee : Phrase} {arguments : Row ℕ} {middle rest : List Lexeme} (input : List Lexeme) → sees s.New input ≡ true → Finds room callee.height (below Member (next input)) callee middle → sees s.OpenParen middle ≡ true → callee.height ≤ arguments.below.height → (callee.height ≤ room → Finds room arguments.below.height (list below s.CloseParen (row_on (under callee)) (next middle)) arguments rest) → Finds (suc room) (suc arguments.below.height) (r.base below room input) (node.new_node (start_at input) arguments) rest
  unfolding r.base r.new r.new_with
  new_with input n d o l a = found_true _ _ _ _ n (found_up (found_then _ _ d l (λ h. found_true _ _ _ _ o (found_then _ _ (a h) (omega arith) (λ k. found_here k)))))

  -- a New begins with no parenthesis
  pub new_at : {value : Phrase} {rest : List Lexeme} (input : List Lexeme) → sees s.New input ≡ true → same_sign s.New s.OpenParen ≡ false → Finds (suc room) value.height (r.base below room input) value rest → Finds (suc room) value.height (r.base_at below room (r.parens input) input) value rest
  unfolding r.base_at
  new_at input n differ found = rw (no_parens s.New input (seen_is s.New input n) differ) found

  -- a Primary that is one token
  pub primary_single : (input : List Lexeme) (sign : Sign) (f : List Lexeme → Phrase) → sign_at input ≡ sign → same_sign sign s.OpenParen ≡ false → r.primary_by below room sign ≡ r.single below room f → (f input).height ≡ 1 → Finds (suc room) (f input).height (r.primary_at below room (r.parens input) input) (f input) (next input)
  unfolding r.primary r.single
  primary_single input sign f e differ by low = rw (no_parens sign input e differ, e, by) (found_here (omega (arith, low)))

  pub primary_parentheses : {inner : Phrase} {middle : List Lexeme} (input : List Lexeme) → sign_at input ≡ s.OpenParen → Finds (suc room) inner.height (r.expression below room (next input)) inner middle → sees s.CloseParen middle ≡ true → Finds (suc room) inner.height (r.primary_at below room (r.parens input) input) (wrapped (start_at input) inner) (next middle)
  unfolding r.parenthesized
  primary_parentheses {inner = inner} {middle = middle} input e d c =
      let found : Finds (suc room) inner.height (r.expression_with below room (r.base_at below room (r.parens_from (next input))) (next input)) inner middle = rw (same_start below room (next input)) d in
      rw (some_parens input e) (found_then _ _ found (omega arith) (λ h. found_expect _ _ _ c (found_here h)))

  pub primary_array : {elements : Row ℕ} {rest : List Lexeme} (input : List Lexeme) → sign_at input ≡ s.OpenSquare → same_sign s.OpenSquare s.OpenParen ≡ false → Finds room elements.below.height (list below s.CloseSquare (row_on nothing) (next input)) elements rest → Finds (suc room) (suc elements.below.height) (r.primary_at below room (r.parens input) input) (node.array_node (start_at input) elements) rest
  unfolding r.primary r.primary_by r.array
  primary_array input e differ d = rw (no_parens s.OpenSquare input e differ, e) (found_up (found_then _ _ d (omega arith) (λ h. found_here h)))

  pub primary_object : {found : Row Property} {rest : List Lexeme} (input : List Lexeme) → sign_at input ≡ s.OpenCurly → same_sign s.OpenCurly s.OpenParen ≡ false → Finds room found.below.height (r.properties below room (next input)) found rest → Finds (suc room) (suc found.below.height) (r.primary_at below room (r.parens input) input) (node.object_node (start_at input) found) rest
  unfolding r.primary r.primary_by r.object
  primary_object input e differ d = rw (no_parens s.OpenCurly input e differ, e) (found_up (found_then _ _ d (omega arith) (λ h. found_here h)))

  pub primary_function : {names : List Named} {found : Row ℕ} {rest : List Lexeme} (input : List Lexeme) → sign_at input ≡ s.Function → same_sign s.Function s.OpenParen ≡ false → Finds room found.below.height (function below (next input)) (names, found) rest → Finds (suc room) (suc found.below.height) (r.primary_at below room (r.parens input) input) (node.function_value (start_at input) names found) rest
  unfolding r.primary r.primary_by r.function_value
  primary_function input e differ d = rw (no_parens s.Function input e differ, e) (found_up (found_then _ _ d (omega arith) (λ h. found_here h)))

  -- ---- Call and Member

  pub call_of : {first value : Phrase} {middle rest : List Lexeme} (read : Parser Phrase) (input : List Lexeme) → Finds (suc room) first.height (read input) first middle → first.height ≤ value.height → (first.height ≤ suc room → Finds (suc room) value.height (r.tail_from below room true (suc room) first middle) value rest) → Finds (suc room) value.height (r.call_with below room read input) value rest
  unfolding r.call_with r.tail
  call_of read input d l t = found_then _ _ d l t

  pub member_of : {first value : Phrase} {middle rest : List Lexeme} (input : List Lexeme) → Finds (suc room) first.height (r.primary_at below room (r.parens input) input) first middle → first.height ≤ value.height → (first.height ≤ suc room → Finds (suc room) value.height (r.tail_from below room false (suc room) first middle) value rest) → Finds (suc room) value.height (r.member below room input) value rest
  unfolding r.member r.tail
  member_of input d l t = found_then _ _ d l t

  pub call_primary : {first value : Phrase} {middle rest : List Lexeme} (input : List Lexeme) → sees s.New input ≡ false → Finds (suc room) first.height (r.primary_at below room (r.parens input) input) first middle → first.height ≤ value.height → (first.height ≤ suc room → Finds (suc room) value.height (r.tail_from below room true (suc room) first middle) value rest) → Finds (suc room) value.height (r.call_with below room (r.base_at below room (r.parens input)) input) value rest
  call_primary input n d l t = call_of (r.base_at below room (r.parens input)) input (rw (base_is_primary below room (r.parens input) input n) d) l t

  -- ---- operands and expressions

  pub operand_lowest : {value : Phrase} {rest : List Lexeme} (first : Parser Phrase) (input : List Lexeme) → Finds (suc room) value.height (r.unary_with below room first input) value rest → Finds (suc room) value.height (r.operand_with below room first 0 input) value rest
  unfolding r.operand_with r.climb
  operand_lowest first input d = found_then _ _ d (omega arith) (λ h. found_here h)

  pub operand_chain : {left value : Phrase} {middle rest : List Lexeme} (level : ℕ) (first : Parser Phrase) (input : List Lexeme) → Finds (suc room) left.height (r.operand_with below room first level input) left middle → left.height ≤ value.height → (left.height ≤ suc room → Finds (suc room) value.height (r.chain_from below room level (suc room) left middle) value rest) → Finds (suc room) value.height (r.operand_with below room first (suc level) input) value rest
  unfolding r.operand_with r.climb
  operand_chain level first input d l t = found_assoc {A = Phrase} {B = Phrase} (r.unary_with below room first input) (r.climb below room level) (r.chain_from below room level (suc room)) (found_then _ (r.chain_from below room level (suc room)) d l t)

  pub arrow_value : {value : Phrase} {rest : List Lexeme} {head : ArrowHead} (input : List Lexeme) → arrow_head input ≡ Some head → sees s.OpenCurly head.behind ≡ false → Finds room value.height (below Expression head.behind) value rest → Finds (suc room) (suc value.height) (r.expression below room input) (node.arrow_value (start_at input) head.names value) rest
  unfolding r.expression r.expression_with r.arrow r.arrow_value
  arrow_value input e b d = rw e (found_false _ _ _ _ b (found_up (found_then _ _ d (omega arith) (λ h. found_here h))))

  pub arrow_body : {found : Row ℕ} {rest : List Lexeme} {head : ArrowHead} (input : List Lexeme) → arrow_head input ≡ Some head → sees s.OpenCurly head.behind ≡ true → Finds room found.below.height (body below (next head.behind)) found rest → Finds (suc room) (suc found.below.height) (r.expression below room input) (node.arrow_body (start_at input) head.names found) rest
  unfolding r.expression r.expression_with r.arrow r.arrow_body
  arrow_body input e b d = rw e (found_true _ _ _ _ b (found_up (found_then _ _ d (omega arith) (λ h. found_here h))))

  pub no_arrow : {left value : Phrase} {middle rest : List Lexeme} (input : List Lexeme) → arrow_head input ≡ None → Finds (suc room) left.height (r.operand_with below room (r.base_at below room (r.parens input)) 10 input) left middle → left.height ≤ value.height → (left.height ≤ suc room → Finds (suc room) value.height (r.sequel below room left middle) value rest) → Finds (suc room) value.height (r.expression below room input) value rest
  unfolding r.expression r.expression_with
  no_arrow input e d l t = rw e (found_then _ _ d l t)

  pub no_more : (left : Phrase) (input : List Lexeme) → sequel_of (sign_at input) ≡ NoSequel → left.height ≤ suc room → Finds (suc room) left.height (r.sequel below room left input) left input
  unfolding r.sequel
  no_more left input e h = rw e (found_here h)

  pub conditional : {chosen otherwise : Phrase} {middle rest : List Lexeme} (left : Phrase) (input : List Lexeme) → sequel_of (sign_at input) ≡ Choice → Finds room chosen.height (below Expression (next input)) chosen middle → sees s.Colon middle ≡ true → Finds room otherwise.height (below Expression (next middle)) otherwise rest → Finds (suc room) (node.conditional_node left chosen otherwise).height (r.sequel below room left input) (node.conditional_node left chosen otherwise) rest
  unfolding r.sequel
  conditional left input e d c f = rw e (found_up (found_fits _ _ _ _ (omega arith) (λ l. found_then _ _ d (omega arith) (λ k. found_expect _ _ _ c (found_then _ _ f (omega arith) (λ j. found_here (omega arith)))))))

  assign_found : {value : Phrase} {rest : List Lexeme} (operator : AssignOperator) (left : Phrase) (input : List Lexeme) (named : Option Named) → name_of left ≡ named → assign_node operator left value ≡ assign_by operator left value named → Finds room value.height (below Expression (next input)) value rest → Finds (suc room) (assign_by operator left value named).height (and_then (r.fits_target below room left input) (λ _ input. and_then (below Expression (next input)) (λ value rest. Ok (assign_node operator left value, rest)))) (assign_node operator left value) rest
  unfolding r.fits_target
  assign_found operator left input (Some named) e is d = rw e (found_then _ _ (found_up d) (omega arith) (λ h. found_here h))
  assign_found operator left input None e is d = rw e (found_below _ _ _ _ (omega arith) (λ h. found_then _ _ (found_up d) (omega arith) (λ k. found_here (omega arith))))

  pub assign : {operator : AssignOperator} {value : Phrase} {rest : List Lexeme} (left : Phrase) (input : List Lexeme) → sequel_of (sign_at input) ≡ Assignment operator → left.is_wrapped ≡ false → Finds room value.height (below Expression (next input)) value rest → Finds (suc room) (assign_node operator left value).height (r.sequel below room left input) (assign_node operator left value) rest
  unfolding r.sequel assign_node
  assign {operator = operator} left input e w d = rw e (found_check _ _ _ (not_false w) (assign_found operator left input (name_of left) refl refl d))

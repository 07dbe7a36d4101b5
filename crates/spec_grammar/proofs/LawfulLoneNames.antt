-- What stands behind ++ or -- is no name, since a name that nothing goes on from is taken before.
use Rattle.std.proofs.Common.{◌∙◌, ◌≡◌, Bool, true, false, List, refl, sym, subst, true≢false}
use Rattle.std.specs.Prelude.{Option, Some, None}
use Rattle.snap_ast.specs.Children.{PrefixTarget}
use Rattle.snap_ast.specs.Lawful.{Rank, Single, may_be, rank}
use Rattle.snap_ast.specs.declared.operator.UpdateOperator.{UpdateOperator}
use Rattle.snap_ast.specs.declared.part.Named.{Named}
use Rattle.spec_grammar.proofs.LawfulPieces.{IsA, rank_at}
use Rattle.spec_grammar.specs.Grammar as g
use Rattle.spec_grammar.specs.Grammar.{IsCall, IsNew, IsPrimary, IsTail, IsUnary}
use Rattle.spec_grammar.specs.Nodes.{name_of, postfix_by, postfix_node}
use Rattle.spec_grammar.specs.Operators.{NoTail, tail_of}
use Rattle.spec_grammar.specs.Parts.{is_lone_name, postfix_at}
use Rattle.spec_grammar.specs.Phrase.{Phrase}
use Rattle.spec_grammar.specs.Sign.{next, same_sign, sees, sign_at}
use Rattle.spec_grammar.specs.declared.sign.Sign.TheVariants as s
use Rattle.spec_tokens.specs.Tokens.{Lexeme}
use Rattle.spec_grammar.proofs.LawfulTargets.{IsOperandOf, as_class, fits}

record IsLone (phrase : Phrase) : Type 0 where
  bare : phrase.is_wrapped ≡ false
  single : rank_at phrase.nodes ≡ Single

abbrev IsOther : Rank → Type 0
IsOther Single = ⊥
IsOther rank = Unit {0}

not_lone : {phrase : Phrase} → IsOther (rank_at phrase.nodes) → IsLone phrase → ⊥
not_lone other lone = subst IsOther lone.single other

-- a name and nothing else is read
record IsNameAlone (input rest : List Lexeme) : Type 0 where
  name : sees s.Name input ≡ true
  behind : rest ≡ next input

primary_lone : {input rest : List Lexeme} {value : Phrase} → IsPrimary input value rest → IsLone value → IsNameAlone input rest
unfolding sees same_sign
primary_lone (g.Name e) lone = record { name = rw e refl; behind = refl }
primary_lone (g.Number e) lone = absurd (not_lone tt lone)
primary_lone (g.Text e) lone = absurd (not_lone tt lone)
primary_lone (g.True e) lone = absurd (not_lone tt lone)
primary_lone (g.False e) lone = absurd (not_lone tt lone)
primary_lone (g.Null e) lone = absurd (not_lone tt lone)
primary_lone (g.Undefined e) lone = absurd (not_lone tt lone)
primary_lone (g.Parentheses e d c) lone = absurd (true≢false lone.bare)
primary_lone (g.Array e d) lone = absurd (not_lone tt lone)
primary_lone (g.Object e d) lone = absurd (not_lone tt lone)
primary_lone (g.FunctionValue e d) lone = absurd (not_lone tt lone)

-- nothing goes on from a name
record IsTailless (calls : Bool) (left : Phrase) (input rest : List Lexeme) : Type 0 where
  lone : IsLone left
  none : tail_of calls (sign_at input) ≡ NoTail
  behind : rest ≡ input

tail_lone : {calls : Bool} {left value : Phrase} {input rest : List Lexeme} → IsTail calls left input value rest → IsLone value → IsTailless calls left input rest
tail_lone (g.TailEnd e) lone = record { lone = lone; none = e; behind = refl }
tail_lone (g.TailWord e w t) lone = absurd (not_lone tt (tail_lone t lone).lone)
tail_lone (g.TailIndex e d c t) lone = absurd (not_lone tt (tail_lone t lone).lone)
tail_lone (g.TailArguments e d t) lone = absurd (not_lone tt (tail_lone t lone).lone)

new_other : {input rest : List Lexeme} {value : Phrase} → IsNew input value rest → IsLone value → ⊥
new_other (g.NewWithout n d o) lone = not_lone tt lone
new_other (g.NewWith n d o l) lone = not_lone tt lone

record IsCallAlone (input rest : List Lexeme) : Type 0 where
  name : sees s.Name input ≡ true
  none : tail_of true (sign_at (next input)) ≡ NoTail
  behind : rest ≡ next input

call_lone : {input rest : List Lexeme} {value : Phrase} → IsCall input value rest → IsLone value → IsCallAlone input rest
call_lone (g.CallOfNew d t) lone = absurd (new_other d (tail_lone t lone).lone)
call_lone (g.CallOfPrimary n d t) lone =
    let tail = tail_lone t lone in
    let first = primary_lone d tail.lone in
    record { name = first.name; none = subst (λ middle. tail_of true (sign_at middle) ≡ NoTail) first.behind tail.none; behind = tail.behind ∙ first.behind }

postfix_other : (operator : UpdateOperator) (target : Phrase) (named : Option Named) → IsLone (postfix_by operator target named) → ⊥
postfix_other operator target (Some named) lone = not_lone tt lone
postfix_other operator target None lone = not_lone tt lone

unary_lone : {input rest : List Lexeme} {value : Phrase} → IsUnary input value rest → IsLone value → is_lone_name input ≡ true
unfolding is_lone_name postfix_node
unary_lone (g.Prefix e d t) lone = absurd (not_lone tt lone)
unary_lone (g.PrefixName e l) lone = absurd (not_lone tt lone)
unary_lone (g.PrefixTarget e l d w) lone = absurd (not_lone tt lone)
unary_lone (g.Postfix {operator = operator} {target = target} l d e w) lone = absurd (postfix_other operator target (name_of target) lone)
unary_lone (g.NoOperator {input = input} l d e) lone =
    let alone = call_lone d lone in
    let none = subst (λ rest. postfix_at rest ≡ None) alone.behind e in
    rw (alone.name, alone.none, none) refl

rank_target : (rank : Rank) → fits PrefixTarget rank ≡ true → (rank ≡ Single → ⊥) → may_be PrefixTarget rank ≡ true
rank_target Single e other = absurd (other refl)
rank_target rank e other = e

-- what stands behind ++ or --, where no name does alone
pub prefix_target : {input rest : List Lexeme} {target : Phrase} → IsUnary input target rest → is_lone_name input ≡ false → target.is_wrapped ≡ false → IsOperandOf PrefixTarget target → IsA PrefixTarget target
prefix_target {input} {rest} {target} d no_name bare operand =
    as_class operand.is_a (rank_target (rank_at target.nodes) (operand.firm bare)
    (λ single. true≢false (sym (unary_lone d (record { bare = bare; single = single })) ∙ no_name)))

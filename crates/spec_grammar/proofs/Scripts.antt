-- Scripts: what is read and what the grammar has are the same.
use Rattle.std.proofs.Common.{◌≡◌, ℕ, zero, suc, ◌≤◌, max, List, [], ◌∷◌, length, refl, sym, ◌∙◌, subst, ap, arith}
use Rattle.std.specs.Prelude.{Ok, Err}
use Rattle.spec_tokens.specs.Tokens.{Lexeme}
use Rattle.snap_ast.specs.Lawful.{most_levels}
use Rattle.spec_grammar.proofs.Complete.{statement_found}
use Rattle.spec_grammar.proofs.Finds.{Finds, at_any, found_here, found_then}
use Rattle.spec_grammar.proofs.Gives.{Gives, IsPhrase, gives_here, gives_none, gives_then, gives_as}
use Rattle.spec_grammar.proofs.Grows.{statement_takes}
use Rattle.spec_grammar.proofs.SoundExpressions as x
use Rattle.spec_grammar.proofs.SoundStatements as q
use Rattle.spec_grammar.specs.Grammar.{IsStatement, IsScript, ScriptEnd, ScriptMore}
use Rattle.spec_grammar.specs.Outcome.{Outcome}
use Rattle.spec_grammar.specs.Phrase.{Phrase, Row, with_child}
use Rattle.spec_grammar.specs.Read.{phrase, script_from}
use Rattle.spec_grammar.specs.declared.start.Start.{Start}
use Rattle.spec_grammar.specs.declared.start.Start.TheVariants as start

pub phrase_gives : (levels : ℕ) (start : Start) (input : List Lexeme) → Gives (IsPhrase start input) (phrase levels start input)
unfolding phrase
phrase_gives zero start input = gives_none
phrase_gives (suc levels) start.Statement input = q.statement_gives (phrase levels) levels (phrase_gives levels) input
phrase_gives (suc levels) start.Block input = x.block_gives (phrase levels) levels (phrase_gives levels) input
phrase_gives (suc levels) start.Expression input = x.expression_gives (phrase levels) levels (phrase_gives levels) input
phrase_gives (suc levels) (start.Operand level) input = x.operand_at_gives (phrase levels) levels (phrase_gives levels) level input
phrase_gives (suc levels) start.Member input = x.member_gives (phrase levels) levels (phrase_gives levels) input

pub script_gives : (turns : ℕ) (row : Row ℕ) (input : List Lexeme) → Gives (λ all rest. IsScript row input all) (script_from turns row input)
unfolding script_from
script_gives zero row [] = gives_here ScriptEnd
script_gives (suc turns) row [] = gives_here ScriptEnd
script_gives zero row (first ∷ input) = gives_none
script_gives (suc turns) row (first ∷ input) = gives_then _ _ (phrase_gives most_levels start.Statement (first ∷ input)) (λ statement rest d. gives_as (script_gives turns _ rest) (λ all end l. ScriptMore d l))

pub statement_at : {rest : List Lexeme} {value : Phrase} (input : List Lexeme) → IsStatement input value rest → (levels : ℕ) → Finds levels value.height (phrase levels start.Statement input) value rest
unfolding phrase
statement_at input d levels = at_any start.Statement input (statement_takes d).tall (statement_found d) levels

pub script_grows : {row all : Row ℕ} {input : List Lexeme} → IsScript row input all → row.below.height ≤ all.below.height
script_grows ScriptEnd = omega arith
script_grows (ScriptMore d l) = omega (arith, script_grows l)

pub script_found : {row all : Row ℕ} {input : List Lexeme} → IsScript row input all → (turns : ℕ) → row.below.height ≤ most_levels → length input ≤ turns → Finds most_levels all.below.height (script_from turns row input) all []
unfolding script_from
script_found ScriptEnd zero h l = found_here h
script_found ScriptEnd (suc turns) h l = found_here h
script_found (ScriptMore d more) zero h l = absurd (omega arith)
script_found (ScriptMore {first = first} {input = input} d more) (suc turns) h l =
    found_then _ _ (statement_at (first ∷ input) d most_levels) (omega (arith, script_grows more)) (λ k. script_found more turns (omega arith) (omega (arith, (statement_takes d).shorter)))

-- ---- one script at most

found_or : {A : Type 0} → A × List Lexeme → Outcome A → A × List Lexeme
found_or other (Ok found) = found
found_or other (Err refusal) = other

same_found : {A : Type 0} {one two : A × List Lexeme} → ◌≡◌ {A = Outcome A} (Ok one) (Ok two) → one ≡ two
unfolding found_or
same_found {one = one} e = ap (found_or one) e

value_of : {input rest : List Lexeme} {value : Phrase} → IsStatement input value rest → (levels : ℕ) → value.height ≤ levels → phrase levels start.Statement input ≡ Ok (value, rest)
value_of {input = input} d levels h = let found = statement_at input d levels in found.fits h

one_statement : {input rest other : List Lexeme} {value second : Phrase} → IsStatement input value rest → IsStatement input second other → ◌≡◌ {A = Phrase × List Lexeme} (value, rest) (second, other)
one_statement {value = value} {second = second} d f =
    let one = value_of d (max value.height second.height) (omega arith) in
    let two = value_of f (max value.height second.height) (omega arith) in
    same_found (sym one ∙ two)

same_more : (row all : Row ℕ) {rest other : List Lexeme} {value second : Phrase} → ◌≡◌ {A = Phrase × List Lexeme} (value, rest) (second, other) → IsScript (with_child row second) other all → IsScript (with_child row value) rest all
same_more row all same more = subst (λ (found : Phrase × List Lexeme). IsScript (with_child row found.0) found.1 all) (sym same) more

pub one_script : {row all second : Row ℕ} {input : List Lexeme} → IsScript row input all → IsScript row input second → all ≡ second
one_script ScriptEnd ScriptEnd = refl
one_script {row = row} {second = second} (ScriptMore d more) (ScriptMore f other) = one_script more (same_more row second (one_statement d f) other)

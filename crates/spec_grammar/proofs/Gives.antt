-- What holds of all that a reading gives.
use Rattle.std.proofs.Common.{subst, ◌≡◌, ℕ, Bool, true, false, List, refl, if◌then◌else◌, not}
use Rattle.std.specs.Prelude.{Ok, Err}
use Rattle.spec_tokens.specs.Tokens.{Lexeme}
use Rattle.spec_grammar.specs.Grammar.{IsBlock, IsExpression, IsMember, IsOperand, IsStatement}
use Rattle.spec_grammar.specs.Outcome.{Outcome, Parser, Refusal, and_then, check, expect}
use Rattle.spec_grammar.specs.Phrase.{Phrase}
use Rattle.spec_grammar.specs.ReadExpressions.{fits}
use Rattle.spec_grammar.specs.Sign.{next, sees}
use Rattle.spec_grammar.specs.declared.sign.Sign.{Sign}
use Rattle.spec_grammar.specs.declared.start.Start.{Start}
use Rattle.spec_grammar.specs.declared.start.Start.TheVariants as start

pub record Gives {A : Type 0} (P : A → List Lexeme → Type 0) (outcome : Outcome A) : Type 0 where
  pub given : (value : A) (rest : List Lexeme) → outcome ≡ Ok (value, rest) → P value rest

-- which phrase stands at the front
abbrev pub IsPhrase : Start → List Lexeme → Phrase → List Lexeme → Type 0
IsPhrase start.Statement input value rest = IsStatement input value rest
IsPhrase start.Block input value rest = IsBlock input value rest
IsPhrase start.Expression input value rest = IsExpression input value rest
IsPhrase (start.Operand level) input value rest = IsOperand level input value rest
IsPhrase start.Member input value rest = IsMember input value rest

IsIn : {A : Type 0} → (A → List Lexeme → Type 0) → Outcome A → Type 0
IsIn P (Ok found) = P found.0 found.1
IsIn P (Err refusal) = Unit {0}

pub gives_here : {A : Type 0} {P : A → List Lexeme → Type 0} {value : A} {rest : List Lexeme} → P value rest → Gives P (Ok (value, rest))
unfolding IsIn
gives_here {P = P} p = record { given = λ value rest e. subst (λ o. IsIn P o) e p }

pub gives_none : {A : Type 0} {P : A → List Lexeme → Type 0} {refusal : Refusal} → Gives P (Err refusal)
gives_none = record { given = λ value rest e. absurd cc }

pub gives_then : {A B : Type 0} {Q : A → List Lexeme → Type 0} {P : B → List Lexeme → Type 0} (outcome : Outcome A) (f : A → Parser B) → Gives Q outcome → ((value : A) (middle : List Lexeme) → Q value middle → Gives P (f value middle)) → Gives P (and_then outcome f)
gives_then (Ok found) f first second = second found.0 found.1 (first.given found.0 found.1 refl)
gives_then (Err refusal) f first second = gives_none

pub gives_outcome : {A B : Type 0} {P : B → List Lexeme → Type 0} (outcome : Outcome A) (f : A → Parser B) → ((value : A) (middle : List Lexeme) → outcome ≡ Ok (value, middle) → Gives P (f value middle)) → Gives P (and_then outcome f)
gives_outcome (Ok found) f second = second found.0 found.1 refl
gives_outcome (Err refusal) f second = gives_none

pub gives_if : {B : Type 0} {P : B → List Lexeme → Type 0} (test : Bool) (input : List Lexeme) (p q : Parser B) → (test ≡ true → Gives P (p input)) → (test ≡ false → Gives P (q input)) → Gives P ((if test then p else q) input)
gives_if true input p q first second = first refl
gives_if false input p q first second = second refl

expect_by : {B : Type 0} {P : B → List Lexeme → Type 0} (test : Bool) (input : List Lexeme) (f : Unit {0} → Parser B) → (test ≡ true → Gives P (f tt (next input))) → (refusal : Refusal) → Gives P (and_then (if test then Ok (tt, next input) else Err refusal) f)
expect_by true input f found refusal = found refl
expect_by false input f found refusal = gives_none

pub gives_expect : {B : Type 0} {P : B → List Lexeme → Type 0} (sign : Sign) (input : List Lexeme) (f : Unit {0} → Parser B) → (sees sign input ≡ true → Gives P (f tt (next input))) → Gives P (and_then (expect sign input) f)
unfolding expect
gives_expect sign input f found = expect_by (sees sign input) input f found _

pub gives_check : {B : Type 0} {P : B → List Lexeme → Type 0} (test : Bool) (input : List Lexeme) (f : Unit {0} → Parser B) → (test ≡ true → Gives P (f tt input)) → Gives P (and_then (check test input) f)
unfolding check
gives_check true input f found = found refl
gives_check false input f found = gives_none

fits_by : {B : Type 0} {P : B → List Lexeme → Type 0} (test : Bool) (input : List Lexeme) (f : Unit {0} → Parser B) → Gives P (f tt input) → (refusal : Refusal) → Gives P (and_then (if test then Ok (tt, input) else Err refusal) f)
fits_by true input f found refusal = found
fits_by false input f found refusal = gives_none

pub gives_fits : {B : Type 0} {P : B → List Lexeme → Type 0} (below : Start → Parser Phrase) (room : ℕ) (value : Phrase) (input : List Lexeme) (f : Unit {0} → Parser B) → Gives P (f tt input) → Gives P (and_then (fits below room value input) f)
unfolding fits
gives_fits below room value input f found = fits_by _ input f found _

pub true_not : {test : Bool} → not test ≡ true → test ≡ false
true_not {test = true} e = absurd cc
true_not {test = false} e = refl

pub gives_as : {A : Type 0} {Q P : A → List Lexeme → Type 0} {outcome : Outcome A} → Gives Q outcome → ((value : A) (rest : List Lexeme) → Q value rest → P value rest) → Gives P outcome
gives_as first second = record { given = λ value rest e. second value rest (first.given value rest e) }

-- The statements of a script, one by one.
use Rattle.std.proofs.Common.{◌≡◌, ◌==◌, ℕ, zero, suc, true, false, List, [], ◌∷◌, length, Ok, refl, rules, ◌∙◌}
use Rattle.spec_tokens.specs.Tokens.{Lexeme}
use Rattle.snap_ast.specs.Lawful.{most_levels}
use Rattle.spec_grammar.specs.Outcome.{Outcome, and_then, refuse}
use Rattle.spec_grammar.specs.Phrase.{Row, with_child}
use Rattle.spec_grammar.specs.Read.{phrase, script_from}
use Rattle.spec_grammar.specs.declared.start.Start.TheVariants as start

end-is : (turns : ℕ) (row : Row ℕ) (input : List Lexeme) → (length input == 0) ≡ true → script_from turns row input ≡ Ok (row, input)
unfolding script_from
end-is zero row [] none = refl
end-is (suc turns) row [] none = refl
end-is turns row (lexeme ∷ rest) none = absurd (search rules)

more-is : (turns : ℕ) (row : Row ℕ) (input : List Lexeme) → (length input == 0) ≡ false → script_from (suc turns) row input ≡ and_then (phrase most_levels start.Statement input) (λ statement. script_from turns (with_child row statement))
unfolding script_from
more-is turns row [] some = absurd cc
more-is turns row (lexeme ∷ rest) some = refl

stop-is : (row : Row ℕ) (input : List Lexeme) → (length input == 0) ≡ false → script_from zero row input ≡ refuse input
unfolding script_from
stop-is row [] some = absurd cc
stop-is row (lexeme ∷ rest) some = refl

pub script-end : {outcome : Outcome (Row ℕ)} (turns : ℕ) (row : Row ℕ) (input : List Lexeme) → outcome ≡ script_from turns row input → (length input == 0) ≡ true → outcome ≡ Ok (row, input)
script-end turns row input goes none = goes ∙ end-is turns row input none

pub script-more : {outcome : Outcome (Row ℕ)} (turns : ℕ) (row : Row ℕ) (input : List Lexeme) → outcome ≡ script_from (suc turns) row input → (length input == 0) ≡ false → outcome ≡ and_then (phrase most_levels start.Statement input) (λ statement. script_from turns (with_child row statement))
script-more turns row input goes some = goes ∙ more-is turns row input some

pub script-stop : {outcome : Outcome (Row ℕ)} (row : Row ℕ) (input : List Lexeme) → outcome ≡ script_from zero row input → (length input == 0) ≡ false → outcome ≡ refuse input
script-stop row input goes some = goes ∙ stop-is row input some

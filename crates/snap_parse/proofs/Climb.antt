-- The levels of operators, one after another.
use Rattle.std.proofs.Common.{◌≡◌, ℕ, suc, zero, ◌+◌, ◌-◌, ◌<◌, List, Ok, Err, refl, arith, ◌∙◌, ap, add-one}
use Rattle.spec_tokens.specs.Tokens.{Lexeme}
use Rattle.spec_grammar.specs.Outcome.{Parser, Refusal}
use Rattle.spec_grammar.specs.Phrase.{Phrase}
use Rattle.spec_grammar.specs.ReadExpressions.{chain_from, climb}
use Rattle.spec_grammar.specs.declared.start.Start.{Start}

module _ (below : Start → Parser Phrase) (room : ℕ) (first : Phrase) (input : List Lexeme) where
  climb-next : (level : ℕ) (left : Phrase) (rest : List Lexeme) → climb below room level first input ≡ Ok (left, rest) → climb below room (suc level) first input ≡ chain_from below room level (suc room) left rest
  unfolding climb
  climb-next level left rest found = rw found refl

  pub climb-more : (level : ℕ) (left : Phrase) (rest : List Lexeme) → climb below room level first input ≡ Ok (left, rest) → climb below room (level + 1) first input ≡ chain_from below room level (room + 1) left rest
  climb-more level left rest found = rw (add-one level, add-one room) (climb-next level left rest found)

  climb-stop : (level : ℕ) (refusal : Refusal) → climb below room level first input ≡ Err refusal → climb below room (suc level) first input ≡ Err refusal
  unfolding climb
  climb-stop level refusal refused = rw refused refl

  climb-stays : (more target level : ℕ) (refusal : Refusal) → target ≡ more + level → climb below room level first input ≡ Err refusal → climb below room target first input ≡ Err refusal
  climb-stays zero target level refusal reached refused =
      let same : target ≡ level = omega arith in
      ap (λ n. climb below room n first input) same ∙ refused
  climb-stays (suc more) target level refusal reached refused =
      let next : target ≡ suc (more + level) = omega arith in
      ap (λ n. climb below room n first input) next ∙ climb-stop (more + level) refusal (climb-stays more (more + level) level refusal refl refused)

  pub climb-refused : (levels level : ℕ) (left : Phrase) (rest : List Lexeme) (refusal : Refusal) → level < levels → climb below room level first input ≡ Ok (left, rest) → chain_from below room level (room + 1) left rest ≡ Err refusal → climb below room levels first input ≡ Err refusal
  climb-refused levels level left rest refusal below_levels found refused =
      climb-stays (levels - (level + 1)) levels (level + 1) refusal (omega arith) (climb-more level left rest found ∙ refused)

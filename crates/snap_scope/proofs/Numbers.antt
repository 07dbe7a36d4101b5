-- The numbers of children that are all of one kind.
use Rattle.std.proofs.Common.{◌≡◌, ℕ, List, [], ◌∷◌, map, refl, ap}
use Rattle.snap_ast.specs.Children.{expression, statement}
use Rattle.snap_scope.specs.Children.{numbers_of}

pub statement_numbers : (body : List ℕ) → numbers_of (map statement body) ≡ body
statement_numbers [] = refl
statement_numbers (number ∷ body) = ap (λ (rest : List ℕ). number ∷ rest) (statement_numbers body)

pub expression_numbers : (items : List ℕ) → numbers_of (map expression items) ≡ items
expression_numbers [] = refl
expression_numbers (number ∷ items) = ap (λ (rest : List ℕ). number ∷ rest) (expression_numbers items)

-- Numbers of nodes, as the code has them.
use Rattle.std.specs.Prelude.{ℕ, List, [], ◌∷◌, map, Option, None, Some}
use Rattle.snap_ast.specs.Children.{Child}

abbrev pub numbers_of : List Child → List ℕ
numbers_of children = map (λ child. child.number) children

abbrev pub in_option : Option ℕ → List ℕ
in_option None = []
in_option (Some number) = number ∷ []

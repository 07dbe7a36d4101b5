-- Rows and optional phrases as data.
use Rattle.std.specs.Prelude.{ℕ, List, Option, refl}
use Rattle.std.specs.Coded.{Coded, code_by, coded×, coded_ℕ, coded_list, coded_option}
use Rattle.snap_ast.specs.declared.tree.TreeNode.{TreeNode}
use Rattle.snap_ast.specs.contracts.tree.TreeNode as tree_node
use Rattle.spec_grammar.specs.Phrase.{Below, Optional, Row}

abbrev pub below_code : Coded Below
below_code = code_by (List TreeNode × ℕ) (coded× (coded_list tree_node.the_row.coded) coded_ℕ) (λ b. (b.nodes, b.height)) (λ p. record { nodes = p.0; height = p.1 }) (λ _. refl)

abbrev pub row_code : {F : Type 0} → Coded F → Coded (Row F)
row_code {F} code = code_by (List F × Below) (coded× (coded_list code) below_code) (λ r. (r.items, r.below)) (λ p. record { items = p.0; below = p.1 }) (λ _. refl)

abbrev pub optional_code : Coded Optional
optional_code = code_by (Option ℕ × Below) (coded× (coded_option coded_ℕ) below_code) (λ o. (o.number, o.below)) (λ p. record { number = p.0; below = p.1 }) (λ _. refl)

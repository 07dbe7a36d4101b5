-- What stands at a number past the table.
use Rattle.std.proofs.Common.{◌≡◌, ℕ, ◌≤◌, List, length, ap}
use Rattle.std.proofs.lemmas.Option.{slice_get_past}
use Rattle.snap_ast.specs.declared.form.Form.TheVariants as f
use Rattle.snap_ast.specs.declared.tree.TreeNode.{TreeNode}
use Rattle.spec_scopes.specs.Names.{form_at}
use Rattle.std.specs.Option.{option_map_or}

pub empty_past : (nodes : List TreeNode) (number : ℕ) → length nodes ≤ number → form_at nodes number ≡ f.Empty
empty_past nodes number h = ap (λ found. option_map_or (λ (node : TreeNode). node.form) found f.Empty) (slice_get_past nodes number h)

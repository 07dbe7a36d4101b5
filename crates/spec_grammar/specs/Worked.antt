-- How worked sources are written down.
use Rattle.std.specs.Prelude.{◌≡◌, ℕ, List, [], ◌∷◌, codes, Result, Ok, Err}
use Prim.Native.String.{String}
use Rattle.snap_ast.specs.declared.form.Form.{Form}
use Rattle.snap_ast.specs.declared.tree.Tree.{Tree}
use Rattle.snap_ast.specs.declared.tree.TreeNode.{TreeNode}
use Rattle.spec_grammar.specs.Outcome.{Cause}
use Rattle.spec_grammar.specs.Source.{Refused, NoTree, read_tree}

-- the forms of nodes, by their numbers
abbrev pub forms : List TreeNode → List Form
forms [] = []
forms (node ∷ nodes) = node.form ∷ forms nodes

-- the places of nodes, by their numbers
abbrev pub places : List TreeNode → List ℕ
places [] = []
places (node ∷ nodes) = node.at ∷ places nodes

abbrev pub forms_of : Result Tree Refused → List Form
forms_of (Ok tree) = forms tree.nodes
forms_of (Err refused) = []

abbrev pub places_of : Result Tree Refused → List ℕ
places_of (Ok tree) = places tree.nodes
places_of (Err refused) = []

abbrev pub top_of : Result Tree Refused → List ℕ
top_of (Ok tree) = tree.top
top_of (Err refused) = []

-- a source with its nodes, and the statements among them
abbrev pub Gives : String → List Form → List ℕ → Type 0
Gives source nodes top = (forms_of (read_tree (codes source)) ≡ nodes) × (top_of (read_tree (codes source)) ≡ top)

-- a source that has no tree, and the place that shows it
abbrev pub Refuses : String → Cause → ℕ → Type 0
Refuses source cause at = read_tree (codes source) ≡ Err (NoTree cause at)

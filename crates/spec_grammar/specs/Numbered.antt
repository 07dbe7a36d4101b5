-- Nodes with the numbers that they have in a table.
use Rattle.std.specs.Prelude.{ℕ, suc, ◌+◌, List, [], ◌∷◌, Option, Some, None}
use Rattle.snap_ast.specs.declared.form.Form.{Form}
use Rattle.snap_ast.specs.declared.form.Form.TheVariants as f
use Rattle.snap_ast.specs.declared.part.Binding.{Binding}
use Rattle.snap_ast.specs.declared.part.ConstBinding.{ConstBinding}
use Rattle.snap_ast.specs.declared.part.ConstBinding.TheVariants.{One, Pattern}
use Rattle.snap_ast.specs.declared.part.Property.{Property}
use Rattle.snap_ast.specs.declared.part.PropertyKey.{PropertyKey}
use Rattle.snap_ast.specs.declared.part.PropertyKey.TheVariants.{Word, Text, Number, Computed}
use Rattle.snap_ast.specs.declared.tree.Tree.{Tree}
use Rattle.snap_ast.specs.declared.tree.TreeNode.{TreeNode}
use Rattle.spec_grammar.specs.Phrase.{Row}

-- Each child's number, counted from the node behind its parent, as one of the table, in which that node has this number.
module _ (behind : ℕ) where
  abbrev pub numbers : List ℕ → List ℕ
  numbers [] = []
  numbers (child ∷ children) = (behind + child) ∷ numbers children

  abbrev pub optional : Option ℕ → Option ℕ
  optional None = None
  optional (Some child) = Some (behind + child)

  abbrev pub bindings : List Binding → List Binding
  bindings [] = []
  bindings (binding ∷ rest) = record { name = binding.name; value = optional binding.value } ∷ bindings rest

  abbrev pub const_binding : ConstBinding → ConstBinding
  const_binding (One named value) = One named (behind + value)
  const_binding (Pattern names value) = Pattern names (behind + value)

  abbrev pub const_bindings : List ConstBinding → List ConstBinding
  const_bindings [] = []
  const_bindings (binding ∷ rest) = const_binding binding ∷ const_bindings rest

  abbrev pub key : PropertyKey → PropertyKey
  key (Word text) = Word text
  key (Text units) = Text units
  key (Number value) = Number value
  key (Computed child) = Computed (behind + child)

  abbrev pub properties : List Property → List Property
  properties [] = []
  properties (property ∷ rest) = record { key = key property.key; value = behind + property.value } ∷ properties rest

  abbrev pub form : Form → Form
  form (f.Let found) = f.Let (bindings found)
  form (f.Const found) = f.Const (const_bindings found)
  form (f.Function named parameters body) = f.Function named parameters (numbers body)
  form (f.Block body) = f.Block (numbers body)
  form f.Empty = f.Empty
  form (f.Expression value) = f.Expression (behind + value)
  form (f.If test chosen) = f.If (behind + test) (behind + chosen)
  form (f.IfElse test chosen otherwise) = f.IfElse (behind + test) (behind + chosen) (behind + otherwise)
  form (f.While test body) = f.While (behind + test) (behind + body)
  form (f.For start test update body) = f.For (optional start) (optional test) (optional update) (behind + body)
  form (f.ForLet found test update body) = f.ForLet (bindings found) (optional test) (optional update) (behind + body)
  form (f.ForOf is_constant named values body) = f.ForOf is_constant named (behind + values) (behind + body)
  form f.Break = f.Break
  form f.Continue = f.Continue
  form (f.Return value) = f.Return (optional value)
  form (f.Throw value) = f.Throw (behind + value)
  form (f.TryCatch tried handler finalizer) = f.TryCatch (behind + tried) (behind + handler) (optional finalizer)
  form (f.TryCatchName tried named handler finalizer) = f.TryCatchName (behind + tried) named (behind + handler) (optional finalizer)
  form (f.TryFinally tried finalizer) = f.TryFinally (behind + tried) (behind + finalizer)
  form (f.ArrowValue parameters value) = f.ArrowValue parameters (behind + value)
  form (f.ArrowBody parameters body) = f.ArrowBody parameters (numbers body)
  form (f.AssignName named operator value) = f.AssignName named operator (behind + value)
  form (f.Assign target operator value) = f.Assign (behind + target) operator (behind + value)
  form (f.Conditional test chosen otherwise) = f.Conditional (behind + test) (behind + chosen) (behind + otherwise)
  form (f.Binary operator left right) = f.Binary operator (behind + left) (behind + right)
  form (f.Unary operator operand) = f.Unary operator (behind + operand)
  form (f.UpdateName operator is_prefix named) = f.UpdateName operator is_prefix named
  form (f.Update operator is_prefix target) = f.Update operator is_prefix (behind + target)
  form (f.Member object text) = f.Member (behind + object) text
  form (f.Index object index) = f.Index (behind + object) (behind + index)
  form (f.Call callee arguments) = f.Call (behind + callee) (numbers arguments)
  form (f.New callee arguments) = f.New (behind + callee) (numbers arguments)
  form (f.Name name) = f.Name name
  form (f.Number value) = f.Number value
  form (f.Text units) = f.Text units
  form (f.Bool value) = f.Bool value
  form f.Null = f.Null
  form f.Undefined = f.Undefined
  form (f.Array elements) = f.Array (numbers elements)
  form (f.Object found) = f.Object (properties found)
  form (f.FunctionValue parameters body) = f.FunctionValue parameters (numbers body)

-- nodes of which the first has a number
abbrev pub numbered : ℕ → List TreeNode → List TreeNode
numbered at [] = []
numbered at (node ∷ nodes) = record { form = form (suc at) node.form; at = node.at } ∷ numbered (suc at) nodes

-- the tree of a script with these statements
abbrev pub tree_of : Row ℕ → Tree
tree_of row = record { nodes = numbered 0 row.below.nodes; top = row.items }

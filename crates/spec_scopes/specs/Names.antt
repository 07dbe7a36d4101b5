-- Which names statements declare, and which names nodes mention, in order.
use Rattle.std.specs.Prelude.{ℕ, Bool, true, false, List, [], ◌∷◌, ◌++◌, map, slice_get}
use Rattle.std.specs.Option.{option_map_or}
use Rattle.snap_ast.specs.declared.form.Form.{Form}
use Rattle.snap_ast.specs.declared.form.Form.TheVariants as f
use Rattle.snap_ast.specs.declared.part.Binding.{Binding}
use Rattle.snap_ast.specs.declared.part.ConstBinding.{ConstBinding}
use Rattle.snap_ast.specs.declared.part.ConstBinding.TheVariants.{One, Pattern}
use Rattle.snap_ast.specs.declared.part.Named.{Named}
use Rattle.snap_ast.specs.declared.tree.TreeNode.{TreeNode}

-- a name that is declared, with its place, and whether it is a constant
pub record Declared : Type 0 where
  pub named : Named
  pub is_constant : Bool

abbrev pub variable : Named → Declared
variable named = record { named = named; is_constant = false }

abbrev pub constant : Named → Declared
constant named = record { named = named; is_constant = true }

-- the names of a let
abbrev pub let_names : List Binding → List Declared
let_names bindings = map (λ binding. variable binding.name) bindings

abbrev pub binding_names : ConstBinding → List Named
binding_names (One named value) = named ∷ []
binding_names (Pattern names value) = names

-- the names of a const
abbrev pub const_names : List ConstBinding → List Declared
const_names [] = []
const_names (binding ∷ bindings) = map constant (binding_names binding) ++ const_names bindings

-- the names that a statement declares in the scope round it
abbrev pub declares : Form → List Declared
declares (f.Let bindings) = let_names bindings
declares (f.Const bindings) = const_names bindings
declares (f.Function name parameters body) = variable name ∷ []
declares form = []

-- the names that a node reads, writes or declares in the scopes round it, in order of the source. Not among them are the names
-- of a scope that it makes itself: parameters, the head of a loop, the name of a catch.
abbrev pub mentions : Form → List (List ℕ)
mentions (f.Name name) = name ∷ []
mentions (f.AssignName name operator value) = name.name ∷ []
mentions (f.UpdateName operator is_prefix name) = name.name ∷ []
mentions form = map (λ declared. declared.named.name) (declares form)

-- what stands at a node
abbrev pub form_at : List TreeNode → ℕ → Form
form_at nodes number = option_map_or (λ node. node.form) (slice_get nodes number) f.Empty

-- the names that statements, by their numbers, declare in the scope round them
abbrev pub declared : List TreeNode → List ℕ → List Declared
declared nodes [] = []
declared nodes (number ∷ rest) = declares (form_at nodes number) ++ declared nodes rest

-- What stands round a node: the nodes round it, and by them its chain of scopes, and whether it is in a loop or a function.
use Rattle.std.specs.Prelude.{◌≡◌, ℕ, Bool, true, false, not, ◌&&◌, ◌||◌, nat_eq, List, [], ◌∷◌, map, slice_get, Option, None, Some, if◌then◌else◌}
use Rattle.snap_ast.specs.declared.form.Form.{Form}
use Rattle.snap_ast.specs.declared.form.Form.TheVariants as f
use Rattle.snap_ast.specs.declared.tree.Tree.{Tree}
use Rattle.snap_ast.specs.declared.tree.TreeNode.{TreeNode}
use Rattle.snap_ast.specs.Children.{children}
use Rattle.spec_scopes.specs.Scopes.{Scope, made, script_scope}

-- a node round another: what it is, and the number of the child in which the other stands
pub record Step : Type 0 where
  pub form : Form
  pub child : ℕ

abbrev pub step : Form → ℕ → Step
step form child = record { form = form; child = child }

-- the numbers of the children of a form
abbrev pub numbers : Form → List ℕ
numbers form = map (λ child. child.number) (children form)

-- a number is one of these
abbrev pub IsAmong : List ℕ → ℕ → Type 0
IsAmong numbers number = (place : ℕ) × (slice_get numbers place ≡ Some number)

-- a node of a tree, and the nodes round it, innermost first
pub data Stands : Tree → ℕ → List Step → Type 0 where
  AtTop : {tree : Tree} {number : ℕ} → IsAmong tree.top number → Stands tree number []
  Within : {tree : Tree} {parent number : ℕ} {node : TreeNode} {round : List Step} → Stands tree parent round → slice_get tree.nodes parent ≡ Some node → IsAmong (numbers node.form) number → Stands tree number (step node.form number ∷ round)

-- Which children stand in the scope that their parent makes. The scope of a catch holds its block alone. The others hold all:
-- the values and tests in the head of a loop, and what a for..of goes through, stand in the loop's scope too.
abbrev pub holds : Form → ℕ → Bool
holds (f.TryCatchName tried name handler finalizer) child = nat_eq child handler
holds form child = true

-- a chain with one more scope, where one is made
abbrev pub inside : Option Scope → List Scope → List Scope
inside None chain = chain
inside (Some scope) chain = scope ∷ chain

-- the chain of a child, of its parent's chain
abbrev pub child_chain : List TreeNode → Step → List Scope → List Scope
child_chain nodes step chain = if holds step.form step.child then inside (made nodes step.form) chain else chain

-- the scopes round a node, innermost first, without the one that it makes itself
abbrev pub chain : Tree → List Step → List Scope
chain tree [] = script_scope tree ∷ []
chain tree (step ∷ round) = child_chain tree.nodes step (chain tree round)

abbrev pub is_function : Form → Bool
is_function (f.Function name parameters body) = true
is_function (f.FunctionValue parameters body) = true
is_function (f.ArrowValue parameters value) = true
is_function (f.ArrowBody parameters body) = true
is_function form = false

abbrev pub is_loop : Form → Bool
is_loop (f.While test body) = true
is_loop (f.For start test update body) = true
is_loop (f.ForLet bindings test update body) = true
is_loop (f.ForOf is_constant name values body) = true
is_loop form = false

-- a node stands in a function
abbrev pub in_function : List Step → Bool
in_function [] = false
in_function (step ∷ round) = is_function step.form || in_function round

-- a node stands in a loop of its function
abbrev pub in_loop : List Step → Bool
in_loop [] = false
in_loop (step ∷ round) = is_loop step.form || (not (is_function step.form) && in_loop round)

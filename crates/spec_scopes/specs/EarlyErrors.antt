-- The early errors of a tree, each with the place that shows it.
use Rattle.std.specs.Prelude.{◌≡◌, ◌⊎◌, ◌<◌, ℕ, Bool, true, false, not, List, slice_get, Option, None, Some}
use Rattle.snap_ast.specs.declared.form.Form.{Form}
use Rattle.snap_ast.specs.declared.form.Form.TheVariants as f
use Rattle.snap_ast.specs.declared.tree.Tree.{Tree}
use Rattle.snap_ast.specs.declared.tree.TreeNode.{TreeNode}
use Rattle.spec_scopes.specs.declared.fault.ScopeFault.{ScopeFault}
use Rattle.spec_scopes.specs.declared.fault.ScopeFault.TheVariants.{Duplicate, BadTarget, StrayJump, NoMemory}
use Rattle.spec_scopes.specs.Names.{Declared}
use Rattle.spec_scopes.specs.Round.{Step, Stands, in_function, in_loop}
use Rattle.spec_scopes.specs.Scopes.{names_apart, script_names}

-- two of the names are the same, and the later one stands at the place
pub record Repeats (names : List Declared) (at : ℕ) : Type 0 where
  pub earlier : ℕ
  pub later : ℕ
  pub first : Declared
  pub second : Declared
  pub before : earlier < later
  pub has_first : slice_get names earlier ≡ Some first
  pub has_second : slice_get names later ≡ Some second
  pub same : first.named.name ≡ second.named.name
  pub place : second.named.at ≡ at

-- a node of the tree of which this holds
abbrev pub SomeNode : Tree → (TreeNode → Type 0) → Type 0
SomeNode tree P = (number : ℕ) × (node : TreeNode) × (slice_get tree.nodes number ≡ Some node) × P node

-- a scope declares a name twice, or a catch block declares the name of its catch
abbrev pub HasDuplicate : Tree → ℕ → Type 0
HasDuplicate tree at = Repeats (script_names tree).names at ⊎ SomeNode tree (λ node. Repeats (names_apart tree.nodes node.form) at)

-- what is assigned or updated, where that is no name
abbrev pub target_of : Form → Option ℕ
target_of (f.Assign target operator value) = Some target
target_of (f.Update operator is_prefix target) = Some target
target_of form = None

-- a member or an index
abbrev pub is_reference : Form → Bool
is_reference (f.Member object key) = true
is_reference (f.Index object key) = true
is_reference form = false

-- what is assigned or updated is no name, no member and no index
abbrev pub HasBadTarget : Tree → ℕ → Type 0
HasBadTarget tree at =
    SomeNode tree (λ node. (number : ℕ) × (target : TreeNode) × (target_of node.form ≡ Some number) × (slice_get tree.nodes number ≡ Some target)
    × (is_reference target.form ≡ false) × (target.at ≡ at))

-- a jump that has nothing to leave
abbrev pub is_stray : Form → List Step → Bool
is_stray f.Break round = not (in_loop round)
is_stray f.Continue round = not (in_loop round)
is_stray (f.Return value) round = not (in_function round)
is_stray form round = false

abbrev pub HasStrayJump : Tree → ℕ → Type 0
HasStrayJump tree at =
    (number : ℕ) × (node : TreeNode) × (round : List Step) × (slice_get tree.nodes number ≡ Some node) × Stands tree number round
    × (is_stray node.form round ≡ true) × (node.at ≡ at)

-- an early error of the tree
abbrev pub HasFault : Tree → ScopeFault → Type 0
HasFault tree (Duplicate at) = HasDuplicate tree at
HasFault tree (BadTarget at) = HasBadTarget tree at
HasFault tree (StrayJump at) = HasStrayJump tree at
HasFault tree NoMemory = ⊥

-- All that is known of the scopes of a tree.
use Rattle.std.specs.Prelude.{◌≡◌, ℕ, List, [], length, get_or, slice_get, Option, None, Some}
use Rattle.snap_ast.specs.Lawful.{Lawful}
use Rattle.snap_ast.specs.declared.tree.Tree.{Tree}
use Rattle.snap_ast.specs.declared.tree.TreeNode.{TreeNode}
use Rattle.spec_scopes.specs.Round.{Step, Stands, chain}
use Rattle.spec_scopes.specs.Scopes.{Scope, made, script_scope}
use Rattle.spec_scopes.specs.Slots.{places}
use Rattle.spec_scopes.specs.declared.place.SlotPlace.{SlotPlace}

-- the chain of scopes round a node, the scope that the node makes, and the places of the names that it mentions
pub record NodeScopes : Type 0 where
  pub round : List Scope
  pub own : Option Scope
  pub names : List (Option SlotPlace)

-- the scope of the script, and the scopes of each node, by number
pub record Resolution : Type 0 where
  pub script : Scope
  pub nodes : List NodeScopes

-- what is known of a node
abbrev pub node_scopes : Resolution → ℕ → NodeScopes
node_scopes resolution number = get_or resolution.nodes number (record { round = []; own = None; names = [] })

-- these are the scopes of the tree
pub record AreScopes (tree : Tree) (resolution : Resolution) : Type 0 where
  pub script : resolution.script ≡ script_scope tree
  pub count : length resolution.nodes ≡ length tree.nodes
  pub nodes : (number : ℕ) (node : TreeNode) (steps : List Step) → slice_get tree.nodes number ≡ Some node → Stands tree number steps
      → slice_get resolution.nodes number ≡ Some (record { round = chain tree steps; own = made tree.nodes node.form; names = places (chain tree steps) node.form })

-- a lawful tree with its own scopes
abbrev pub AreTogether : Tree → Resolution → Type 0
AreTogether tree resolution = Lawful tree × AreScopes tree resolution

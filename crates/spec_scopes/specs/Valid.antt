-- Which heaps are graphs of scripts: each function closes over scopes that its place in its script asks for.
use Rattle.std.specs.Prelude.{◌≡◌, ℕ, Bool, true, false, All, List, [], ◌∷◌, length, map, slice_get, Option, None, Some}
use Rattle.std.specs.Option.{option_map_or}
use Rattle.snap_ast.specs.Lawful.{Lawful}
use Rattle.snap_ast.specs.declared.tree.Tree.{Tree}
use Rattle.snap_ast.specs.declared.tree.TreeNode.{TreeNode}
use Rattle.snap_graph.specs.declared.kind.Kind.TheVariants.{Function, Scope}
use Rattle.snap_graph.specs.declared.kind.ScopeKind.{ScopeKind}
use Rattle.snap_graph.specs.declared.node.Node.{Node}
use Rattle.snap_graph.specs.declared.value.Value.{Value}
use Rattle.snap_graph.specs.declared.value.Value.TheVariants.{Undefined, Null, Bool as Truth, Int, Text, Node as At, Empty}
use Rattle.snap_graph.specs.Lawful.{IsLawful, is_scope}
use Rattle.snap_graph.specs.Values.{IsValue}
use Rattle.spec_scopes.specs.declared.fault.ScopeFault.{ScopeFault}
use Rattle.spec_scopes.specs.declared.need.ScopeNeed.{ScopeNeed}
use Rattle.spec_scopes.specs.EarlyErrors.{HasFault}
use Rattle.spec_scopes.specs.Round.{Step, Stands, chain, is_function}
use Rattle.spec_scopes.specs.Scopes.{need}

-- a script that can be run: its tree is lawful and has no early error
pub record IsScript (tree : Tree) : Type 0 where
  pub lawful : Lawful tree
  pub faultless : (fault : ScopeFault) → HasFault tree fault → ⊥

-- whether a value is the number of a scope
abbrev pub holds_scope : List Node → Value → Bool
holds_scope nodes Undefined = false
holds_scope nodes Null = false
holds_scope nodes (Truth b) = false
holds_scope nodes (Int z) = false
holds_scope nodes (Text text) = false
holds_scope nodes (At number) = option_map_or (λ node. is_scope node.kind) (slice_get nodes number) false
holds_scope nodes Empty = false

-- a value that scripts can have: it is no scope, and the mark of an empty place is none
abbrev pub IsScriptValue : List Node → Value → Type 0
IsScriptValue nodes value = IsValue (length nodes) value × (holds_scope nodes value ≡ false)

-- the scopes from a value on, each inside the next, are of these kinds and have so many slots
pub data IsChain (nodes : List Node) : Value → List ScopeNeed → Type 0 where
  Outermost : IsChain nodes Null []
  Inside : {number : ℕ} {node : Node} {scope : ScopeKind} {needs : List ScopeNeed} → slice_get nodes number ≡ Some node → node.kind ≡ Scope scope
      → IsChain nodes node.prototype needs → IsChain nodes (At number) (record { kind = scope; slots = length node.elements } ∷ needs)

-- a node of a script's tree is a function, and stands in scopes of these kinds with so many slots
pub record IsFunctionIn (scripts : List Tree) (script number : ℕ) (needs : List ScopeNeed) : Type 0 where
  pub tree : Tree
  pub node : TreeNode
  pub round : List Step
  pub source : slice_get scripts script ≡ Some tree
  pub read : slice_get tree.nodes number ≡ Some node
  pub function : is_function node.form ≡ true
  pub stands : Stands tree number round
  pub chain : map need (chain tree round) ≡ needs

-- a function closes over one scope, and from there on has the scopes round its node
pub record ClosesOver (nodes : List Node) (scripts : List Tree) (script number : ℕ) (elements : List Value) : Type 0 where
  pub scope : Value
  pub needs : List ScopeNeed
  pub one : elements ≡ scope ∷ []
  pub scopes : IsChain nodes scope needs
  pub function : IsFunctionIn scripts script number needs

-- a node among others: a function fits its scopes, and nothing else holds a scope
pub record IsValidNode (nodes : List Node) (scripts : List Tree) (node : Node) : Type 0 where
  pub functions : (script number : ℕ) → node.kind ≡ Function script number → ClosesOver nodes scripts script number node.elements
  pub elements : ((script number : ℕ) → node.kind ≡ Function script number → ⊥) → All (λ value. holds_scope nodes value ≡ false) node.elements
  pub properties : All (λ property. holds_scope nodes property.value ≡ false) node.properties

-- A graph of scripts. Beyond what makes nodes a heap, each node fits the scripts. A store stands for a heap at every call, since a
-- function or a scope is made first and filled then; the heap is such a graph again at every step of evaluation.
pub record IsValid (nodes : List Node) (scripts : List Tree) : Type 0 where
  pub lawful : IsLawful nodes
  pub each : All (IsValidNode nodes scripts) nodes

-- a graph of scripts that is given with its roots: each of them is a value that scripts can have
pub record IsValidFrom (nodes : List Node) (roots : List Value) (scripts : List Tree) : Type 0 where
  pub each_script : All IsScript scripts
  pub valid : IsValid nodes scripts
  pub each_root : All (IsScriptValue nodes) roots

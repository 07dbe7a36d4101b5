-- What is known once the nodes before a number are visited.
use Rattle.std.specs.Prelude.{◌≡◌, ℕ, ◌<◌, ◌≤◌, ◌+◌, ◌-◌, take, drop, not, ◌&&◌, ◌||◌, List, [], ◌∷◌, ◌++◌, length, slice_get, Option, None, Some, if◌then◌else◌}
use Rattle.std.specs.Option.{option_map}
use Rattle.snap_ast.specs.declared.form.Form.{Form}
use Rattle.snap_ast.specs.declared.tree.Tree.{Tree}
use Rattle.snap_ast.specs.declared.tree.TreeNode.{TreeNode}
use Rattle.snap_scope.specs.Chains.{Table, chain_in, scope_in}
use Rattle.snap_scope.specs.declared.context.Context.{Context}
use Rattle.snap_scope.specs.declared.context.NodeEntry.{NodeEntry}
use Rattle.spec_scopes.specs.Resolution.{NodeScopes}
use Rattle.spec_scopes.specs.Round.{IsAmong, Stands, Step, chain, holds, in_function, in_loop, is_function, is_loop, numbers, step}
use Rattle.snap_graph.specs.declared.kind.ScopeKind.{ScopeKind}
use Rattle.spec_scopes.specs.Scopes.{Slot, made, own_names, script_names, script_scope}
use Rattle.spec_scopes.specs.Slots.{places}
use Rattle.spec_scopes.specs.declared.place.SlotPlace.{SlotPlace}
use Rattle.spec_scopes.specs.Told.{error_at, first_repeat, node_error}

-- the chain of a child, by the scope that the parent makes
abbrev pub chain_of_child : Form → ℕ → Option ℕ → ℕ → ℕ
chain_of_child form chain None child = chain
chain_of_child form chain (Some own) child = if holds form child then own else chain

-- what a child has from its parent, of which the parent's own chain is known
abbrev pub child_context : Form → Context → Option ℕ → ℕ → Context
child_context form context own child = record {
  chain = chain_of_child form context.chain own child;
  in_loop = is_loop form || (not (is_function form) && context.in_loop);
  in_function = is_function form || context.in_function;
}

-- a scope is added inside a chain, where it has slots
abbrev pub Enters : ℕ → ScopeKind → List Slot → Option ℕ → Table → Table → Type 0
Enters chain kind slots None old new = (slots ≡ []) × (new ≡ old)
Enters chain kind slots (Some own) old new = (0 < length slots) × (own ≡ length old.chains)
    × (new.scopes ≡ old.scopes ++ record { kind = kind; slots = slots } ∷ []) × (new.chains ≡ old.chains ++ (record { kind = kind; slots = slots } ∷ chain_in old chain) ∷ [])

-- a context is that of a node with such nodes round it
pub record Right (tree : Tree) (table : Table) (context : Context) (steps : List Step) : Type 0 where
  pub below : context.chain < length table.chains
  pub chain_is : chain_in table context.chain ≡ chain tree steps
  pub loop_is : context.in_loop ≡ in_loop steps
  pub function_is : context.in_function ≡ in_function steps

abbrev pub RightAt : Tree → Table → List Context → ℕ → List Step → Type 0
RightAt tree table contexts number steps = (context : Context) × (slice_get contexts number ≡ Some context) × Right tree table context steps

-- what an entry stands for
abbrev pub scopes_at : Table → List (Option SlotPlace) → NodeEntry → NodeScopes
scopes_at table places entry = record { round = chain_in table entry.chain; own = option_map (scope_in table.scopes) entry.own; names = take entry.count (drop entry.first places) }

abbrev pub IsBelow : ℕ → Option ℕ → Type 0
IsBelow count None = Unit {0}
IsBelow count (Some number) = number < count

-- the numbers of an entry are in the table, and among so many places
abbrev pub IsEntry : Table → ℕ → NodeEntry → Type 0
IsEntry table count entry = (entry.chain < length table.chains) × IsBelow (length table.scopes) entry.own × (entry.first + entry.count ≤ count)

pub record Known (tree : Tree) (table : Table) (found : List (Option SlotPlace)) (entry : NodeEntry) (node : TreeNode) (steps : List Step) : Type 0 where
  pub is_entry : IsEntry table (length found) entry
  pub scopes_are : scopes_at table found entry ≡ record { round = chain tree steps; own = made tree.nodes node.form; names = places (chain tree steps) node.form }

abbrev pub KnownAt : Tree → Table → List NodeEntry → List (Option SlotPlace) → ℕ → TreeNode → List Step → Type 0
KnownAt tree table entries found number node steps = (entry : NodeEntry) × (slice_get entries number ≡ Some entry) × Known tree table found entry node steps

-- a node with this context has no early error
abbrev pub IsCleanAt : Tree → TreeNode → Context → Type 0
IsCleanAt tree node context = (steps : List Step) → context.in_loop ≡ in_loop steps → context.in_function ≡ in_function steps → node_error tree node steps ≡ None

-- a node of this form is entered: its scope is added, its children have what they have from it, its names have their places,
-- and it has its entry
abbrev pub entry_at : Context → Option ℕ → ℕ → ℕ → NodeEntry
entry_at context own first count = record { chain = context.chain; own = own; first = first; count = count }

abbrev pub GoesIn : Form → Context → List Slot → Table → List Context → List NodeEntry → List (Option SlotPlace) → Table → List Context → List NodeEntry → List (Option SlotPlace) → Type 0
GoesIn form context slots old contexts entries found new after now placed = (own : Option ℕ) × ((nodes : List TreeNode) → Enters context.chain (own_names nodes form).kind slots own old new)
    × (length after ≡ length contexts) × ((child : ℕ) → IsAmong (numbers form) child → slice_get after child ≡ Some (child_context form context own child))
    × ((other : ℕ) → (IsAmong (numbers form) other → ⊥) → slice_get after other ≡ slice_get contexts other) × (now ≡ entries ++ entry_at context own (length found) (length placed - length found) ∷ [])
    × (placed ≡ found ++ places (chain_in old context.chain) form)

pub record Visited (tree : Tree) (table : Table) (contexts : List Context) (entries : List NodeEntry) (found : List (Option SlotPlace)) (visited : ℕ) : Type 0 where
  pub long : length contexts ≡ length tree.nodes
  pub many : length entries ≡ visited
  pub paired : length table.scopes ≡ length table.chains
  pub some : 0 < length table.scopes
  pub script : scope_in table.scopes 0 ≡ script_scope tree
  pub apart : first_repeat (script_names tree).names ≡ None
  pub top : (number : ℕ) → IsAmong tree.top number → RightAt tree table contexts number []
  pub inner : (parent number : ℕ) (node : TreeNode) (round : List Step) → parent < visited → slice_get tree.nodes parent ≡ Some node → IsAmong (numbers node.form) number → Stands tree parent round
      → RightAt tree table contexts number (step node.form number ∷ round)
  pub known : (number : ℕ) (node : TreeNode) (steps : List Step) → number < visited → slice_get tree.nodes number ≡ Some node → Stands tree number steps → KnownAt tree table entries found number node steps
  pub clean : (number : ℕ) (node : TreeNode) → number < visited → slice_get tree.nodes number ≡ Some node → error_at tree number node ≡ None

-- The scope that a node makes.
use Rattle.std.specs.Prelude.{ℕ, Bool, List, [], ◌∷◌, ◌++◌, map, length, Option, None, Some}
use Rattle.snap_ast.specs.declared.form.Form.{Form}
use Rattle.snap_ast.specs.declared.form.Form.TheVariants as f
use Rattle.snap_ast.specs.declared.tree.Tree.{Tree}
use Rattle.snap_ast.specs.declared.tree.TreeNode.{TreeNode}
use Rattle.snap_graph.specs.declared.kind.ScopeKind.{ScopeKind}
use Rattle.snap_graph.specs.declared.kind.ScopeKind.TheVariants.{Script, Function, Block, Loop, Catch}
use Rattle.spec_scopes.specs.declared.need.ScopeNeed.{ScopeNeed}
use Rattle.spec_scopes.specs.Names.{Declared, variable, let_names, declared, form_at}

-- names and the kind of the scope that holds them
pub record Names : Type 0 where
  pub kind : ScopeKind
  pub names : List Declared

abbrev pub names_of : ScopeKind → List Declared → Names
names_of kind names = record { kind = kind; names = names }

-- the names of the scope that a node makes: a function's parameters and then what is declared at the top of its body,
-- what is declared directly in a block, the names in the head of a loop, the name of a catch
abbrev pub own_names : List TreeNode → Form → Names
own_names nodes (f.Function name parameters body) = names_of Function (map variable parameters ++ declared nodes body)
own_names nodes (f.FunctionValue parameters body) = names_of Function (map variable parameters ++ declared nodes body)
own_names nodes (f.ArrowBody parameters body) = names_of Function (map variable parameters ++ declared nodes body)
own_names nodes (f.ArrowValue parameters value) = names_of Function (map variable parameters)
own_names nodes (f.Block body) = names_of Block (declared nodes body)
own_names nodes (f.ForLet bindings test update body) = names_of Loop (let_names bindings)
own_names nodes (f.ForOf is_constant name values body) = names_of Loop (record { named = name; is_constant = is_constant } ∷ [])
own_names nodes (f.TryCatchName tried name handler finalizer) = names_of Catch (variable name ∷ [])
own_names nodes form = names_of Block []

-- the names at the top of a script
abbrev pub script_names : Tree → Names
script_names tree = names_of Script (declared tree.nodes tree.top)

-- what a slot holds the value of
pub record Slot : Type 0 where
  pub name : List ℕ
  pub is_constant : Bool

abbrev pub slot_of : Declared → Slot
slot_of declared = record { name = declared.named.name; is_constant = declared.is_constant }

-- a scope: its slots stand in order of declaration
pub record Scope : Type 0 where
  pub kind : ScopeKind
  pub slots : List Slot

abbrev pub scope_of : Names → Scope
scope_of names = record { kind = names.kind; slots = map slot_of names.names }

-- a scope that would have no names is not made
abbrev pub made_of : ScopeKind → List Declared → Option Scope
made_of kind [] = None
made_of kind (name ∷ names) = Some (scope_of (names_of kind (name ∷ names)))

-- the scope that a node makes
abbrev pub made : List TreeNode → Form → Option Scope
made nodes form = made_of (own_names nodes form).kind (own_names nodes form).names

-- the scope of a script, which is made without names too
abbrev pub script_scope : Tree → Scope
script_scope tree = scope_of (script_names tree)

-- the kind of a scope and the number of its slots
abbrev pub need : Scope → ScopeNeed
need scope = record { kind = scope.kind; slots = length scope.slots }

-- the names of which no two may be the same: those of the scope that a node makes, and the name of a catch with those
-- of its block
abbrev pub names_apart : List TreeNode → Form → List Declared
names_apart nodes (f.TryCatchName tried name handler finalizer) = variable name ∷ (own_names nodes (form_at nodes handler)).names
names_apart nodes form = (own_names nodes form).names

-- What the table of scopes stands for.
use Rattle.std.specs.Prelude.{◌≡◌, ℕ, ◌<◌, ◌≤◌, ◌^◌, List, [], map, length, get_or}
use Rattle.snap_ast.specs.Words.{Each}
use Rattle.snap_graph.specs.declared.kind.ScopeKind.TheVariants.{Script}
use Rattle.snap_scope.specs.declared.level.Level.{Level}
use Rattle.spec_scopes.specs.Scopes.{Scope, need}

-- scopes by number, and by the same numbers the chains that they begin
pub record Table : Type 0 where
  pub scopes : List Scope
  pub chains : List (List Scope)

abbrev pub nothing : Scope
nothing = record { kind = Script; slots = [] }

abbrev pub scope_in : List Scope → ℕ → Scope
scope_in scopes number = get_or scopes number nothing

abbrev pub chain_in : Table → ℕ → List Scope
chain_in table number = get_or table.chains number []

-- the scope of a level
abbrev pub own_scope : Level → Scope
own_scope level = record { kind = level.kind; slots = level.slots }

abbrev pub scopes_of : List Level → List Scope
scopes_of levels = map own_scope levels

abbrev pub level_chain : List Scope → Level → List Scope
level_chain scopes level = map (scope_in scopes) level.scopes.items

abbrev pub table_of : List Level → Table
table_of levels = record { scopes = scopes_of levels; chains = map (level_chain (scopes_of levels)) levels }

-- the scopes of a level's chain are levels, and what they need is told
pub record IsLevel (scopes : List Scope) (level : Level) : Type 0 where
  pub within : Each (λ number. number < length scopes) level.scopes.items
  pub needs : level.needs.items ≡ map need (level_chain scopes level)
  pub few : length level.scopes.items ≤ 2 ^ 32

abbrev pub AreLevels : List Level → Type 0
AreLevels levels = Each (IsLevel (scopes_of levels)) levels

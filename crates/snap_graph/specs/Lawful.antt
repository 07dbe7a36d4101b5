-- Which lists of nodes are heaps. What a heap owes to the scripts of its functions is no part of it: a function or a scope is
-- made first and filled then.
use Rattle.std.specs.Prelude.{◌≡◌, ◌≢◌, ℕ, zero, suc, ◌⊎◌, Bool, true, false, All, AllPairs, List, [], ◌∷◌, codes, length, take, slice_get, Option, None, Some, IsSome}
use Rattle.std.specs.Option.{option_map, option_and_then}
use Rattle.snap_graph.specs.declared.kind.Kind.{Kind}
use Rattle.snap_graph.specs.declared.kind.Kind.TheVariants as kind
use Rattle.snap_graph.specs.declared.node.Node.{Node}
use Rattle.snap_graph.specs.declared.value.Value.{Value}
use Rattle.snap_graph.specs.declared.value.Value.TheVariants as value
use Rattle.snap_graph.specs.Intrinsics.{IsNative, intrinsics}
use Rattle.snap_graph.specs.OwnKeys.{array_index}
use Rattle.snap_graph.specs.Values.{IsPlace, IsValue}

-- a scope is no object of scripts
abbrev pub is_scope : Kind → Bool
is_scope kind.Plain = false
is_scope kind.Array = false
is_scope (kind.Function script tree) = false
is_scope (kind.Native native) = false
is_scope (kind.Scope scope) = true
is_scope kind.Error = false
is_scope kind.Map = false
is_scope kind.Set = false
is_scope (kind.Resource number closed) = false

-- a prototype is null or a node, which is a scope exactly where the node that has it is one
abbrev pub IsPrototype : List Node → Kind → Value → Type 0
IsPrototype nodes kind value.Undefined = ⊥
IsPrototype nodes kind value.Null = Unit {0}
IsPrototype nodes kind (value.Bool b) = ⊥
IsPrototype nodes kind (value.Int z) = ⊥
IsPrototype nodes kind (value.Text text) = ⊥
IsPrototype nodes kind (value.Node number) = (node : Node) × (slice_get nodes number ≡ Some node) × (is_scope node.kind ≡ is_scope kind)
IsPrototype nodes kind value.Empty = ⊥

-- the numbers of the nodes from a value on, each the prototype of the one before; none where they do not come to null within so many
abbrev pub chain_within : List Node → ℕ → Value → Option (List ℕ)
chain_within nodes steps value.Undefined = None
chain_within nodes steps value.Null = Some []
chain_within nodes steps (value.Bool b) = None
chain_within nodes steps (value.Int z) = None
chain_within nodes steps (value.Text text) = None
chain_within nodes zero (value.Node number) = None
chain_within nodes (suc steps) (value.Node number) =
    option_and_then (λ node. option_map (λ rest. number ∷ rest) (chain_within nodes steps node.prototype)) (slice_get nodes number)
chain_within nodes steps value.Empty = None

-- the chain of prototypes from a value on, if it ends: one that goes on past as many nodes as there are never does
abbrev pub chain_from : List Node → Value → Option (List ℕ)
chain_from nodes value = chain_within nodes (length nodes) value

-- a key that an array has no property of, since it names an element or how many there are
abbrev pub IsElementKey : List ℕ → Type 0
IsElementKey key = IsSome (array_index key) ⊎ (key ≡ codes "length")

-- no two of the values are equal, but for marks of empty places
abbrev pub AreApart : List Value → Type 0
AreApart values = AllPairs (λ one other. one ≡ other → one ≡ value.Empty) values

-- the keys of the records of a Map, whose elements are a key and a value in turn
abbrev pub record_keys : List Value → List Value
record_keys [] = []
record_keys (key ∷ []) = []
record_keys (key ∷ held ∷ rest) = key ∷ record_keys rest

-- elements are records, each a key and a value, or two marks where it was removed
abbrev pub AreRecords : ℕ → List Value → Type 0
AreRecords count [] = Unit {0}
AreRecords count (key ∷ []) = ⊥
AreRecords count (key ∷ held ∷ rest) =
    (((key ≡ value.Empty) × (held ≡ value.Empty)) ⊎ (IsValue count key × IsValue count held)) × AreRecords count rest

-- what elements a node of a kind may have, among so many nodes
abbrev pub AreElements : ℕ → Kind → List Value → Type 0
AreElements count kind.Plain elements = elements ≡ []
AreElements count kind.Array elements = All (IsValue count) elements
AreElements count (kind.Function script tree) elements = All (IsValue count) elements
AreElements count (kind.Native native) elements = elements ≡ []
AreElements count (kind.Scope scope) elements = All (IsPlace count) elements
AreElements count kind.Error elements = elements ≡ []
AreElements count kind.Map elements = AreRecords count elements × AreApart (record_keys elements)
AreElements count kind.Set elements = All (IsPlace count) elements × AreApart elements
AreElements count (kind.Resource number closed) elements = elements ≡ []

-- a node among others
pub record IsLawfulNode (nodes : List Node) (node : Node) : Type 0 where
  pub prototype : IsPrototype nodes node.kind node.prototype
  pub chain : IsSome (chain_from nodes node.prototype)
  pub keys : AllPairs (λ one other. one.key ≢ other.key) node.properties
  pub element_keys : node.kind ≡ kind.Array → All (λ p. IsElementKey p.key → ⊥) node.properties
  pub values : All (λ p. IsValue (length nodes) p.value) node.properties
  pub elements : AreElements (length nodes) node.kind node.elements
  pub native : (number : ℕ) → node.kind ≡ kind.Native number → IsNative number

-- a heap: the intrinsics come first, and each node is lawful among all
pub record IsLawful (nodes : List Node) : Type 0 where
  pub intrinsics : take 62 nodes ≡ intrinsics
  pub each : All (IsLawfulNode nodes) nodes

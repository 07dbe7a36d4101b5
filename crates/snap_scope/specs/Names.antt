-- Declared names, as the code has them.
use Rattle.std.specs.Prelude.{◌≡◌, ℕ, ◌<◌, Bool, true, false, All, List, [], ◌∷◌, ◌++◌, Option, map, position, slice_get, None, Some}
use Rattle.std.specs.Str.{bytes_eq as text_eq}
use Rattle.snap_ast.specs.Lawful.{HasWords}
use Rattle.snap_ast.specs.declared.tree.TreeNode.{TreeNode}
use Rattle.snap_scope.specs.declared.names.Name.{Name}
use Rattle.spec_scopes.specs.declared.fault.ScopeFault.{ScopeFault}
use Rattle.spec_scopes.specs.declared.fault.ScopeFault.TheVariants.{Duplicate, BadTarget, StrayJump, NoMemory}
use Rattle.spec_scopes.specs.Names.{Declared}
use Rattle.spec_scopes.specs.Scopes.{Slot}

abbrev pub declared_of : Name → Declared
declared_of name = record { named = name.named.now; is_constant = name.is_constant }

abbrev pub all_declared : List Name → List Declared
all_declared names = map declared_of names

-- each unit of a text fits a byte
abbrev pub IsNarrow : List ℕ → Type 0
IsNarrow text = All (λ unit. unit < 256) text

abbrev pub AreNarrow : List Declared → Type 0
AreNarrow names = All (λ declared. IsNarrow declared.named.name) names

-- the words of each node are such as a source has
abbrev pub HaveWords : List TreeNode → Type 0
HaveWords nodes = (number : ℕ) (node : TreeNode) → slice_get nodes number ≡ Some node → HasWords node.form

-- the names without their places
abbrev pub names_in : List Declared → List (List ℕ)
names_in list = map (λ declared. declared.named.name) list

-- a name is added behind the slots, or has one of them already
abbrev pub Adds : List ℕ → Bool → List Slot → Bool → List Slot → Type 0
Adds name is_constant old true new = (position (λ slot. text_eq name slot.name) old ≡ None) × (new ≡ old ++ record { name = name; is_constant = is_constant } ∷ [])
Adds name is_constant old false new = (n : ℕ) × (position (λ slot. text_eq name slot.name) old ≡ Some n)

-- slots that may be there
abbrev pub slots_in : Option (List Slot) → List Slot
slots_in None = []
slots_in (Some slots) = slots

-- a slot has the name already
abbrev pub IsDeclared : List Slot → Declared → ScopeFault → Type 0
IsDeclared slots declared (Duplicate at) = (at ≡ declared.named.at) × (n : ℕ) × (position (λ slot. text_eq declared.named.name slot.name) slots ≡ Some n)
IsDeclared slots declared (BadTarget at) = ⊥
IsDeclared slots declared (StrayJump at) = ⊥
IsDeclared slots declared NoMemory = Unit {0}

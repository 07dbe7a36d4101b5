-- Which early error of a tree is told: the first one.
use Rattle.std.specs.Prelude.{ℕ, zero, suc, Bool, true, false, not, List, [], ◌∷◌, nat_eq, take, slice_get, Option, None, Some}
use Rattle.std.specs.List.{list_any}
use Rattle.std.specs.Option.{option_and_then, option_map_or, option_or}
use Rattle.std.specs.Str.{bytes_eq as text_eq}
use Rattle.snap_ast.specs.Lawful.{most_levels}
use Rattle.snap_ast.specs.declared.form.Form.{Form}
use Rattle.snap_ast.specs.declared.tree.Tree.{Tree}
use Rattle.snap_ast.specs.declared.tree.TreeNode.{TreeNode}
use Rattle.spec_scopes.specs.declared.fault.ScopeFault.{ScopeFault}
use Rattle.spec_scopes.specs.declared.fault.ScopeFault.TheVariants.{Duplicate, BadTarget, StrayJump}
use Rattle.spec_scopes.specs.EarlyErrors.{is_reference, is_stray, target_of}
use Rattle.spec_scopes.specs.Names.{Declared}
use Rattle.spec_scopes.specs.Round.{Step, numbers, step}
use Rattle.spec_scopes.specs.Scopes.{names_apart, script_names}

-- the value, where this is true
abbrev pub only_if : {A : Type 0} → Bool → A → Option A
only_if true value = Some value
only_if false value = None

-- the answer of the first item of a list that has one; an answer goes by the item and its place
abbrev pub first_answer : {A B : Type 0} → (ℕ → A → Option B) → List A → Option B
first_answer answer [] = None
first_answer answer (item ∷ items) = option_or (answer 0 item) (first_answer (λ place. answer (suc place)) items)

-- a node with its number, where the other is a child of it
abbrev pub as_parent : ℕ → ℕ → TreeNode → Option (ℕ × TreeNode)
as_parent child number node = only_if (list_any (nat_eq child) (numbers node.form)) (number, node)

-- the nodes round a node, innermost first, within so many levels
abbrev pub round_within : List TreeNode → ℕ → ℕ → List Step
round_within nodes zero number = []
round_within nodes (suc levels) number = option_map_or (λ parent. step parent.1.form number ∷ round_within nodes levels parent.0) (first_answer (as_parent number) nodes) []

-- the nodes round a node, innermost first
abbrev pub round_of : Tree → ℕ → List Step
round_of tree number = round_within tree.nodes most_levels number

-- a name of the list that equals an earlier one
abbrev pub repeat_at : List Declared → ℕ → Declared → Option ScopeFault
repeat_at names place declared = only_if (list_any (λ earlier. text_eq declared.named.name earlier.named.name) (take place names)) (Duplicate declared.named.at)

-- the first name that equals an earlier one
abbrev pub first_repeat : List Declared → Option ScopeFault
first_repeat names = first_answer (repeat_at names) names

-- what is assigned or updated and no name, where it is no member and no index either
abbrev pub bad_reference : TreeNode → Option ScopeFault
bad_reference target = only_if (not (is_reference target.form)) (BadTarget target.at)

abbrev pub bad_target : List TreeNode → Form → Option ScopeFault
bad_target nodes form = option_and_then bad_reference (option_and_then (slice_get nodes) (target_of form))

-- a jump that has nothing to leave
abbrev pub stray_jump : TreeNode → List Step → Option ScopeFault
stray_jump node round = only_if (is_stray node.form round) (StrayJump node.at)

-- the early error of a node; by its form it has no more than one of the three
abbrev pub node_error : Tree → TreeNode → List Step → Option ScopeFault
node_error tree node round = option_or (bad_target tree.nodes node.form) (option_or (stray_jump node round) (first_repeat (names_apart tree.nodes node.form)))

abbrev pub error_at : Tree → ℕ → TreeNode → Option ScopeFault
error_at tree number node = node_error tree node (round_of tree number)

-- the early error that is told: that of the names of the script, or else of the first node by number that has one
unfoldable pub early_error : Tree → Option ScopeFault
early_error tree = option_or (first_repeat (script_names tree).names) (first_answer (error_at tree) tree.nodes)

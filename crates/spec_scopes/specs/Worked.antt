-- How worked trees are written down.
use Rattle.std.specs.Prelude.{ℕ, Bool, List, [], ◌∷◌, map, codes, Option, None, Some}
use Prim.Native.String.{String}
use Rattle.snap_ast.specs.declared.form.Form.{Form}
use Rattle.snap_ast.specs.declared.form.Form.TheVariants.{Let}
use Rattle.snap_ast.specs.declared.part.Named.{Named}
use Rattle.snap_ast.specs.declared.tree.Tree.{Tree}
use Rattle.snap_ast.specs.declared.tree.TreeNode.{TreeNode}
use Rattle.snap_graph.specs.declared.kind.ScopeKind.{ScopeKind}
use Rattle.spec_scopes.specs.Names.{form_at}
use Rattle.spec_scopes.specs.Round.{Step, chain, step}
use Rattle.spec_scopes.specs.Scopes.{Scope, Slot}
use Rattle.spec_scopes.specs.Slots.{places}
use Rattle.spec_scopes.specs.declared.place.SlotPlace.{SlotPlace}

abbrev pub named : String → ℕ → Named
named name at = record { name = codes name; at = at }

-- a let of names without values
abbrev pub let_of : List Named → Form
let_of names = Let (map (λ name. record { name = name; value = None }) names)

-- nodes whose places are of no matter
abbrev pub nodes_of : List Form → List TreeNode
nodes_of forms = map (λ form. record { form = form; at = 0 }) forms

abbrev pub tree : List Form → List ℕ → Tree
tree forms top = record { nodes = nodes_of forms; top = top }

-- the nodes round a node, by their numbers, innermost first
abbrev pub round : Tree → ℕ → List ℕ → List Step
round tree number [] = []
round tree number (parent ∷ parents) = step (form_at tree.nodes parent) number ∷ round tree parent parents

abbrev pub chain_at : Tree → ℕ → List ℕ → List Scope
chain_at tree number parents = chain tree (round tree number parents)

abbrev pub slot : String → Bool → Slot
slot name is_constant = record { name = codes name; is_constant = is_constant }

abbrev pub scope : ScopeKind → List Slot → Scope
scope kind slots = record { kind = kind; slots = slots }

-- the places of the names that a node mentions, with the nodes round it by their numbers, innermost first
abbrev pub places_at : Tree → ℕ → List ℕ → List (Option SlotPlace)
places_at tree number parents = places (chain_at tree number parents) (form_at tree.nodes number)

abbrev pub place : ℕ → ℕ → Bool → Option SlotPlace
place hops slot constant = Some (record { hops = hops; slot = slot; constant = constant })

-- A tree has one account of its scopes.
use Rattle.std.proofs.Common.{◌≡◌, ℕ, zero, suc, ◌<◌, List, [], ◌∷◌, length, refl, sym, ap, ◌∙◌, arith}
use Rattle.std.specs.Prelude.{slice_get, Some}
use Rattle.std.specs.Option.{option_map}
use Rattle.std.proofs.lemmas.List.{length-map}
use Rattle.std.proofs.lemmas.Option.{get_or_from_slice_get, slice_get-map, slice_get_within}
use Rattle.snap_ast.specs.Lawful.{Lawful}
use Rattle.snap_ast.specs.declared.tree.Tree.{Tree}
use Rattle.snap_ast.specs.declared.tree.TreeNode.{TreeNode}
use Rattle.spec_scopes.specs.Names.{mentions}
use Rattle.spec_scopes.specs.Resolution.{AreScopes, AreTogether, NodeScopes, Resolution, node_scopes}
use Rattle.spec_scopes.specs.Round.{chain}
use Rattle.spec_scopes.specs.Scopes.{Scope, made}
use Rattle.spec_scopes.specs.Slots.{place_of, places}
use Rattle.spec_scopes.proofs.Standing.{some_round}

-- what stands at a place of a list
pub got : {A : Type 0} → (xs : List A) (i : ℕ) → i < length xs → (x : A) × (slice_get xs i ≡ Some x)
got [] i below = absurd (omega arith)
got (x ∷ xs) zero below = (x, refl)
got (x ∷ xs) (suc i) below = got xs i (omega arith)

-- lists with the same item at each place are the same
alike : {A : Type 0} → (xs ys : List A) → length xs ≡ length ys → ((i : ℕ) → i < length xs → slice_get xs i ≡ slice_get ys i) → xs ≡ ys
alike [] [] e same = refl
alike [] (y ∷ ys) e same = absurd (omega arith)
alike (x ∷ xs) [] e same = absurd (omega arith)
alike (x ∷ xs) (y ∷ ys) e same =
    let first : Some x ≡ Some y = same 0 (omega arith) in
    let rest : xs ≡ ys = alike xs ys (omega arith) (λ i below. same (suc i) (omega arith)) in
    cc

alike_parts : (script other : Scope) (nodes others : List NodeScopes) → script ≡ other → nodes ≡ others → ◌≡◌ {A = Resolution} (record { script = script; nodes = nodes }) (record { script = other; nodes = others })
alike_parts script other nodes others e d = cc

pub one_resolution : (tree : Tree) (resolution other : Resolution) → Lawful tree → AreScopes tree resolution → AreScopes tree other → resolution ≡ other
one_resolution tree resolution other lawful are also =
    let nodes : resolution.nodes ≡ other.nodes =
    alike resolution.nodes other.nodes (are.count ∙ sym also.count) (λ i below.
    let in_table : i < length tree.nodes = omega (arith, are.count) in
    let node = got tree.nodes i in_table in
    let round = some_round tree i lawful in_table in
    are.nodes i node.0 round.0 node.1 round.1 ∙ sym (also.nodes i node.0 round.0 node.1 round.1)) in
    alike_parts resolution.script other.script resolution.nodes other.nodes (are.script ∙ sym also.script) nodes

-- what is known of a node of the tree
known_at : (tree : Tree) (resolution : Resolution) (number : ℕ) (node : TreeNode) → AreTogether tree resolution → slice_get tree.nodes number ≡ Some node
    → (round : List Scope) × (node_scopes resolution number ≡ record { round = round; own = made tree.nodes node.form; names = places round node.form })
known_at tree resolution number node together stands =
    let steps = some_round tree number together.0 (slice_get_within tree.nodes number node stands) in
    (chain tree steps.0, get_or_from_slice_get resolution.nodes number _ _ (together.1.nodes number node steps.0 stands steps.1))

pub names_counted : (tree : Tree) (resolution : Resolution) (number : ℕ) (node : TreeNode) → AreTogether tree resolution → slice_get tree.nodes number ≡ Some node
    → length (node_scopes resolution number).names ≡ length (mentions node.form)
names_counted tree resolution number node together stands =
    let it = known_at tree resolution number node together stands in
    ap (λ (known : NodeScopes). length known.names) it.1 ∙ length-map (mentions node.form) (place_of it.0)

pub names_placed : (tree : Tree) (resolution : Resolution) (number i : ℕ) (node : TreeNode) (name : List ℕ) → AreTogether tree resolution → slice_get tree.nodes number ≡ Some node → slice_get (mentions node.form) i ≡ Some name
    → slice_get (node_scopes resolution number).names i ≡ Some (place_of (node_scopes resolution number).round name)
names_placed tree resolution number i node name together stands e =
    let it = known_at tree resolution number node together stands in
    ap (λ (known : NodeScopes). slice_get known.names i) it.1 ∙ slice_get-map (place_of it.0) (mentions node.form) i ∙ ap (option_map (place_of it.0)) e
    ∙ ap (λ (round : List Scope). Some (place_of round name)) (sym (ap (λ (known : NodeScopes). known.round) it.1))

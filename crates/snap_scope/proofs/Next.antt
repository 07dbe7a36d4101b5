-- The next node to be visited.
use Rattle.std.proofs.Common.{◌≡◌, ℕ, zero, suc, ◌<◌, ◌≤◌, ◌^◌, Bool, true, false, if◌then◌else◌, List, [], ◌∷◌, length, get_or, refl, sym, ap, ◌∙◌, arith, OnOk}
use Rattle.std.specs.Prelude.{slice_get, Option, None, Some, Result, Ok, Err}
use Rattle.std.proofs.lemmas.Option.{slice_get-get_or}
use Rattle.snap_ast.specs.Lawful.{Lawful, most_levels}
use Rattle.snap_ast.specs.Words.{Each}
use Rattle.snap_ast.specs.declared.tree.Tree.{Tree}
use Rattle.snap_ast.specs.declared.tree.TreeNode.{TreeNode}
use Rattle.snap_scope.proofs.Visits.{next_right}
use Rattle.snap_scope.specs.Chains.{Table, chain_in}
use Rattle.snap_scope.specs.Visit.{Right, Visited}
use Rattle.snap_scope.specs.declared.context.Context.{Context}
use Rattle.snap_scope.specs.declared.context.NodeEntry.{NodeEntry}
use Rattle.spec_scopes.proofs.Standing.{child_below, few_round}
use Rattle.spec_scopes.proofs.Told.{stands_here}
use Rattle.spec_scopes.specs.Told.{round_of}
use Rattle.spec_scopes.specs.declared.place.SlotPlace.{SlotPlace}
use Rattle.spec_scopes.specs.Round.{IsAmong, Stands, Step, chain, holds, inside, numbers}
use Rattle.spec_scopes.specs.Scopes.{Scope, made}

pub on_ok_by : {T E A B : Type 0} → (result : Result T E) → (A → B) → OnOk result A → OnOk result B
on_ok_by (Ok x) by h = by h
on_ok_by (Err e) by h = h

-- the node and its context, which is that of the nodes round it
pub record Next (tree : Tree) (table : Table) (contexts : List Context) (number : ℕ) (node : TreeNode) (context : Context) : Type 0 where
  pub stands : Stands tree number (round_of tree number)
  pub node_at : slice_get tree.nodes number ≡ Some node
  pub context_at : slice_get contexts number ≡ Some context
  pub right : Right tree table context (round_of tree number)

pub next : (tree : Tree) (table : Table) (contexts : List Context) (entries : List NodeEntry) (found : List (Option SlotPlace)) (number : ℕ) (nodes : List TreeNode) (node : TreeNode) (context : Context) → Lawful tree → number < length tree.nodes → Visited tree table contexts entries found number
    → nodes ≡ tree.nodes → node ≡ get_or nodes number node → context ≡ get_or contexts number context → Next tree table contexts number node context
next tree table contexts entries found number nodes node context lawful below is all node_is context_is =
    let node_at : slice_get tree.nodes number ≡ Some node = slice_get-get_or tree.nodes number node below ∙ ap Some (sym (node_is ∙ ap (λ (l : List TreeNode). get_or l number node) all)) in
    let stands : Stands tree number (round_of tree number) = stands_here tree lawful number node node_at in
    let context_at : slice_get contexts number ≡ Some context = slice_get-get_or contexts number context (omega (arith, is.long)) ∙ ap Some (sym context_is) in
    record {
      stands = stands;
      node_at = node_at;
      context_at = context_at;
      right = next_right tree table contexts entries found number context lawful is context_at stands;
    }

one_longer : (b : Bool) (own : Option Scope) (outer : List Scope) → length (if b then inside own outer else outer) ≤ suc (length outer)
one_longer true None outer = omega arith
one_longer true (Some scope) outer = omega arith
one_longer false own outer = omega arith

chain_short : (tree : Tree) (steps : List Step) → length (chain tree steps) ≤ suc (length steps)
chain_short tree [] = omega arith
chain_short tree (step ∷ steps) =
    let more : length (chain tree (step ∷ steps)) ≤ suc (length (chain tree steps)) = one_longer (holds step.form step.child) (made tree.nodes step.form) (chain tree steps) in
    let rest : length (chain tree steps) ≤ suc (length steps) = chain_short tree steps in
    omega arith

-- the chain of the node is short
pub few : (tree : Tree) (table : Table) (number : ℕ) (context : Context) (steps : List Step) → Lawful tree → Stands tree number steps → Right tree table context steps → length (chain_in table context.chain) < 2 ^ 32
few tree table number context steps lawful stands right =
    let same : length (chain_in table context.chain) ≡ length (chain tree steps) = ap (λ (c : List Scope). length c) right.chain_is in
    let short : length (chain tree steps) ≤ suc (length steps) = chain_short tree steps in
    let levels : length steps < most_levels = few_round tree number steps lawful stands in
    omega arith

each_among : (P : ℕ → Type 0) (xs : List ℕ) → ((n : ℕ) → IsAmong xs n → P n) → Each P xs
each_among P [] h = tt
each_among P (x ∷ xs) h = (h x (zero, refl), each_among P xs (λ n among. h n (suc among.0, among.1)))

-- the children of the node stand in the table
pub children_below : (tree : Tree) (number size : ℕ) (node : TreeNode) → Lawful tree → slice_get tree.nodes number ≡ Some node → size ≡ length tree.nodes → Each (λ child. child < size) (numbers node.form)
children_below tree number size node lawful at long =
    each_among (λ child. child < size) (numbers node.form) (λ child among. let below = child_below tree number child node lawful at among in omega (arith, below.1))

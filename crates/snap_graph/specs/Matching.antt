-- Which graphs with roots are the same but for the numbers of their nodes.
use Rattle.std.specs.Prelude.{◌≡◌, ◌≢◌, ℕ, ◌<◌, All, AllPairs, Contains, List, slice_get, Option, None, Some}
use Rattle.std.specs.List.{AllZip}
use Rattle.snap_graph.specs.declared.node.Node.{Node}
use Rattle.snap_graph.specs.declared.pairing.Pair.{Pair}
use Rattle.snap_graph.specs.declared.value.Property.{Property}
use Rattle.snap_graph.specs.declared.value.Value.{Value}
use Rattle.snap_graph.specs.Paths.{IsReachable}
use Rattle.snap_graph.specs.Values.{node_of}

-- two nodes stand as a pair in the pairing
abbrev pub ArePaired : List Pair → ℕ → ℕ → Type 0
ArePaired pairs first second = Contains pairs (record { first = first; second = second })

-- values agree where they are the same value and no node, or nodes that are paired; the numbers of the nodes come last
abbrev pub AgreeAs : List Pair → Value → Value → Option ℕ → Option ℕ → Type 0
AgreeAs pairs one other None None = one ≡ other
AgreeAs pairs one other None (Some second) = ⊥
AgreeAs pairs one other (Some first) None = ⊥
AgreeAs pairs one other (Some first) (Some second) = ArePaired pairs first second

abbrev pub Agree : List Pair → Value → Value → Type 0
Agree pairs one other = AgreeAs pairs one other (node_of one) (node_of other)

-- properties agree where their keys are the same text and their values agree
abbrev pub PropertiesAgree : List Pair → Property → Property → Type 0
PropertiesAgree pairs one other = (one.key ≡ other.key) × Agree pairs one.value other.value

-- nodes agree in all that they have, place by place
pub record NodesAgree (pairs : List Pair) (one other : Node) : Type 0 where
  pub kind : one.kind ≡ other.kind
  pub frozen : one.frozen ≡ other.frozen
  pub prototype : Agree pairs one.prototype other.prototype
  pub properties : AllZip (PropertiesAgree pairs) one.properties other.properties
  pub elements : AllZip (Agree pairs) one.elements other.elements

-- the pair is of a node of each graph, and these agree
pub record IsPairOf (nodes others : List Node) (pairs : List Pair) (pair : Pair) : Type 0 where
  pub one : Node
  pub other : Node
  pub first : slice_get nodes pair.first ≡ Some one
  pub second : slice_get others pair.second ≡ Some other
  pub agree : NodesAgree pairs one other

-- Two graphs with roots match by a pairing: no node stands in two pairs, the intrinsics stand for themselves, roots and paired
-- nodes agree, and each node that is reachable stands in a pair.
pub record Matches (nodes : List Node) (roots : List Value) (others : List Node) (other_roots : List Value) (pairs : List Pair) : Type 0 where
  pub firsts : AllPairs (λ one other. one.first ≢ other.first) pairs
  pub seconds : AllPairs (λ one other. one.second ≢ other.second) pairs
  pub intrinsics : (number : ℕ) → number < 62 → ArePaired pairs number number
  pub roots_agree : AllZip (Agree pairs) roots other_roots
  pub pairs_agree : All (IsPairOf nodes others pairs) pairs
  pub reached : (number : ℕ) → IsReachable nodes roots number → (second : ℕ) × ArePaired pairs number second
  pub others_reached : (number : ℕ) → IsReachable others other_roots number → (first : ℕ) × ArePaired pairs first number

-- two graphs with roots are the same but for the numbers of their nodes
abbrev pub AreIsomorphic : List Node → List Value → List Node → List Value → Type 0
AreIsomorphic nodes roots others other_roots = (pairs : List Pair) × Matches nodes roots others other_roots pairs

-- a pair the other way round
abbrev pub turned : Pair → Pair
turned pair = record { first = pair.second; second = pair.first }

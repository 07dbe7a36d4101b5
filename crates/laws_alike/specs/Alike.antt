-- Which heaps match, and what values of them have in common.
use Rattle.std.specs.Prelude.{◌≡◌, ◌≢◌, ℕ, ◌<◌, ◌≤◌, ◌⊎◌, All, AllPairs, List, length, Option, None, Some}
use Rattle.std.specs.List.{AllZip}
use Rattle.snap_graph.specs.declared.pairing.Pair.{Pair}
use Rattle.snap_graph.specs.declared.value.Value.{Value}
use Rattle.snap_graph.specs.Matching.{Agree, ArePaired, IsPairOf}
use Rattle.spec_values.specs.Answer.{Heap}

-- which nodes of two heaps stand for one another, and how many nodes each heap has
pub record World : Type 0 where
  pub pairs : List Pair
  pub count : ℕ
  pub other_count : ℕ

-- a later world: no pair is lost, and a new one is of nodes that were made on both sides
pub record Grows (before after : World) : Type 0 where
  pub count : before.count ≤ after.count
  pub other_count : before.other_count ≤ after.other_count
  pub kept : (first second : ℕ) → ArePaired before.pairs first second → ArePaired after.pairs first second
  pub made : (first second : ℕ) → ArePaired after.pairs first second
      → ArePaired before.pairs first second ⊎ ((before.count ≤ first) × (before.other_count ≤ second))

-- Heaps match: as many nodes are private, the same keys were used, no node stands in two pairs, the intrinsics stand for
-- themselves, and paired nodes agree.
pub record Alike (world : World) (one other : Heap) : Type 0 where
  pub count : length one.nodes ≡ world.count
  pub other_count : length other.nodes ≡ world.other_count
  pub private_nodes : one.private_nodes ≡ other.private_nodes
  pub keys : one.keys ≡ other.keys
  pub firsts : AllPairs (λ pair more. pair.first ≢ more.first) world.pairs
  pub seconds : AllPairs (λ pair more. pair.second ≢ more.second) world.pairs
  pub intrinsics : (number : ℕ) → number < 62 → ArePaired world.pairs number number
  pub each : All (IsPairOf one.nodes other.nodes world.pairs) world.pairs

-- what two of a kind have in common in a world
abbrev pub Common : Type 0 → Type 1
Common A = World → A → A → Type 0

-- they are the same
abbrev pub Same : {A : Type 0} → Common A
Same world one other = one ≡ other

-- values agree, and the nodes of two numbers are paired
abbrev pub Values : Common Value
Values world one other = Agree world.pairs one other

abbrev pub Numbers : Common ℕ
Numbers world first second = ArePaired world.pairs first second

-- both are absent, or both are there and have it in common
abbrev pub Maybe : {A : Type 0} → Common A → Common (Option A)
Maybe R world None None = Unit {0}
Maybe R world None (Some other) = ⊥
Maybe R world (Some one) None = ⊥
Maybe R world (Some one) (Some other) = R world one other

-- lists have it in common place by place
abbrev pub Lists : {A : Type 0} → Common A → Common (List A)
Lists R world ones others = AllZip (R world) ones others

-- Chains of prototypes, names and errors.
use Rattle.std.proofs.Common.{◌≡◌, ℕ, zero, suc, ◌==◌, ◌||◌, ◌&&◌, ◌<◌, List, [], ◌∷◌, codes, slice_get, unwrap_or, Option, None, Some, Result, Ok, Err, refl, sym, ap, subst, ◌∙◌, arith, if◌then◌else◌}
use Rattle.std.specs.Option.{option_and_then, option_map}
use Rattle.std.specs.Str.{bytes_eq as text_eq}
use Rattle.snap_base.specs.declared.stop.Stop.{Stop}
use Rattle.snap_base.specs.declared.stop.Stop.TheVariants.{NotInProfile}
use Rattle.snap_graph.specs.declared.intrinsic.TheConstants.{MAP_PROTOTYPE, SET_PROTOTYPE, TYPE_ERROR_PROTOTYPE}
use Rattle.snap_graph.specs.declared.kind.Kind.TheVariants as kind
use Rattle.snap_graph.specs.declared.node.Node.{Node}
use Rattle.snap_graph.specs.declared.value.Value.{Value}
use Rattle.snap_graph.specs.declared.value.Value.TheVariants.{Undefined, Null, Bool as Truth, Int, Text, Node as At, Empty}
use Rattle.snap_graph.specs.Lawful.{chain_within}
use Rattle.snap_graph.specs.Matching.{ArePaired}
use Rattle.snap_graph.specs.Values.{node_of}
use Rattle.spec_values.specs.Access.{chain_end, entry_count, index_of, is_size, named_key, no_properties, not_writable, or_stop, reached_from, throw_error, type_error}
use Rattle.spec_values.specs.Answer.{◌>>=◌, Action, Heap, give, stop, use_key}
use Rattle.spec_values.specs.Conversions.{text_of}
use Rattle.spec_values.specs.Operations.{elements_of, kind_of}
use Rattle.laws_alike.specs.Alike.{Alike, Common, Lists, Maybe, Numbers, Same, Values, World}
use Rattle.laws_alike.specs.Going.{GoAlike}
use Rattle.laws_alike.proofs.Binding.{bind_alike, choice_alike, give_alike, knowing, same_alike, stop_alike, throw_alike}
use Rattle.laws_alike.proofs.Changing.{put_alike}
use Rattle.laws_alike.proofs.Looking.{SeeAlike, entries_alike}
use Rattle.laws_alike.proofs.Making.{make_alike, use_alike}
use Rattle.laws_alike.proofs.Pairing.{numbers_same, read_pair}
use Rattle.laws_alike.proofs.Worlds.{agree_cases}

-- chains of prototypes
front_alike : (world : World) (a b : ℕ) → ArePaired world.pairs a b → (x y : Option (List ℕ)) → Maybe (Lists Numbers) world x y
    → Maybe (Lists Numbers) world (option_map (λ rest. a ∷ rest) x) (option_map (λ rest. b ∷ rest) y)
front_alike world a b p None None h = tt
front_alike world a b p None (Some ns) h = absurd h
front_alike world a b p (Some ms) None h = absurd h
front_alike world a b p (Some ms) (Some ns) h = (p, h)

plain_chain : (world : World) (nodes others : List Node) (steps : ℕ) (v : Value) → node_of v ≡ None → Maybe (Lists Numbers) world (chain_within nodes steps v) (chain_within others steps v)
plain_chain world nodes others steps Undefined e = tt
plain_chain world nodes others steps Null e = tt
plain_chain world nodes others steps (Truth b) e = tt
plain_chain world nodes others steps (Int z) e = tt
plain_chain world nodes others steps (Text text) e = tt
plain_chain world nodes others steps (At n) e = absurd cc
plain_chain world nodes others steps Empty e = tt

chains_alike : (world : World) (one other : Heap) → Alike world one other → (steps : ℕ) (u v : Value) → Values world u v
    → Maybe (Lists Numbers) world (chain_within one.nodes steps u) (chain_within other.nodes steps v)
chains_alike world one other alike zero u v h =
    agree_cases world.pairs (λ u v. Maybe (Lists Numbers) world (chain_within one.nodes 0 u) (chain_within other.nodes 0 v)) (plain_chain world one.nodes other.nodes 0) (λ a b p. tt) u v h
chains_alike world one other alike (suc steps) u v h =
    agree_cases world.pairs (λ u v. Maybe (Lists Numbers) world (chain_within one.nodes (suc steps) u) (chain_within other.nodes (suc steps) v)) (plain_chain world one.nodes other.nodes (suc steps))
    (λ a b p.
    let read = read_pair alike a b p in
    let along = λ (nodes : List Node) (n : ℕ) (found : Option Node). option_and_then (λ node. option_map (λ (rest : List ℕ). n ∷ rest) (chain_within nodes steps node.prototype)) found in
    subst (λ found. Maybe (Lists Numbers) world (along one.nodes a found) (along other.nodes b (slice_get other.nodes b))) (sym read.first)
    (subst (λ found. Maybe (Lists Numbers) world (along one.nodes a (Some read.one)) (along other.nodes b found)) (sym read.second)
    (front_alike world a b p (chain_within one.nodes steps read.one.prototype) (chain_within other.nodes steps read.other.prototype)
    (chains_alike world one other alike steps read.one.prototype read.other.prototype read.agree.prototype))))
    u v h

or_empty : (world : World) (x y : Option (List ℕ)) → Maybe (Lists Numbers) world x y → Lists Numbers world (unwrap_or x []) (unwrap_or y [])
or_empty world None None h = tt
or_empty world None (Some ns) h = absurd h
or_empty world (Some ms) None h = absurd h
or_empty world (Some ms) (Some ns) h = h

pub reached_alike : {world : World} (a b : ℕ) → ArePaired world.pairs a b → SeeAlike (Lists Numbers) world (λ nodes. reached_from nodes a) (λ nodes. reached_from nodes b)
reached_alike {world} a b p = record {
  sees = λ one other alike.
      let read = read_pair alike a b p in
      let from = λ (nodes : List Node) (found : Option Node). unwrap_or (option_and_then (λ node. chain_within nodes chain_end node.prototype) found) [] in
      let rest : Lists Numbers world (from one.nodes (slice_get one.nodes a)) (from other.nodes (slice_get other.nodes b)) =
      subst (λ found. Lists Numbers world (from one.nodes found) (from other.nodes (slice_get other.nodes b))) (sym read.first)
      (subst (λ found. Lists Numbers world (from one.nodes (Some read.one)) (from other.nodes found)) (sym read.second)
      (or_empty world (chain_within one.nodes chain_end read.one.prototype) (chain_within other.nodes chain_end read.other.prototype)
      (chains_alike world one other alike chain_end read.one.prototype read.other.prototype read.agree.prototype))) in
      (p, rest);
}

-- an intrinsic is paired with itself alone
own_number : {world : World} {one other : Heap} → Alike world one other → {a b : ℕ} → ArePaired world.pairs a b → (n : ℕ) → n < 62 → (a == n) ≡ (b == n)
own_number alike {a} {b} p n below = numbers_same alike a b n n p (alike.intrinsics n below)

pub size_name : {world : World} {one other : Heap} → Alike world one other → {a b : ℕ} → ArePaired world.pairs a b → (name : List ℕ) → is_size a name ≡ is_size b name
size_name alike {a} {b} p name =
    ap (λ c. (c || a == SET_PROTOTYPE) && text_eq name (codes "size")) (own_number alike p MAP_PROTOTYPE (omega arith)) ∙ ap (λ c. (b == MAP_PROTOTYPE || c) && text_eq name (codes "size")) (own_number alike p SET_PROTOTYPE (omega arith))

pub entries_seen : {world : World} (m n : ℕ) → ArePaired world.pairs m n → (a b : ℕ) → ArePaired world.pairs a b
    → SeeAlike Same world (λ nodes. entry_count m (kind_of nodes a) (elements_of nodes a)) (λ nodes. entry_count n (kind_of nodes b) (elements_of nodes b))
entries_seen m n p a b q =
    record { sees = λ one other alike. (entries_alike m n (own_number alike p MAP_PROTOTYPE (omega arith)) (own_number alike p SET_PROTOTYPE (omega arith)) a b q).sees one other alike }

-- a name
pub text_same : (world : World) (u v : Value) → Values world u v → text_of u ≡ text_of v
text_same world u v h = agree_cases world.pairs (λ u v. text_of u ≡ text_of v) (λ v e. refl) (λ a b p. refl) u v h

pub index_same : (world : World) (u v : Value) → Values world u v → index_of u ≡ index_of v
index_same world u v h = agree_cases world.pairs (λ u v. index_of u ≡ index_of v) (λ v e. refl) (λ a b p. refl) u v h

or_stop_alike : {world : World} (r : Result (List ℕ) Stop) → GoAlike Alike Same world (or_stop r) (or_stop r)
or_stop_alike (Ok name) = give_alike name name refl
or_stop_alike (Err why) = stop_alike why

name_of : Result (List ℕ) Stop → Action (List ℕ)
name_of r = or_stop r >>= λ name. use_key name >>= λ _. if text_eq name (codes "__proto__") then stop NotInProfile else give name

pub named_alike : {world : World} (key other : Value) → Values world key other → GoAlike Alike Same world (named_key key) (named_key other)
unfolding name_of
named_alike {world} key other h =
    subst (λ r. GoAlike Alike Same world (name_of (text_of key)) (name_of r)) (text_same world key other h)
    (same_alike (or_stop_alike (text_of key)) (λ after g name.
    same_alike (use_alike name) (λ last k done.
    choice_alike (text_eq name (codes "__proto__")) (stop_alike NotInProfile) (give_alike name name refl))))

-- an error
pub error_alike : {A : Type 0} {R : Common A} {world : World} (prototype : ℕ) (message : List ℕ) → prototype < 62 → GoAlike Alike R world (throw_error prototype message) (throw_error prototype message)
error_alike prototype message below =
    knowing (λ one other alike.
    bind_alike (make_alike kind.Error (At prototype) (At prototype) (alike.intrinsics prototype below)) (λ w g a b p.
    same_alike (use_alike (codes "message")) (λ x h done.
    same_alike (put_alike (codes "message") (Text message) (Text message) refl a b (h.kept a b p)) (λ y i put.
    throw_alike (At a) (At b) (i.kept a b (h.kept a b p))))))

pub type_error_alike : {A : Type 0} {R : Common A} {world : World} (message : List ℕ) → GoAlike Alike R world (type_error message) (type_error message)
type_error_alike message = error_alike TYPE_ERROR_PROTOTYPE message (omega arith)

pub refused_alike : {A : Type 0} {R : Common A} {world : World} → GoAlike Alike R world not_writable not_writable
refused_alike = type_error_alike (codes "not writable")

pub nothing_alike : {A : Type 0} {R : Common A} {world : World} → GoAlike Alike R world no_properties no_properties
nothing_alike = type_error_alike (codes "no properties")

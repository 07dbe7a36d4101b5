-- A node is made on both sides, and a key is used.
use Rattle.std.proofs.Common.{◌≡◌, ◌≢◌, ℕ, ◌+◌, get_or, ◌<◌, ◌⊎◌, inl, inr, nat_lt, List, [], ◌∷◌, ◌++◌, length, refl, ap, subst, ⊎_elim, arith, length-append}
use Rattle.std.proofs.lemmas.List.Elements.{Contains-append_left, Contains-get_or, Contains-push, Contains-push_cases}
use Rattle.std.proofs.lemmas.List.Quantifiers.{all_pairs_push}
use Rattle.std.proofs.lemmas.Option.{slice_get_within}
use Rattle.snap_base.specs.declared.limits.TheConstants.{MOST_PRIVATE_NODES}
use Rattle.snap_base.specs.declared.stop.Stop.TheVariants.{TooManyNodes}
use Rattle.snap_graph.specs.declared.intrinsic.TheConstants.{FUNCTION_PROTOTYPE}
use Rattle.snap_graph.specs.declared.kind.Kind.{Kind}
use Rattle.snap_graph.specs.declared.kind.Kind.TheVariants as kind
use Rattle.snap_graph.specs.declared.kind.ScopeKind.{ScopeKind}
use Rattle.snap_graph.specs.declared.node.Node.{Node}
use Rattle.snap_graph.specs.declared.pairing.Pair.{Pair}
use Rattle.snap_graph.specs.declared.value.Value.{Value}
use Rattle.snap_graph.specs.declared.value.Value.TheVariants.{Node as At}
use Rattle.snap_graph.specs.Matching.{Agree, ArePaired, IsPairOf, NodesAgree, PropertiesAgree}
use Rattle.spec_values.specs.Answer.{Gave, Heap, Stopped, use_key}
use Rattle.spec_values.specs.Operations.{make, make_function, make_scope, new_node}
use Rattle.spec_values.proofs.Ending.{read_last}
use Rattle.spec_values.proofs.Made.{read_before}
use Rattle.laws_alike.specs.Alike.{Alike, Grows, Lists, Numbers, Same, Values, World}
use Rattle.laws_alike.specs.Going.{GoAlike, Later}
use Rattle.laws_alike.proofs.Binding.{bind_alike, give_alike, knowing, same_alike, stop_alike}
use Rattle.laws_alike.proofs.Changing.{add_element_alike, add_elements_alike, answer_alike}
use Rattle.laws_alike.proofs.Pairing.{all_pairs, pair_of, read_pair}
use Rattle.laws_alike.proofs.Worlds.{agree_more, grows_self, lists_stay, value_later, values_stay, zip_more}

node_more : (pairs more : List Pair) → ((a b : ℕ) → ArePaired pairs a b → ArePaired more a b) → (x y : Node) → NodesAgree pairs x y → NodesAgree more x y
node_more pairs more kept x y h = record {
  kind = h.kind;
  frozen = h.frozen;
  prototype = agree_more pairs more kept x.prototype y.prototype h.prototype;
  properties = zip_more (PropertiesAgree pairs) (PropertiesAgree more) (λ p q e. (e.0, agree_more pairs more kept p.value q.value e.1)) x.properties y.properties h.properties;
  elements = zip_more (Agree pairs) (Agree more) (agree_more pairs more kept) x.elements y.elements h.elements;
}

-- a heap with one more node
more_of : Kind → Value → Heap → Heap
more_of own prototype heap = record { nodes = heap.nodes ++ new_node own prototype ∷ []; private_nodes = heap.private_nodes + 1; keys = heap.keys }

module _ (world : World) (own : Kind) (u v : Value) (e : Values world u v) (one other : Heap) (alike : Alike world one other) where
  m : ℕ
  m = length one.nodes

  n : ℕ
  n = length other.nodes

  more : List Pair
  more = world.pairs ++ pair_of m n ∷ []

  wider : World
  wider = record { pairs = more; count = world.count + 1; other_count = world.other_count + 1 }

  kept : (a b : ℕ) → ArePaired world.pairs a b → ArePaired more a b
  unfolding more
  kept a b p = Contains-append_left world.pairs (pair_of m n ∷ []) (pair_of a b) p

  split : (a b : ℕ) → ArePaired more a b → ArePaired world.pairs a b ⊎ ((m ≡ a) × (n ≡ b))
  unfolding more
  split a b p =
      ⊎_elim (λ (q : ArePaired world.pairs a b). inl q) (λ (q : pair_of m n ≡ pair_of a b). inr (ap (λ (x : Pair). x.first) q, ap (λ (x : Pair). x.second) q))
      (Contains-push_cases world.pairs (pair_of m n) (pair_of a b) p)

  within : (a b : ℕ) → ArePaired world.pairs a b → (a < m) × (b < n)
  unfolding m n
  within a b p =
      let read = read_pair alike a b p in
      (slice_get_within one.nodes a read.one read.first, slice_get_within other.nodes b read.other read.second)

  grown : Grows world wider
  unfolding wider m n
  grown = record {
    count = omega arith;
    other_count = omega arith;
    kept = kept;
    made = λ a b p. ⊎_elim (λ q. inl q) (λ (q : (m ≡ a) × (n ≡ b)). inr (omega (arith, q.0, alike.count), omega (arith, q.1, alike.other_count))) (split a b p);
  }

  read_new : IsPairOf (one.nodes ++ new_node own u ∷ []) (other.nodes ++ new_node own v ∷ []) more (pair_of m n)
  unfolding m n
  read_new = record {
    one = new_node own u;
    other = new_node own v;
    first = read_last one.nodes (new_node own u);
    second = read_last other.nodes (new_node own v);
    agree = record { kind = refl; frozen = refl; prototype = agree_more world.pairs more kept u v e; properties = tt; elements = tt };
  }

  still : Alike wider (more_of own u one) (more_of own v other)
  unfolding wider more m n more_of
  still = record {
    count = omega (arith, length-append one.nodes (new_node own u ∷ []), alike.count);
    other_count = omega (arith, length-append other.nodes (new_node own v ∷ []), alike.other_count);
    private_nodes = ap (λ k. k + 1) alike.private_nodes;
    keys = alike.keys;
    firsts = all_pairs_push (λ p q. p.first ≢ q.first) world.pairs (pair_of m n) alike.firsts (λ k d below e. let pair = get_or world.pairs k d in absurd (omega (arith, (within pair.first pair.second (Contains-get_or world.pairs k d below)).0, e)));
    seconds = all_pairs_push (λ p q. p.second ≢ q.second) world.pairs (pair_of m n) alike.seconds (λ k d below e. let pair = get_or world.pairs k d in absurd (omega (arith, (within pair.first pair.second (Contains-get_or world.pairs k d below)).1, e)));
    intrinsics = λ number below. kept number number (alike.intrinsics number below);
    each = all_pairs (one.nodes ++ new_node own u ∷ []) (other.nodes ++ new_node own v ∷ []) more more (λ a b p.
        ⊎_elim
        (λ (x : ArePaired world.pairs a b).
        let read = read_pair alike a b x in
        record {
          one = read.one;
          other = read.other;
          first = read_before one.nodes (new_node own u) a read.one read.first;
          second = read_before other.nodes (new_node own v) b read.other read.second;
          agree = node_more world.pairs more kept read.one read.other read.agree;
        })
        (λ (x : (m ≡ a) × (n ≡ b)). subst (λ k. IsPairOf (one.nodes ++ new_node own u ∷ []) (other.nodes ++ new_node own v ∷ []) more (pair_of k b)) x.0 (subst (λ k. IsPairOf (one.nodes ++ new_node own u ∷ []) (other.nodes ++ new_node own v ∷ []) more (pair_of m k)) x.1 read_new))
        (split a b p));
  }

  made_alike : Later Alike world (more_of own u one) (more_of own v other) (λ after. ArePaired after.pairs (length one.nodes) (length other.nodes))
  unfolding wider more m n
  made_alike = record { after = wider; grows = grown; matching = still; result = Contains-push world.pairs (pair_of m n) }

pub make_alike : {world : World} (own : Kind) (u v : Value) → Values world u v → GoAlike Alike Numbers world (make own u) (make own v)
unfolding more_of
make_alike {world} own u v e = record {
  ends = λ one other alike.
      answer_alike Numbers world (nat_lt one.private_nodes MOST_PRIVATE_NODES) (nat_lt other.private_nodes MOST_PRIVATE_NODES)
      (Gave (length one.nodes) (more_of own u one)) (Stopped TooManyNodes one) (Gave (length other.nodes) (more_of own v other)) (Stopped TooManyNodes other)
      (ap (λ k. nat_lt k MOST_PRIVATE_NODES) alike.private_nodes) (made_alike world own u v e one other alike) ((stop_alike {R = Numbers} {world = world} TooManyNodes).ends one other alike);
}

-- a function, and a scope
pub make_function_alike : {world : World} (script tree : ℕ) (u v : Value) → Values world u v → GoAlike Alike Numbers world (make_function script tree u) (make_function script tree v)
make_function_alike script tree u v e =
    knowing (λ one other alike.
    bind_alike (make_alike (kind.Function script tree) (At FUNCTION_PROTOTYPE) (At FUNCTION_PROTOTYPE) (alike.intrinsics FUNCTION_PROTOTYPE (omega arith))) (λ after g a b p.
    same_alike (add_element_alike u v (value_later g u v e) a b p) (λ last h done.
    give_alike a b (h.kept a b p))))

pub make_scope_alike : {world : World} (scope : ScopeKind) (u v : Value) → Values world u v → (us vs : List Value) → Lists Values world us vs → GoAlike Alike Numbers world (make_scope scope u us) (make_scope scope v vs)
make_scope_alike {world} scope u v e us vs q =
    bind_alike (make_alike (kind.Scope scope) u v e) (λ after g a b p.
    same_alike (add_elements_alike us vs ((lists_stay Values values_stay).later world after g us vs q) a b p) (λ last h done.
    give_alike a b (h.kept a b p)))

-- a key is used
pub use_alike : {world : World} (key : List ℕ) → GoAlike Alike Same world (use_key key) (use_key key)
use_alike {world} key = record {
  ends = λ one other alike. record {
    after = world;
    grows = grows_self world;
    matching = record {
      count = alike.count;
      other_count = alike.other_count;
      private_nodes = alike.private_nodes;
      keys = ap (λ (ks : List (List ℕ)). ks ++ key ∷ []) alike.keys;
      firsts = alike.firsts;
      seconds = alike.seconds;
      intrinsics = alike.intrinsics;
      each = alike.each;
    };
    result = refl;
  };
}

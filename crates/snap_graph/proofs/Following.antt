-- The same path in graphs that match.
use Rattle.std.proofs.Common.{◌≡◌, ℕ, zero, suc, Bool, true, false, nat_lt, All, List, [], ◌∷◌, ◌++◌, map, slice_get, Option, None, Some, refl, ap, subst, ◌∙◌, if◌then◌else◌}
use Rattle.std.specs.List.{AllZip}
use Rattle.std.specs.Option.{option_and_then, option_map_or}
use Rattle.snap_graph.specs.declared.node.Node.{Node}
use Rattle.snap_graph.specs.declared.pairing.Pair.{Pair}
use Rattle.snap_graph.specs.declared.value.Property.{Property}
use Rattle.snap_graph.specs.declared.value.Value.{Value}
use Rattle.snap_graph.specs.Matching.{Agree, AgreeAs, ArePaired, IsPairOf, NodesAgree, PropertiesAgree}
use Rattle.snap_graph.specs.OwnKeys.{key_rank, own_order, put_in_order}
use Rattle.snap_graph.specs.Paths.{edges, edges_of, led_to, path_value}
use Rattle.snap_graph.specs.Values.{node_of}

module _ (pairs : List Pair) where
  -- lists that agree place by place, after others
  zip_append : {A : Type 0} (R : A → A → Type 0) (xs ys us vs : List A) → AllZip R xs ys → AllZip R us vs → AllZip R (xs ++ us) (ys ++ vs)
  zip_append R [] [] us vs h k = k
  zip_append R [] (y ∷ ys) us vs h k = absurd h
  zip_append R (x ∷ xs) [] us vs h k = absurd h
  zip_append R (x ∷ xs) (y ∷ ys) us vs h k = (h.0, zip_append R xs ys us vs h.1 k)

  values_agree : (xs ys : List Property) → AllZip (PropertiesAgree pairs) xs ys → AllZip (Agree pairs) (map (λ p. p.value) xs) (map (λ p. p.value) ys)
  values_agree [] [] h = tt
  values_agree [] (y ∷ ys) h = h
  values_agree (x ∷ xs) [] h = h
  values_agree (x ∷ xs) (y ∷ ys) h = (h.0.1, values_agree xs ys h.1)

  -- properties that agree stay so in own-key order
  put_agree : (p q : Property) (xs ys : List Property) → PropertiesAgree pairs p q → AllZip (PropertiesAgree pairs) xs ys → AllZip (PropertiesAgree pairs) (put_in_order p xs) (put_in_order q ys)
  put_agree p q [] [] e h = (e, tt)
  put_agree p q [] (y ∷ ys) e h = absurd h
  put_agree p q (x ∷ xs) [] e h = absurd h
  put_agree p q (x ∷ xs) (y ∷ ys) e h =
      let test : nat_lt (key_rank x.key) (key_rank p.key) ≡ nat_lt (key_rank y.key) (key_rank q.key) = cc (e.0, h.0.0) in
      let more = put_agree p q xs ys e h.1 in
      subst (λ (b : Bool). AllZip (PropertiesAgree pairs) (put_in_order p (x ∷ xs)) (if b then y ∷ put_in_order q ys else q ∷ y ∷ ys)) test
      (chosen (nat_lt (key_rank x.key) (key_rank p.key)) (x ∷ put_in_order p xs) (p ∷ x ∷ xs) (y ∷ put_in_order q ys) (q ∷ y ∷ ys) (h.0, more) (e, h))
    where
      chosen : (b : Bool) (ps qs us vs : List Property) → AllZip (PropertiesAgree pairs) ps us → AllZip (PropertiesAgree pairs) qs vs → AllZip (PropertiesAgree pairs) (if b then ps else qs) (if b then us else vs)
      chosen true ps qs us vs h k = h
      chosen false ps qs us vs h k = k

  pub orders_agree : (xs ys : List Property) → AllZip (PropertiesAgree pairs) xs ys → AllZip (PropertiesAgree pairs) (own_order xs) (own_order ys)
  orders_agree [] [] h = tt
  orders_agree [] (y ∷ ys) h = absurd h
  orders_agree (x ∷ xs) [] h = absurd h
  orders_agree (x ∷ xs) (y ∷ ys) h = put_agree x y (own_order xs) (own_order ys) h.0 (orders_agree xs ys h.1)

  node_edges_agree : (one other : Node) → NodesAgree pairs one other → AllZip (Agree pairs) (edges one) (edges other)
  node_edges_agree one other h =
      zip_append (Agree pairs) (one.prototype ∷ map (λ p. p.value) (own_order one.properties)) (other.prototype ∷ map (λ p. p.value) (own_order other.properties)) one.elements other.elements
      (h.prototype, values_agree (own_order one.properties) (own_order other.properties) (orders_agree one.properties other.properties h.properties))
      h.elements

  -- what stands at a place of lists that agree
  zip_get : (R : Value → Value → Type 0) (xs ys : List Value) (i : ℕ) (v : Value) → AllZip R xs ys → slice_get xs i ≡ Some v → (w : Value) × (slice_get ys i ≡ Some w) × R v w
  zip_get R [] ys i v h e = absurd cc
  zip_get R (x ∷ xs) [] i v h e = absurd h
  zip_get R (x ∷ xs) (y ∷ ys) zero v h e = (y, refl, let same : x ≡ v = cc in subst (λ w. R w y) same h.0)
  zip_get R (x ∷ xs) (y ∷ ys) (suc i) v h e = zip_get R xs ys i v h.1 e

  module _ (nodes others : List Node) (agree : All (IsPairOf nodes others pairs) pairs) where
    -- paired nodes are nodes that agree
    paired_nodes : (first second : ℕ) → ArePaired pairs first second → (one other : Node) × (slice_get nodes first ≡ Some one) × (slice_get others second ≡ Some other) × NodesAgree pairs one other
    paired_nodes first second among =
        let pair : Pair = record { first = first; second = second } in
        let of = subst (IsPairOf nodes others pairs) among.2 (agree among.0 pair among.1) in
        (of.one, of.other, of.first, of.second, of.agree)

    edges_agree_as : (one other : Value) (m n : Option ℕ) → AgreeAs pairs one other m n → AllZip (Agree pairs) (option_map_or edges (option_and_then (slice_get nodes) m) []) (option_map_or edges (option_and_then (slice_get others) n) [])
    edges_agree_as one other None None h = tt
    edges_agree_as one other None (Some n) h = absurd h
    edges_agree_as one other (Some m) None h = absurd h
    edges_agree_as one other (Some m) (Some n) h =
        let both = paired_nodes m n h in
        rw (both.2, both.3) (node_edges_agree both.0 both.1 both.4)

    edges_agree : (one other : Value) → Agree pairs one other → AllZip (Agree pairs) (edges_of nodes one) (edges_of others other)
    edges_agree one other h = edges_agree_as one other (node_of one) (node_of other) h

    -- what comes behind a step
    stepped : (f : Value → Option Value) (found : Option Value) (v : Value) → option_and_then f found ≡ Some v → (u : Value) × (found ≡ Some u) × (f u ≡ Some v)
    stepped f None v e = absurd cc
    stepped f (Some u) v e = (u, refl, e)

    led_agree : (path : List ℕ) (one other v : Value) → Agree pairs one other → led_to nodes path one ≡ Some v → (w : Value) × (led_to others path other ≡ Some w) × Agree pairs v w
    led_agree [] one other v h e = (other, refl, let same : one ≡ v = cc in subst (λ u. Agree pairs u other) same h)
    led_agree (edge ∷ rest) one other v h e =
        let step = stepped (led_to nodes rest) (slice_get (edges_of nodes one) edge) v e in
        let there = zip_get (Agree pairs) (edges_of nodes one) (edges_of others other) edge step.0 (edges_agree one other h) step.1 in
        let end = led_agree rest step.0 there.0 v there.2 step.2 in
        (end.0, ap (option_and_then (led_to others rest)) there.1 ∙ end.1, end.2)

    pub paths_agree : (roots other_roots : List Value) (path : List ℕ) (v : Value) → AllZip (Agree pairs) roots other_roots → path_value nodes roots path ≡ Some v → (w : Value) × (path_value others other_roots path ≡ Some w) × Agree pairs v w
    paths_agree roots other_roots [] v h e = absurd cc
    paths_agree roots other_roots (root ∷ rest) v h e =
        let step = stepped (led_to nodes rest) (slice_get roots root) v e in
        let there = zip_get (Agree pairs) roots other_roots root step.0 h step.1 in
        let end = led_agree rest step.0 there.0 v there.2 step.2 in
        (end.0, ap (option_and_then (led_to others rest)) there.1 ∙ end.1, end.2)

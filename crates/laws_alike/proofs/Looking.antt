-- Looks at heaps that match.
use Rattle.std.proofs.Common.{◌≡◌, ℕ, zero, suc, ◌+◌, ◌==◌, true, false, List, [], ◌∷◌, length, count_by, map, slice_get, Option, None, Some, refl, sym, ap, subst, ◌∙◌, if◌then◌else◌}
use Rattle.std.specs.List.{AllZip, fold}
use Rattle.std.specs.Option.{option_and_then, option_map, option_map_or}
use Rattle.std.specs.Str.{bytes_eq as text_eq}
use Rattle.std.proofs.lemmas.List.Elements.{length_all_zip}
use Rattle.snap_graph.specs.declared.intrinsic.TheConstants.{MAP_PROTOTYPE, SET_PROTOTYPE}
use Rattle.snap_graph.specs.declared.kind.Kind.{Kind}
use Rattle.snap_graph.specs.declared.kind.Kind.TheVariants as kind
use Rattle.snap_graph.specs.declared.node.Node.{Node}
use Rattle.snap_graph.specs.declared.value.Property.{Property}
use Rattle.snap_graph.specs.declared.value.Value.{Value}
use Rattle.snap_graph.specs.Lawful.{record_keys}
use Rattle.snap_graph.specs.Matching.{Agree, ArePaired, NodesAgree, PropertiesAgree}
use Rattle.snap_graph.specs.OwnKeys.{own_order}
use Rattle.snap_graph.proofs.Following.{orders_agree}
use Rattle.spec_values.specs.Access.{entry_count, is_there}
use Rattle.spec_values.specs.Answer.{◌>>=◌, Action, Heap}
use Rattle.spec_values.specs.Operations.{elements_of, held_under, is_frozen, kind_of, own_keys_of, own_value, prototype_of, see}
use Rattle.laws_alike.specs.Alike.{Alike, Common, Maybe, Same, Values, World}
use Rattle.laws_alike.specs.Going.{Answers, GoAlike}
use Rattle.laws_alike.proofs.Pairing.{read_pair}
use Rattle.laws_alike.proofs.Worlds.{agree_cases, grows_self}

-- looks that see alike, and the law of bind behind a look: the world stays
pub record SeeAlike {A : Type 0} (R : Common A) (world : World) (look watch : List Node → A) : Type 0 where
  pub sees : (one other : Heap) → Alike world one other → R world (look one.nodes) (watch other.nodes)

pub look_then : {A B : Type 0} {R : Common A} {S : Common B} {world : World} {look watch : List Node → A} {f g : A → Action B} → SeeAlike R world look watch
    → ((a b : A) → R world a b → GoAlike Alike S world (f a) (g b)) → GoAlike Alike S world (see look >>= f) (see watch >>= g)
look_then {look = look} {watch = watch} h next = record { ends = λ one other alike. (next (look one.nodes) (watch other.nodes) (h.sees one other alike)).ends one other alike }

pub same_then : {A B : Type 0} {S : Common B} {world : World} {look watch : List Node → A} {f g : A → Action B} → SeeAlike Same world look watch
    → ((a : A) → GoAlike Alike S world (f a) (g a)) → GoAlike Alike S world (see look >>= f) (see watch >>= g)
same_then {S = S} {world = world} {look = look} {watch = watch} {f = f} {g = g} h next =
    record { ends = λ one other alike. subst (λ c. Answers Alike S world (f (look one.nodes) one) (g c other)) (h.sees one other alike) ((next (look one.nodes)).ends one other alike) }

pub seen_alike : {A : Type 0} {R : Common A} {world : World} {look watch : List Node → A} → SeeAlike R world look watch → GoAlike Alike R world (see look) (see watch)
seen_alike {world = world} h = record { ends = λ one other alike. record { after = world; grows = grows_self world; matching = alike; result = h.sees one other alike } }

-- a look at one node: what is seen of nodes that agree has R in common, so what is seen of paired nodes has
pub node_seen : {A : Type 0} (R : Common A) (world : World) (look watch : Option Node → A)
    → ((one other : Node) → NodesAgree world.pairs one other → R world (look (Some one)) (watch (Some other)))
    → (a b : ℕ) → ArePaired world.pairs a b → SeeAlike R world (λ nodes. look (slice_get nodes a)) (λ nodes. watch (slice_get nodes b))
node_seen R world look watch h a b p = record {
  sees = λ one other alike.
      let read = read_pair alike a b p in
      subst (λ found. R world (look found) (watch (slice_get other.nodes b))) (sym read.first)
      (subst (λ found. R world (look (Some read.one)) (watch found)) (sym read.second) (h read.one read.other read.agree));
}

pub kind_alike : {world : World} (a b : ℕ) → ArePaired world.pairs a b → SeeAlike Same world (λ nodes. kind_of nodes a) (λ nodes. kind_of nodes b)
kind_alike {world} a b p = node_seen Same world (option_and_then (λ node. Some node.kind)) (option_and_then (λ node. Some node.kind)) (λ one other h. ap Some h.kind) a b p

pub prototype_alike : {world : World} (a b : ℕ) → ArePaired world.pairs a b → SeeAlike (Maybe Values) world (λ nodes. prototype_of nodes a) (λ nodes. prototype_of nodes b)
prototype_alike {world} a b p = node_seen (Maybe Values) world (option_map (λ node. node.prototype)) (option_map (λ node. node.prototype)) (λ one other h. h.prototype) a b p

pub frozen_alike : {world : World} (a b : ℕ) → ArePaired world.pairs a b → SeeAlike Same world (λ nodes. is_frozen nodes a) (λ nodes. is_frozen nodes b)
frozen_alike {world} a b p = node_seen Same world (λ found. option_map_or (λ node. node.frozen) found false) (λ found. option_map_or (λ node. node.frozen) found false) (λ one other h. h.frozen) a b p

pub count_alike : {world : World} (a b : ℕ) → ArePaired world.pairs a b → SeeAlike Same world (λ nodes. length (elements_of nodes a)) (λ nodes. length (elements_of nodes b))
count_alike {world} a b p =
    node_seen Same world (λ found. length (option_map_or (λ node. node.elements) found [])) (λ found. length (option_map_or (λ node. node.elements) found []))
    (λ one other h. length_all_zip (Agree world.pairs) one.elements other.elements h.elements) a b p

-- what stands at a place of lists that agree
place_alike : {A : Type 0} (R : Common A) (world : World) (xs ys : List A) (place : ℕ) → AllZip (R world) xs ys → Maybe R world (slice_get xs place) (slice_get ys place)
place_alike R world [] [] place h = tt
place_alike R world [] (y ∷ ys) place h = absurd h
place_alike R world (x ∷ xs) [] place h = absurd h
place_alike R world (x ∷ xs) (y ∷ ys) zero h = h.0
place_alike R world (x ∷ xs) (y ∷ ys) (suc place) h = place_alike R world xs ys place h.1

pub element_alike : {world : World} (place a b : ℕ) → ArePaired world.pairs a b → SeeAlike (Maybe Values) world (λ nodes. slice_get (elements_of nodes a) place) (λ nodes. slice_get (elements_of nodes b) place)
element_alike {world} place a b p =
    node_seen (Maybe Values) world (λ found. slice_get (option_map_or (λ node. node.elements) found []) place) (λ found. slice_get (option_map_or (λ node. node.elements) found []) place)
    (λ one other h. place_alike Values world one.elements other.elements place h.elements) a b p

-- what is held under a key in properties that agree
pub held_alike : (world : World) (key : List ℕ) (xs ys : List Property) → AllZip (PropertiesAgree world.pairs) xs ys → Maybe Values world (held_under key xs) (held_under key ys)
held_alike world key [] [] h = tt
held_alike world key [] (y ∷ ys) h = absurd h
held_alike world key (x ∷ xs) [] h = absurd h
held_alike world key (x ∷ xs) (y ∷ ys) h =
    let rest = held_alike world key xs ys h.1 in
    subst (λ k. Maybe Values world (held_under key (x ∷ xs)) (if text_eq k key then Some y.value else held_under key ys)) h.0.0
    (elim (text_eq x.key key) as (λ b. Maybe Values world (if b then Some x.value else held_under key xs) (if b then Some y.value else held_under key ys)) [ true ↦ h.0.1 | false ↦ rest ])

pub own_alike : {world : World} (key : List ℕ) (a b : ℕ) → ArePaired world.pairs a b → SeeAlike (Maybe Values) world (λ nodes. own_value nodes a key) (λ nodes. own_value nodes b key)
own_alike {world} key a b p =
    node_seen (Maybe Values) world (option_and_then (λ node. held_under key node.properties)) (option_and_then (λ node. held_under key node.properties))
    (λ one other h. held_alike world key one.properties other.properties h.properties) a b p

-- own keys
keys_same : (world : World) (xs ys : List Property) → AllZip (PropertiesAgree world.pairs) xs ys → map (λ p. p.key) xs ≡ map (λ p. p.key) ys
keys_same world [] [] h = refl
keys_same world [] (y ∷ ys) h = absurd h
keys_same world (x ∷ xs) [] h = absurd h
keys_same world (x ∷ xs) (y ∷ ys) h = ap (λ k. k ∷ map (λ p. p.key) xs) h.0.0 ∙ ap (λ (ks : List (List ℕ)). y.key ∷ ks) (keys_same world xs ys h.1)

pub own_keys_alike : {world : World} (a b : ℕ) → ArePaired world.pairs a b → SeeAlike Same world (λ nodes. own_keys_of nodes a) (λ nodes. own_keys_of nodes b)
own_keys_alike {world} a b p =
    let keys = λ (found : Option Node). map (λ (p : Property). p.key) (own_order (option_map_or (λ (node : Node). node.properties) found [])) in
    node_seen Same world keys keys
    (λ x y h. keys_same world (own_order x.properties) (own_order y.properties) (orders_agree world.pairs x.properties y.properties h.properties)) a b p

-- how many records there are
there_alike : (world : World) (u v : Value) → Values world u v → is_there u ≡ is_there v
there_alike world u v h = agree_cases world.pairs (λ u v. is_there u ≡ is_there v) (λ v e. refl) (λ a b p. refl) u v h

count_from : (world : World) (n : ℕ) (xs ys : List Value) → AllZip (Values world) xs ys
    → fold (λ a v. a + (if is_there v then 1 else 0)) n xs ≡ fold (λ a v. a + (if is_there v then 1 else 0)) n ys
count_from world n [] [] h = refl
count_from world n [] (y ∷ ys) h = absurd h
count_from world n (x ∷ xs) [] h = absurd h
count_from world n (x ∷ xs) (y ∷ ys) h =
    count_from world (n + (if is_there x then 1 else 0)) xs ys h.1
    ∙ ap (λ b. fold (λ a v. a + (if is_there v then 1 else 0)) (n + (if b then 1 else 0)) ys) (there_alike world x y h.0)

count_there : (world : World) (xs ys : List Value) → AllZip (Values world) xs ys → count_by is_there xs ≡ count_by is_there ys
count_there world xs ys h = count_from world 0 xs ys h

keys_there : (world : World) (xs ys : List Value) → AllZip (Values world) xs ys → AllZip (Values world) (record_keys xs) (record_keys ys)
keys_there world [] [] h = tt
keys_there world [] (y ∷ ys) h = absurd h
keys_there world (x ∷ xs) [] h = absurd h
keys_there world (x ∷ []) (y ∷ []) h = tt
keys_there world (x ∷ []) (y ∷ v ∷ ys) h = absurd h.1
keys_there world (x ∷ u ∷ xs) (y ∷ []) h = absurd h.1
keys_there world (x ∷ u ∷ xs) (y ∷ v ∷ ys) h = (h.0, keys_there world xs ys h.1.1)

entries_of_kind : (world : World) (m n : ℕ) → (m == MAP_PROTOTYPE) ≡ (n == MAP_PROTOTYPE) → (m == SET_PROTOTYPE) ≡ (n == SET_PROTOTYPE) → (own : Kind) (xs ys : List Value) → AllZip (Values world) xs ys → entry_count m (Some own) xs ≡ entry_count n (Some own) ys
entries_of_kind world m n maps sets kind.Plain xs ys h = refl
entries_of_kind world m n maps sets kind.Array xs ys h = refl
entries_of_kind world m n maps sets (kind.Function script tree) xs ys h = refl
entries_of_kind world m n maps sets (kind.Native native) xs ys h = refl
entries_of_kind world m n maps sets (kind.Scope scope) xs ys h = refl
entries_of_kind world m n maps sets kind.Error xs ys h = refl
entries_of_kind world m n maps sets kind.Map xs ys h =
    ap (λ c. if m == MAP_PROTOTYPE then Some c else None) (count_there world (record_keys xs) (record_keys ys) (keys_there world xs ys h)) ∙ ap (λ b. if b then Some (count_by is_there (record_keys ys)) else None) maps
entries_of_kind world m n maps sets kind.Set xs ys h =
    ap (λ c. if m == SET_PROTOTYPE then Some c else None) (count_there world xs ys h) ∙ ap (λ b. if b then Some (count_by is_there ys) else None) sets
entries_of_kind world m n maps sets (kind.Resource number closed) xs ys h = refl

pub entries_alike : {world : World} (m n : ℕ) → (m == MAP_PROTOTYPE) ≡ (n == MAP_PROTOTYPE) → (m == SET_PROTOTYPE) ≡ (n == SET_PROTOTYPE) → (a b : ℕ) → ArePaired world.pairs a b
    → SeeAlike Same world (λ nodes. entry_count m (kind_of nodes a) (elements_of nodes a)) (λ nodes. entry_count n (kind_of nodes b) (elements_of nodes b))
entries_alike {world} m n maps sets a b p =
    node_seen Same world
    (λ found. entry_count m (option_and_then (λ node. Some node.kind) found) (option_map_or (λ node. node.elements) found []))
    (λ found. entry_count n (option_and_then (λ node. Some node.kind) found) (option_map_or (λ node. node.elements) found []))
    (λ one other h.
    entries_of_kind world m n maps sets one.kind one.elements other.elements h.elements ∙ ap (λ own. entry_count n (Some own) other.elements) h.kind) a b p

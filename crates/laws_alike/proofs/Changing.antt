-- Changes of heaps that match.
use Rattle.std.proofs.Common.{◌≡◌, ℕ, zero, suc, ◌-◌, ◌&&◌, Bool, true, false, not, nat_le, List, [], ◌∷◌, ◌++◌, length, take, slice_get, slice_set, Option, None, Some, is_some, refl, sym, ap, subst, ◌∙◌, ⊎_elim, if◌then◌else◌}
use Rattle.std.specs.List.{AllZip}
use Rattle.std.specs.Option.{option_and_then, option_map, option_map_or}
use Rattle.std.specs.Str.{bytes_eq as text_eq}
use Rattle.std.proofs.lemmas.Bool.{cases_eq}
use Rattle.std.proofs.lemmas.List.Elements.{AllZip-push, length_all_zip}
use Rattle.snap_base.specs.declared.limits.TheConstants.{MOST_ITEMS, MOST_PROPERTIES}
use Rattle.snap_base.specs.declared.stop.Stop.TheVariants.{TooLong}
use Rattle.snap_graph.specs.declared.node.Node.{Node}
use Rattle.snap_graph.specs.declared.value.Property.{Property}
use Rattle.snap_graph.specs.declared.value.Value.{Value}
use Rattle.snap_graph.specs.Matching.{Agree, ArePaired, NodesAgree, PropertiesAgree}
use Rattle.spec_values.specs.Answer.{Gave, Heap, HeapAnswer, Stopped}
use Rattle.spec_values.specs.Operations.{add_element, add_elements, change_at, changed, close, closed_kind, closed_node, elements_of, freeze, frozen_node, held_under, own_value, pop_element, properties_of, push_element, put_own, put_under, remove_own, remove_under, set_element, with_elements, with_nodes, with_properties, write_own}
use Rattle.spec_values.proofs.Changes.{changed_elsewhere, changed_here, length-changed}
use Rattle.laws_alike.specs.Alike.{Alike, Common, Lists, Maybe, Same, Values, World}
use Rattle.laws_alike.specs.Going.{Answers, GoAlike}
use Rattle.laws_alike.proofs.Binding.{give_alike, same_alike, stop_alike}
use Rattle.laws_alike.proofs.Looking.{count_alike, element_alike, held_alike, look_then, own_alike, same_then}
use Rattle.laws_alike.proofs.Pairing.{all_pairs, back, forth, read_pair}
use Rattle.laws_alike.proofs.Worlds.{grows_self, lists_stay, maybe_stays, values_stay}

-- one change on both sides, of paired nodes
changed_alike : (world : World) (change turn : Node → Node) → ((x y : Node) → NodesAgree world.pairs x y → NodesAgree world.pairs (change x) (turn y))
    → (a b : ℕ) → ArePaired world.pairs a b → (one other : Heap) → Alike world one other
    → Alike world (with_nodes one (changed change one.nodes a)) (with_nodes other (changed turn other.nodes b))
changed_alike world change turn agrees a b p one other alike = record {
  count = length-changed change one.nodes a ∙ alike.count;
  other_count = length-changed turn other.nodes b ∙ alike.other_count;
  private_nodes = alike.private_nodes;
  keys = alike.keys;
  firsts = alike.firsts;
  seconds = alike.seconds;
  intrinsics = alike.intrinsics;
  each = all_pairs (changed change one.nodes a) (changed turn other.nodes b) world.pairs world.pairs (λ c d q.
      let read = read_pair alike c d q in
      ⊎_elim
      (λ (same : c ≡ a).
      let second : d ≡ b = forth alike c d b q (subst (λ n. ArePaired world.pairs n b) (sym same) p) in
      record {
        one = change read.one;
        other = turn read.other;
        first = subst (λ n. slice_get (changed change one.nodes n) c ≡ Some (change read.one)) same (changed_here change one.nodes c ∙ ap (option_map change) read.first);
        second = subst (λ n. slice_get (changed turn other.nodes n) d ≡ Some (turn read.other)) second (changed_here turn other.nodes d ∙ ap (option_map turn) read.second);
        agree = agrees read.one read.other read.agree;
      })
      (λ (apart : c ≡ a → ⊥).
      record {
        one = read.one;
        other = read.other;
        first = changed_elsewhere change one.nodes a c apart ∙ read.first;
        second = changed_elsewhere turn other.nodes b d (λ e. apart (back alike c a b (subst (ArePaired world.pairs c) e q) p)) ∙ read.second;
        agree = read.agree;
      })
      (cases_eq c a));
}

-- the law of changes
pub change_alike : (world : World) (change turn : Node → Node) → ((x y : Node) → NodesAgree world.pairs x y → NodesAgree world.pairs (change x) (turn y))
    → (a b : ℕ) → ArePaired world.pairs a b → GoAlike Alike Same world (change_at change a) (change_at turn b)
change_alike world change turn agrees a b p =
    record { ends = λ one other alike. record { after = world; grows = grows_self world; matching = changed_alike world change turn agrees a b p one other alike; result = refl } }

-- changes of properties, and of elements
properties_alike : (world : World) (f g : List Property → List Property)
    → ((xs ys : List Property) → AllZip (PropertiesAgree world.pairs) xs ys → AllZip (PropertiesAgree world.pairs) (f xs) (g ys))
    → (x y : Node) → NodesAgree world.pairs x y → NodesAgree world.pairs (with_properties f x) (with_properties g y)
properties_alike world f g h x y agree =
    record { kind = agree.kind; frozen = agree.frozen; prototype = agree.prototype; properties = h x.properties y.properties agree.properties; elements = agree.elements }

elements_alike : (world : World) (f g : List Value → List Value)
    → ((xs ys : List Value) → AllZip (Values world) xs ys → AllZip (Values world) (f xs) (g ys))
    → (x y : Node) → NodesAgree world.pairs x y → NodesAgree world.pairs (with_elements f x) (with_elements g y)
elements_alike world f g h x y agree =
    record { kind = agree.kind; frozen = agree.frozen; prototype = agree.prototype; properties = agree.properties; elements = h x.elements y.elements agree.elements }

put_under_alike : (world : World) (key : List ℕ) (u v : Value) → Values world u v → (xs ys : List Property) → AllZip (PropertiesAgree world.pairs) xs ys
    → AllZip (PropertiesAgree world.pairs) (put_under key u xs) (put_under key v ys)
put_under_alike world key u v e [] [] h = ((refl, e), tt)
put_under_alike world key u v e [] (y ∷ ys) h = absurd h
put_under_alike world key u v e (x ∷ xs) [] h = absurd h
put_under_alike world key u v e (x ∷ xs) (y ∷ ys) h =
    let rest = put_under_alike world key u v e xs ys h.1 in
    subst (λ k. AllZip (PropertiesAgree world.pairs) (put_under key u (x ∷ xs)) (if text_eq k key then record { key = y.key; value = v } ∷ ys else y ∷ put_under key v ys)) h.0.0
    (elim (text_eq x.key key) as (λ b. AllZip (PropertiesAgree world.pairs)
    (if b then record { key = x.key; value = u } ∷ xs else x ∷ put_under key u xs) (if b then record { key = y.key; value = v } ∷ ys else y ∷ put_under key v ys))
    [ true ↦ ((h.0.0, e), h.1) | false ↦ (h.0, rest) ])

remove_under_alike : (world : World) (key : List ℕ) (xs ys : List Property) → AllZip (PropertiesAgree world.pairs) xs ys
    → AllZip (PropertiesAgree world.pairs) (remove_under key xs) (remove_under key ys)
remove_under_alike world key [] [] h = tt
remove_under_alike world key [] (y ∷ ys) h = absurd h
remove_under_alike world key (x ∷ xs) [] h = absurd h
remove_under_alike world key (x ∷ xs) (y ∷ ys) h =
    let rest = remove_under_alike world key xs ys h.1 in
    subst (λ k. AllZip (PropertiesAgree world.pairs) (remove_under key (x ∷ xs)) (if not (text_eq k key) then y ∷ remove_under key ys else remove_under key ys)) h.0.0
    (elim (not (text_eq x.key key)) as (λ b. AllZip (PropertiesAgree world.pairs)
    (if b then x ∷ remove_under key xs else remove_under key xs) (if b then y ∷ remove_under key ys else remove_under key ys))
    [ true ↦ (h.0, rest) | false ↦ rest ])

zip_set : {A : Type 0} (R : A → A → Type 0) (u v : A) → R u v → (place : ℕ) (xs ys : List A) → AllZip R xs ys → AllZip R (slice_set xs place u) (slice_set ys place v)
zip_set R u v e place [] [] h = tt
zip_set R u v e place [] (y ∷ ys) h = absurd h
zip_set R u v e place (x ∷ xs) [] h = absurd h
zip_set R u v e zero (x ∷ xs) (y ∷ ys) h = (e, h.1)
zip_set R u v e (suc place) (x ∷ xs) (y ∷ ys) h = (h.0, zip_set R u v e place xs ys h.1)

zip_take : {A : Type 0} (R : A → A → Type 0) (n : ℕ) (xs ys : List A) → AllZip R xs ys → AllZip R (take n xs) (take n ys)
zip_take R zero xs ys h = tt
zip_take R (suc n) [] [] h = tt
zip_take R (suc n) [] (y ∷ ys) h = absurd h
zip_take R (suc n) (x ∷ xs) [] h = absurd h
zip_take R (suc n) (x ∷ xs) (y ∷ ys) h = (h.0, zip_take R n xs ys h.1)

put_changes : (world : World) (key : List ℕ) (u v : Value) → Values world u v → (x y : Node) → NodesAgree world.pairs x y → NodesAgree world.pairs (with_properties (put_under key u) x) (with_properties (put_under key v) y)
put_changes world key u v e = properties_alike world (put_under key u) (put_under key v) (put_under_alike world key u v e)

push_changes : (world : World) (u v : Value) → Values world u v → (x y : Node) → NodesAgree world.pairs x y → NodesAgree world.pairs (with_elements (λ xs. xs ++ u ∷ []) x) (with_elements (λ xs. xs ++ v ∷ []) y)
push_changes world u v e = elements_alike world (λ xs. xs ++ u ∷ []) (λ xs. xs ++ v ∷ []) (λ xs ys h. AllZip-push (Agree world.pairs) xs ys u v h e)

pub set_element_alike : {world : World} (place : ℕ) (u v : Value) → Values world u v → (a b : ℕ) → ArePaired world.pairs a b → GoAlike Alike Same world (set_element a place u) (set_element b place v)
set_element_alike {world} place u v e a b p =
    change_alike world (with_elements (λ xs. slice_set xs place u)) (with_elements (λ xs. slice_set xs place v))
    (elements_alike world (λ xs. slice_set xs place u) (λ xs. slice_set xs place v) (zip_set (Values world) u v e place)) a b p

pub add_element_alike : {world : World} (u v : Value) → Values world u v → (a b : ℕ) → ArePaired world.pairs a b → GoAlike Alike Same world (add_element a u) (add_element b v)
add_element_alike {world} u v e a b p = change_alike world (with_elements (λ xs. xs ++ u ∷ [])) (with_elements (λ xs. xs ++ v ∷ [])) (push_changes world u v e) a b p

pub add_elements_alike : {world : World} (us vs : List Value) → Lists Values world us vs → (a b : ℕ) → ArePaired world.pairs a b → GoAlike Alike Same world (add_elements a us) (add_elements b vs)
add_elements_alike [] [] h a b p = give_alike tt tt refl
add_elements_alike [] (v ∷ vs) h a b p = absurd h
add_elements_alike (u ∷ us) [] h a b p = absurd h
add_elements_alike {world} (u ∷ us) (v ∷ vs) h a b p =
    same_alike (add_element_alike u v h.0 a b p) (λ after g done. add_elements_alike us vs ((lists_stay Values values_stay).later world after g us vs h.1) a b (g.kept a b p))

pub freeze_alike : {world : World} (a b : ℕ) → ArePaired world.pairs a b → GoAlike Alike Same world (freeze a) (freeze b)
freeze_alike {world} a b p =
    change_alike world frozen_node frozen_node (λ x y h. record { kind = h.kind; frozen = refl; prototype = h.prototype; properties = h.properties; elements = h.elements }) a b p

pub close_alike : {world : World} (a b : ℕ) → ArePaired world.pairs a b → GoAlike Alike Same world (close a) (close b)
close_alike {world} a b p =
    change_alike world closed_node closed_node (λ x y h. record { kind = ap closed_kind h.kind; frozen = h.frozen; prototype = h.prototype; properties = h.properties; elements = h.elements }) a b p

pub some_alike : {A : Type 0} (R : Common A) (world : World) (x y : Option A) → Maybe R world x y → is_some x ≡ is_some y
some_alike R world None None h = refl
some_alike R world None (Some b) h = absurd h
some_alike R world (Some a) None h = absurd h
some_alike R world (Some a) (Some b) h = refl

pub remove_alike : {world : World} (key : List ℕ) (a b : ℕ) → ArePaired world.pairs a b → GoAlike Alike Same world (remove_own a key) (remove_own b key)
remove_alike {world} key a b p =
    look_then (own_alike key a b p) (λ found other q.
    same_alike (change_alike world (with_properties (remove_under key)) (with_properties (remove_under key)) (properties_alike world (remove_under key) (remove_under key) (remove_under_alike world key)) a b p) (λ after g done.
    give_alike (is_some found) (is_some other) (some_alike Values world found other q)))

pub pop_alike : {world : World} (a b : ℕ) → ArePaired world.pairs a b → GoAlike Alike (Maybe Values) world (pop_element a) (pop_element b)
pop_alike {world} a b p =
    let fewer = λ (xs : List Value). take (length xs - 1) xs in
    same_then (count_alike a b p) (λ count.
    look_then (element_alike (count - 1) a b p) (λ last other q.
    same_alike (change_alike world (with_elements fewer) (with_elements fewer) (elements_alike world fewer fewer (λ xs ys h.
    subst (λ n. AllZip (Values world) (take (length xs - 1) xs) (take (n - 1) ys)) (length_all_zip (Values world) xs ys h) (zip_take (Values world) (length xs - 1) xs ys h))) a b p) (λ after g done.
    give_alike last other ((maybe_stays Values values_stay).later world after g last other q))))

-- an answer that is chosen by tests that are the same
pub answer_alike : {A : Type 0} (R : Common A) (world : World) (b c : Bool) (x y u v : HeapAnswer A) → b ≡ c → Answers Alike R world x u → Answers Alike R world y v → Answers Alike R world (if b then x else y) (if c then u else v)
answer_alike R world b c x y u v e f g = subst (λ d. Answers Alike R world (if b then x else y) (if d then u else v)) e (elim b as (λ d. Answers Alike R world (if d then x else y) (if d then u else v)) [ true ↦ f | false ↦ g ])

-- what is read of paired nodes
read_both : {A : Type 0} (world : World) (look : Option Node → A) → ((x y : Node) → NodesAgree world.pairs x y → look (Some x) ≡ look (Some y))
    → (a b : ℕ) → ArePaired world.pairs a b → (one other : Heap) → Alike world one other → look (slice_get one.nodes a) ≡ look (slice_get other.nodes b)
read_both world look h a b p one other alike =
    let read = read_pair alike a b p in
    ap look read.first ∙ h read.one read.other read.agree ∙ sym (ap look read.second)

has_alike : (world : World) (key : List ℕ) (x y : Node) → NodesAgree world.pairs x y → is_some (held_under key x.properties) ≡ is_some (held_under key y.properties)
has_alike world key x y h = some_alike Values world (held_under key x.properties) (held_under key y.properties) (held_alike world key x.properties y.properties h.properties)

-- a property is put where there are not too many, or written where there is one, and an element pushed where there are not too many
pub put_alike : {world : World} (key : List ℕ) (u v : Value) → Values world u v → (a b : ℕ) → ArePaired world.pairs a b → GoAlike Alike Same world (put_own a key u) (put_own b key v)
put_alike {world} key u v e a b p = record {
  ends = λ one other alike.
      answer_alike Same world (not (is_some (own_value one.nodes a key)) && nat_le MOST_PROPERTIES (length (properties_of one.nodes a))) (not (is_some (own_value other.nodes b key)) && nat_le MOST_PROPERTIES (length (properties_of other.nodes b)))
      (Stopped TooLong one) (Gave tt (with_nodes one (changed (with_properties (put_under key u)) one.nodes a))) (Stopped TooLong other) (Gave tt (with_nodes other (changed (with_properties (put_under key v)) other.nodes b)))
      (read_both world
      (λ found. not (is_some (option_and_then (λ (node : Node). held_under key node.properties) found)) && nat_le MOST_PROPERTIES (length (option_map_or (λ (node : Node). node.properties) found [])))
      (λ x y h.
      ap (λ c. not c && nat_le MOST_PROPERTIES (length x.properties)) (has_alike world key x y h)
      ∙ ap (λ n. not (is_some (held_under key y.properties)) && nat_le MOST_PROPERTIES n) (length_all_zip (PropertiesAgree world.pairs) x.properties y.properties h.properties))
      a b p one other alike)
      ((stop_alike {A = Unit} {R = Same} {world = world} TooLong).ends one other alike)
      ((change_alike world (with_properties (put_under key u)) (with_properties (put_under key v)) (put_changes world key u v e) a b p).ends one other alike);
}

pub write_alike : {world : World} (key : List ℕ) (u v : Value) → Values world u v → (a b : ℕ) → ArePaired world.pairs a b → GoAlike Alike Same world (write_own a key u) (write_own b key v)
write_alike {world} key u v e a b p = record {
  ends = λ one other alike.
      answer_alike Same world (is_some (own_value one.nodes a key)) (is_some (own_value other.nodes b key))
      (Gave true (with_nodes one (changed (with_properties (put_under key u)) one.nodes a))) (Gave false one) (Gave true (with_nodes other (changed (with_properties (put_under key v)) other.nodes b))) (Gave false other)
      (read_both world (λ found. is_some (option_and_then (λ (node : Node). held_under key node.properties) found)) (has_alike world key) a b p one other alike)
      (record { after = world; grows = grows_self world; matching = changed_alike world (with_properties (put_under key u)) (with_properties (put_under key v)) (put_changes world key u v e) a b p one other alike; result = refl })
      (record { after = world; grows = grows_self world; matching = alike; result = refl });
}

pub push_alike : {world : World} (u v : Value) → Values world u v → (a b : ℕ) → ArePaired world.pairs a b → GoAlike Alike Same world (push_element a u) (push_element b v)
push_alike {world} u v e a b p = record {
  ends = λ one other alike.
      answer_alike Same world (nat_le MOST_ITEMS (length (elements_of one.nodes a))) (nat_le MOST_ITEMS (length (elements_of other.nodes b)))
      (Stopped TooLong one) (Gave tt (with_nodes one (changed (with_elements (λ xs. xs ++ u ∷ [])) one.nodes a))) (Stopped TooLong other) (Gave tt (with_nodes other (changed (with_elements (λ xs. xs ++ v ∷ [])) other.nodes b)))
      (read_both world (λ found. nat_le MOST_ITEMS (length (option_map_or (λ (node : Node). node.elements) found [])))
      (λ x y h. ap (nat_le MOST_ITEMS) (length_all_zip (Agree world.pairs) x.elements y.elements h.elements)) a b p one other alike)
      ((stop_alike {A = Unit} {R = Same} {world = world} TooLong).ends one other alike)
      ((change_alike world (with_elements (λ xs. xs ++ u ∷ [])) (with_elements (λ xs. xs ++ v ∷ [])) (push_changes world u v e) a b p).ends one other alike);
}

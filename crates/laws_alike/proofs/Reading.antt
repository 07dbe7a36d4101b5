-- Reading a property of heaps that match.
use Rattle.std.proofs.Common.{◌≡◌, ℕ, ◌^◌, ℤ, pos, Bool, true, false, nat_lt, List, [], ◌∷◌, codes, length, slice_get, Option, None, Some, Ok, Err, refl, subst, arith, if◌then◌else◌, unsigned_abs}
use Rattle.std.specs.Str.{bytes_eq as text_eq}
use Rattle.snap_base.specs.declared.stop.Stop.TheVariants.{NotInProfile, NotSafeInteger}
use Rattle.snap_graph.specs.declared.intrinsic.TheConstants.{STRING_PROTOTYPE}
use Rattle.snap_graph.specs.declared.value.Value.{Value}
use Rattle.snap_graph.specs.declared.value.Value.TheVariants.{Undefined, Null, Bool as Truth, Int, Text, Node as At, Empty}
use Rattle.snap_graph.specs.Matching.{ArePaired}
use Rattle.snap_graph.specs.Values.{node_of}
use Rattle.spec_values.specs.Access.{count_value, element_named, found_or, get, get_of_node, get_of_text, index_of, is_array, is_size, is_special, look_up, names_length, or_stop, or_undefined, read_along, size_of, size_or_throw, unit_or_undefined}
use Rattle.spec_values.specs.Answer.{Action}
use Rattle.laws_alike.specs.Alike.{Alike, Lists, Maybe, Numbers, Values, World}
use Rattle.laws_alike.specs.Going.{GoAlike}
use Rattle.laws_alike.proofs.Binding.{bind_alike, choice_alike, give_alike, knowing, same_alike, stop_alike, tests_alike}
use Rattle.laws_alike.proofs.Looking.{count_alike, element_alike, kind_alike, look_then, own_alike, same_then}
use Rattle.laws_alike.proofs.Naming.{entries_seen, index_same, named_alike, nothing_alike, reached_alike, size_name, type_error_alike}
use Rattle.laws_alike.proofs.Worlds.{agree_cases}

-- numbers as values
safe_alike : {world : World} (z : ℤ) (b : Bool) → GoAlike Alike Values world (or_stop (if b then Ok (Int z) else Err NotSafeInteger)) (or_stop (if b then Ok (Int z) else Err NotSafeInteger))
safe_alike z true = give_alike (Int z) (Int z) refl
safe_alike z false = stop_alike NotSafeInteger

number_alike : {world : World} (n : ℕ) → GoAlike Alike Values world (count_value n) (count_value n)
number_alike n = safe_alike (pos n) (nat_lt (unsigned_abs (pos n)) (2 ^ 53))

-- sizes
size_alike : {world : World} (found : Option ℕ) → GoAlike Alike Values world (size_or_throw found) (size_or_throw found)
size_alike None = type_error_alike (codes "wrong receiver")
size_alike (Some n) = number_alike n

plain_size : {world : World} (m n : ℕ) (v : Value) → node_of v ≡ None → GoAlike Alike Values world (size_of m v) (size_of n v)
plain_size m n Undefined e = size_alike None
plain_size m n Null e = size_alike None
plain_size m n (Truth b) e = size_alike None
plain_size m n (Int z) e = size_alike None
plain_size m n (Text text) e = size_alike None
plain_size m n (At a) e = absurd cc
plain_size m n Empty e = size_alike None

sizes_alike : {world : World} (m n : ℕ) → ArePaired world.pairs m n → (u v : Value) → Values world u v → GoAlike Alike Values world (size_of m u) (size_of n v)
sizes_alike {world} m n p u v h =
    agree_cases world.pairs (λ u v. GoAlike Alike Values world (size_of m u) (size_of n v)) (plain_size m n)
    (λ a b q. same_then (entries_seen m n p a b q) size_alike)
    u v h

-- looking up
found_alike : {world : World} (found other : Option Value) → Maybe Values world found other → {x y : Action (Option Value)} → GoAlike Alike (Maybe Values) world x y
    → GoAlike Alike (Maybe Values) world (found_or found x) (found_or other y)
found_alike None None h more = more
found_alike None (Some v) h more = absurd h
found_alike (Some u) None h more = absurd h
found_alike (Some u) (Some v) h more = give_alike (Some u) (Some v) h

pub look_up_alike : {world : World} (u v : Value) → Values world u v → (name ms ns : List ℕ) → Lists Numbers world ms ns → GoAlike Alike (Maybe Values) world (look_up u name ms) (look_up v name ns)
look_up_alike u v e name [] [] h = give_alike None None tt
look_up_alike u v e name [] (n ∷ ns) h = absurd h
look_up_alike u v e name (m ∷ ms) [] h = absurd h
look_up_alike u v e name (m ∷ ms) (n ∷ ns) h =
    same_then (kind_alike m n h.0) (λ kind.
    look_then (own_alike name m n h.0) (λ found other q.
    choice_alike (is_special kind name) (stop_alike NotInProfile)
    (knowing (λ one rest alike.
    tests_alike (is_size m name) (is_size n name) (size_name alike h.0 name)
    (bind_alike (sizes_alike m n h.0 u v e) (λ after g size more q. give_alike (Some size) (Some more) q))
    (found_alike found other q (look_up_alike u v e name ms ns h.1))))))

or_undefined_alike : (world : World) (found other : Option Value) → Maybe Values world found other → Values world (or_undefined found) (or_undefined other)
or_undefined_alike world None None h = refl
or_undefined_alike world None (Some v) h = absurd h
or_undefined_alike world (Some u) None h = absurd h
or_undefined_alike world (Some u) (Some v) h = h

along_alike : {world : World} (u v : Value) → Values world u v → (name ms ns : List ℕ) → Lists Numbers world ms ns → GoAlike Alike Values world (read_along u name ms) (read_along v name ns)
along_alike u v e name ms ns h = bind_alike (look_up_alike u v e name ms ns h) (λ after g found other q. give_alike (or_undefined found) (or_undefined other) (or_undefined_alike after found other q))

-- texts
unit_alike : (world : World) (unit : Option ℕ) → Values world (unit_or_undefined unit) (unit_or_undefined unit)
unit_alike world None = refl
unit_alike world (Some unit) = refl

text_alike : {world : World} (text : List ℕ) (key other : Value) → Values world key other → (place : Option ℕ) → GoAlike Alike Values world (get_of_text text key place) (get_of_text text other place)
text_alike text key other e None =
    same_alike (named_alike key other e) (λ w g name.
    knowing (λ one rest alike.
    look_then (reached_alike STRING_PROTOTYPE STRING_PROTOTYPE (alike.intrinsics STRING_PROTOTYPE (omega arith))) (λ ms ns h.
    choice_alike (text_eq name (codes "length")) (number_alike (length text)) (along_alike (Text text) (Text text) refl name ms ns h))))
text_alike {world} text key other e (Some place) = give_alike (unit_or_undefined (slice_get text place)) (unit_or_undefined (slice_get text place)) (unit_alike world (slice_get text place))

-- nodes
node_alike : {world : World} (m n : ℕ) → ArePaired world.pairs m n → (key other : Value) → Values world key other → (place : Option ℕ) → GoAlike Alike Values world (get_of_node m key place) (get_of_node n other place)
node_alike m n p key other e None =
    same_alike (named_alike key other e) (λ w g name.
    let p = g.kept m n p in
    same_then (kind_alike m n p) (λ kind.
    same_then (count_alike m n p) (λ count.
    look_then (reached_alike m n p) (λ ms ns h.
    choice_alike (names_length kind name) (number_alike count) (along_alike (At m) (At n) p name ms ns h)))))
node_alike {world} m n p key other e (Some place) =
    look_then (element_alike place m n p) (λ found more h. give_alike (or_undefined found) (or_undefined more) (or_undefined_alike world found more h))

plain_get : {world : World} (key other : Value) → Values world key other → (v : Value) → node_of v ≡ None → GoAlike Alike Values world (get v key) (get v other)
plain_get key other h Undefined e = nothing_alike
plain_get key other h Null e = nothing_alike
plain_get key other h (Truth b) e = same_alike (named_alike key other h) (λ w g name. stop_alike NotInProfile)
plain_get key other h (Int z) e = same_alike (named_alike key other h) (λ w g name. stop_alike NotInProfile)
plain_get {world} key other h (Text text) e =
    subst (λ place. GoAlike Alike Values world (get_of_text text key (index_of key)) (get_of_text text other place)) (index_same world key other h) (text_alike text key other h (index_of key))
plain_get key other h (At n) e = absurd cc
plain_get key other h Empty e = stop_alike NotInProfile

pub get_alike : {world : World} (base other_base key other : Value) → Values world base other_base → Values world key other → GoAlike Alike Values world (get base key) (get other_base other)
get_alike {world} base other_base key other e h =
    agree_cases world.pairs (λ u v. GoAlike Alike Values world (get u key) (get v other)) (plain_get key other h)
    (λ m n p.
    same_then (kind_alike m n p) (λ kind.
    subst (λ place. GoAlike Alike Values world (get_of_node m key (element_named kind key)) (get_of_node n other (if is_array kind then place else None))) (index_same world key other h)
    (node_alike m n p key other h (element_named kind key))))
    base other_base e

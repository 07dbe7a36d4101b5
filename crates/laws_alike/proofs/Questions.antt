-- What is asked of values of heaps that match, and what a global object has.
use Rattle.std.proofs.Common.{◌≡◌, ℕ, ◌||◌, nat_lt, false, List, codes, length, Option, None, Some, is_some, refl, ap, subst, ◌∙◌, arith, if◌then◌else◌}
use Rattle.std.specs.Str.{bytes_eq as text_eq}
use Rattle.snap_base.specs.declared.stop.Stop.TheVariants.{NotInProfile}
use Rattle.snap_graph.specs.declared.intrinsic.TheConstants.{REFERENCE_ERROR_PROTOTYPE}
use Rattle.snap_graph.specs.declared.value.Value.{Value}
use Rattle.snap_graph.specs.declared.value.Value.TheVariants.{Undefined, Null, Bool as Truth, Int, Text, Node as At, Empty}
use Rattle.snap_graph.specs.Matching.{ArePaired}
use Rattle.snap_graph.specs.Values.{node_of}
use Rattle.spec_values.specs.Access.{element_named, index_of, is_array, is_size, is_special, names_length}
use Rattle.spec_values.specs.Asking.{can_be_called, defined, find_global, has_own, has_own_named, has_own_of_node, has_own_of_text, is_callable, not_defined, set_global, type_of}
use Rattle.laws_alike.specs.Alike.{Alike, Common, Maybe, Same, Values, World}
use Rattle.laws_alike.specs.Going.{GoAlike}
use Rattle.laws_alike.proofs.Binding.{bind_alike, choice_alike, give_alike, knowing, same_alike, stop_alike, tests_alike}
use Rattle.laws_alike.proofs.Changing.{some_alike}
use Rattle.laws_alike.proofs.Looking.{count_alike, kind_alike, look_then, own_alike, same_then}
use Rattle.laws_alike.proofs.Naming.{error_alike, index_same, named_alike, nothing_alike, reached_alike, size_name}
use Rattle.laws_alike.proofs.Reading.{look_up_alike}
use Rattle.laws_alike.proofs.Worlds.{agree_cases, value_later}
use Rattle.laws_alike.proofs.Writing.{named_set_alike}

-- whether it can be called, and what `typeof` gives
plain_callable : {world : World} (v : Value) → node_of v ≡ None → GoAlike Alike Same world (is_callable v) (is_callable v)
plain_callable Undefined e = give_alike false false refl
plain_callable Null e = give_alike false false refl
plain_callable (Truth b) e = give_alike false false refl
plain_callable (Int z) e = give_alike false false refl
plain_callable (Text text) e = give_alike false false refl
plain_callable (At n) e = absurd cc
plain_callable Empty e = give_alike false false refl

pub callable_alike : {world : World} (u v : Value) → Values world u v → GoAlike Alike Same world (is_callable u) (is_callable v)
callable_alike {world} u v h =
    agree_cases world.pairs (λ u v. GoAlike Alike Same world (is_callable u) (is_callable v)) plain_callable
    (λ a b p. same_then (kind_alike a b p) (λ kind. give_alike (can_be_called kind) (can_be_called kind) refl)) u v h

plain_type : {world : World} (v : Value) → node_of v ≡ None → GoAlike Alike Same world (type_of v) (type_of v)
plain_type Undefined e = give_alike (codes "undefined") (codes "undefined") refl
plain_type Null e = give_alike (codes "object") (codes "object") refl
plain_type (Truth b) e = give_alike (codes "boolean") (codes "boolean") refl
plain_type (Int z) e = give_alike (codes "number") (codes "number") refl
plain_type (Text text) e = give_alike (codes "string") (codes "string") refl
plain_type (At n) e = absurd cc
plain_type Empty e = stop_alike NotInProfile

pub type_alike : {world : World} (u v : Value) → Values world u v → GoAlike Alike Same world (type_of u) (type_of v)
type_alike {world} u v h =
    agree_cases world.pairs (λ u v. GoAlike Alike Same world (type_of u) (type_of v)) plain_type
    (λ a b p. same_then (kind_alike a b p) (λ kind. let name = if can_be_called kind then codes "function" else codes "object" in give_alike name name refl)) u v h

-- properties of its own
text_has_alike : {world : World} (text : List ℕ) (key other : Value) → Values world key other → (place : Option ℕ) → GoAlike Alike Same world (has_own_of_text text key place) (has_own_of_text text other place)
text_has_alike text key other h None = same_alike (named_alike key other h) (λ w g name. give_alike (text_eq name (codes "length")) (text_eq name (codes "length")) refl)
text_has_alike text key other h (Some place) = give_alike (nat_lt place (length text)) (nat_lt place (length text)) refl

named_has_alike : {world : World} (m n : ℕ) → ArePaired world.pairs m n → (name : List ℕ) → GoAlike Alike Same world (has_own_named m name) (has_own_named n name)
named_has_alike {world} m n p name =
    same_then (kind_alike m n p) (λ kind.
    look_then (own_alike name m n p) (λ found other q.
    choice_alike (is_special kind name) (stop_alike NotInProfile)
    (knowing (λ one rest alike.
    give_alike (names_length kind name || (is_size m name || is_some found)) (names_length kind name || (is_size n name || is_some other))
    (ap (λ b. names_length kind name || (b || is_some found)) (size_name alike p name) ∙ ap (λ b. names_length kind name || (is_size n name || b)) (some_alike Values world found other q))))))

node_has_alike : {world : World} (m n : ℕ) → ArePaired world.pairs m n → (key other : Value) → Values world key other → (place : Option ℕ)
    → GoAlike Alike Same world (has_own_of_node m key place) (has_own_of_node n other place)
node_has_alike m n p key other h None = same_alike (named_alike key other h) (λ w g name. named_has_alike m n (g.kept m n p) name)
node_has_alike m n p key other h (Some place) = same_then (count_alike m n p) (λ count. give_alike (nat_lt place count) (nat_lt place count) refl)

plain_has : {world : World} (key other : Value) → Values world key other → (v : Value) → node_of v ≡ None → GoAlike Alike Same world (has_own v key) (has_own v other)
plain_has key other h Undefined e = same_alike (named_alike key other h) (λ w g name. nothing_alike)
plain_has key other h Null e = same_alike (named_alike key other h) (λ w g name. nothing_alike)
plain_has key other h (Truth b) e = same_alike (named_alike key other h) (λ w g name. stop_alike NotInProfile)
plain_has key other h (Int z) e = same_alike (named_alike key other h) (λ w g name. stop_alike NotInProfile)
plain_has {world} key other h (Text text) e =
    subst (λ place. GoAlike Alike Same world (has_own_of_text text key (index_of key)) (has_own_of_text text other place)) (index_same world key other h) (text_has_alike text key other h (index_of key))
plain_has key other h (At n) e = absurd cc
plain_has key other h Empty e = stop_alike NotInProfile

pub has_alike : {world : World} (base other_base key other : Value) → Values world base other_base → Values world key other → GoAlike Alike Same world (has_own base key) (has_own other_base other)
has_alike {world} base other_base key other e h =
    agree_cases world.pairs (λ u v. GoAlike Alike Same world (has_own u key) (has_own v other)) (plain_has key other h)
    (λ m n p.
    same_then (kind_alike m n p) (λ kind.
    subst (λ place. GoAlike Alike Same world (has_own_of_node m key (element_named kind key)) (has_own_of_node n other (if is_array kind then place else None))) (index_same world key other h)
    (node_has_alike m n p key other h (element_named kind key))))
    base other_base e

-- names of a global object
missing_alike : {A : Type 0} {R : Common A} {world : World} → GoAlike Alike R world not_defined not_defined
missing_alike = error_alike REFERENCE_ERROR_PROTOTYPE (codes "not defined") (omega arith)

pub find_alike : {world : World} (m n : ℕ) → ArePaired world.pairs m n → (text : List ℕ) → GoAlike Alike (Maybe Values) world (find_global m text) (find_global n text)
find_alike m n p text =
    same_alike (named_alike (Text text) (Text text) refl) (λ w g name.
    let p = g.kept m n p in
    look_then (reached_alike m n p) (λ ms ns h. look_up_alike (At m) (At n) p name ms ns h))

pub defined_alike : {world : World} (found other : Option Value) → Maybe Values world found other → GoAlike Alike Values world (defined found) (defined other)
defined_alike None None h = missing_alike
defined_alike None (Some v) h = absurd h
defined_alike (Some u) None h = absurd h
defined_alike (Some u) (Some v) h = give_alike u v h

pub set_global_alike : {world : World} (m n : ℕ) → ArePaired world.pairs m n → (name : List ℕ) (u v : Value) → Values world u v → GoAlike Alike Same world (set_global m name u) (set_global n name v)
set_global_alike m n p name u v e =
    look_then (reached_alike m n p) (λ ms ns h.
    bind_alike (look_up_alike (At m) (At n) p name ms ns h) (λ after g found other q.
    tests_alike (is_some found) (is_some other) (some_alike Values after found other q) (named_set_alike m n (g.kept m n p) name u v (value_later g u v e)) missing_alike))

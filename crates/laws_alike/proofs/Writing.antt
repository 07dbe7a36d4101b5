-- Writing and deleting a property of heaps that match.
use Rattle.std.proofs.Common.{◌≡◌, ℕ, ◌==◌, ◌&&◌, ◌||◌, nat_lt, true, List, [], ◌∷◌, Option, None, Some, is_some, refl, ap, subst, ◌∙◌, if◌then◌else◌}
use Rattle.snap_base.specs.declared.stop.Stop.TheVariants.{NotInProfile}
use Rattle.snap_graph.specs.declared.value.Value.{Value}
use Rattle.snap_graph.specs.declared.value.Value.TheVariants.{Undefined, Null, Bool as Truth, Int, Text, Node as At, Empty}
use Rattle.snap_graph.specs.Matching.{ArePaired}
use Rattle.snap_graph.specs.Values.{node_of}
use Rattle.spec_values.specs.Access.{delete, delete_named, delete_of_node, delete_of_text, element_named, index_of, is_array, is_size, is_special, may_write, names_length, set, set_element_of, set_named, set_of_node, set_of_text}
use Rattle.laws_alike.specs.Alike.{Alike, Lists, Numbers, Same, Values, World}
use Rattle.laws_alike.specs.Going.{GoAlike}
use Rattle.laws_alike.proofs.Binding.{choice_alike, give_alike, knowing, same_alike, stop_alike, tests_alike}
use Rattle.laws_alike.proofs.Changing.{push_alike, put_alike, remove_alike, set_element_alike, some_alike}
use Rattle.laws_alike.proofs.Looking.{count_alike, frozen_alike, kind_alike, look_then, own_alike, same_then}
use Rattle.laws_alike.proofs.Naming.{index_same, named_alike, nothing_alike, reached_alike, refused_alike, size_name}
use Rattle.laws_alike.proofs.Worlds.{agree_cases, value_later}

may_write_alike : {world : World} (name ms ns : List ℕ) → Lists Numbers world ms ns → GoAlike Alike Same world (may_write name ms) (may_write name ns)
may_write_alike name [] [] h = give_alike tt tt refl
may_write_alike name [] (n ∷ ns) h = absurd h
may_write_alike name (m ∷ ms) [] h = absurd h
may_write_alike {world} name (m ∷ ms) (n ∷ ns) h =
    same_then (kind_alike m n h.0) (λ kind.
    look_then (own_alike name m n h.0) (λ found other q.
    same_then (frozen_alike m n h.0) (λ frozen.
    choice_alike (is_special kind name) (stop_alike NotInProfile)
    (knowing (λ one rest alike.
    tests_alike (is_size m name) (is_size n name) (size_name alike h.0 name) refused_alike
    (tests_alike (is_some found) (is_some other) (some_alike Values world found other q) (choice_alike frozen refused_alike (give_alike tt tt refl)) (may_write_alike name ms ns h.1)))))))

element_set_alike : {world : World} (m n : ℕ) → ArePaired world.pairs m n → (place : ℕ) (u v : Value) → Values world u v → GoAlike Alike Same world (set_element_of m place u) (set_element_of n place v)
element_set_alike m n p place u v e =
    same_then (count_alike m n p) (λ count.
    same_then (frozen_alike m n p) (λ frozen.
    choice_alike frozen refused_alike
    (choice_alike (nat_lt place count) (set_element_alike place u v e m n p)
    (choice_alike (place == count) (push_alike u v e m n p) (stop_alike NotInProfile)))))

pub named_set_alike : {world : World} (m n : ℕ) → ArePaired world.pairs m n → (name : List ℕ) (u v : Value) → Values world u v → GoAlike Alike Same world (set_named m name u) (set_named n name v)
named_set_alike m n p name u v e =
    same_then (kind_alike m n p) (λ kind.
    same_then (frozen_alike m n p) (λ frozen.
    look_then (reached_alike m n p) (λ ms ns h.
    choice_alike (names_length kind name) (choice_alike frozen refused_alike (stop_alike NotInProfile))
    (same_alike (may_write_alike name ms ns h) (λ w g done.
    let p = g.kept m n p in
    same_then (frozen_alike m n p) (λ now. choice_alike now refused_alike (put_alike name u v (value_later g u v e) m n p)))))))

node_set_alike : {world : World} (m n : ℕ) → ArePaired world.pairs m n → (key other : Value) → Values world key other → (u v : Value) → Values world u v → (place : Option ℕ)
    → GoAlike Alike Same world (set_of_node m key u place) (set_of_node n other v place)
node_set_alike m n p key other h u v e None = same_alike (named_alike key other h) (λ w g name. named_set_alike m n (g.kept m n p) name u v (value_later g u v e))
node_set_alike m n p key other h u v e (Some place) = element_set_alike m n p place u v e

text_set_alike : {world : World} (key other : Value) → Values world key other → (place : Option ℕ) → GoAlike Alike Same world (set_of_text key place) (set_of_text other place)
text_set_alike key other h None = same_alike (named_alike key other h) (λ w g name. refused_alike)
text_set_alike key other h (Some place) = refused_alike

plain_set : {world : World} (key other : Value) → Values world key other → (held next : Value) (v : Value) → node_of v ≡ None → GoAlike Alike Same world (set v key held) (set v other next)
plain_set key other h held next Undefined e = nothing_alike
plain_set key other h held next Null e = nothing_alike
plain_set key other h held next (Truth b) e = same_alike (named_alike key other h) (λ w g name. refused_alike)
plain_set key other h held next (Int z) e = same_alike (named_alike key other h) (λ w g name. refused_alike)
plain_set {world} key other h held next (Text text) e =
    subst (λ place. GoAlike Alike Same world (set_of_text key (index_of key)) (set_of_text other place)) (index_same world key other h) (text_set_alike key other h (index_of key))
plain_set key other h held next (At n) e = absurd cc
plain_set key other h held next Empty e = stop_alike NotInProfile

pub set_alike : {world : World} (base other_base key other held next : Value) → Values world base other_base → Values world key other → Values world held next
    → GoAlike Alike Same world (set base key held) (set other_base other next)
set_alike {world} base other_base key other held next e h q =
    agree_cases world.pairs (λ u v. GoAlike Alike Same world (set u key held) (set v other next)) (plain_set key other h held next)
    (λ m n p.
    same_then (kind_alike m n p) (λ kind.
    subst (λ place. GoAlike Alike Same world (set_of_node m key held (element_named kind key)) (set_of_node n other next (if is_array kind then place else None))) (index_same world key other h)
    (node_set_alike m n p key other h held next q (element_named kind key))))
    base other_base e

-- deleting
named_delete_alike : {world : World} (m n : ℕ) → ArePaired world.pairs m n → (name : List ℕ) → GoAlike Alike Same world (delete_named m name) (delete_named n name)
named_delete_alike {world} m n p name =
    same_then (kind_alike m n p) (λ kind.
    look_then (own_alike name m n p) (λ found other q.
    same_then (frozen_alike m n p) (λ frozen.
    choice_alike (is_special kind name || names_length kind name) (stop_alike NotInProfile)
    (knowing (λ one rest alike.
    tests_alike (is_size m name || (is_some found && frozen)) (is_size n name || (is_some other && frozen))
    (ap (λ b. b || (is_some found && frozen)) (size_name alike p name) ∙ ap (λ b. is_size n name || (b && frozen)) (some_alike Values world found other q))
    refused_alike (same_alike (remove_alike name m n p) (λ z g done. give_alike true true refl)))))))

node_delete_alike : {world : World} (m n : ℕ) → ArePaired world.pairs m n → (key other : Value) → Values world key other → (place : Option ℕ)
    → GoAlike Alike Same world (delete_of_node m key place) (delete_of_node n other place)
node_delete_alike m n p key other h None = same_alike (named_alike key other h) (λ w g name. named_delete_alike m n (g.kept m n p) name)
node_delete_alike m n p key other h (Some place) = stop_alike NotInProfile

text_delete_alike : {world : World} (key other : Value) → Values world key other → (place : Option ℕ) → GoAlike Alike Same world (delete_of_text key place) (delete_of_text other place)
text_delete_alike key other h None = same_alike (named_alike key other h) (λ w g name. stop_alike NotInProfile)
text_delete_alike key other h (Some place) = stop_alike NotInProfile

plain_delete : {world : World} (key other : Value) → Values world key other → (v : Value) → node_of v ≡ None → GoAlike Alike Same world (delete v key) (delete v other)
plain_delete key other h Undefined e = nothing_alike
plain_delete key other h Null e = nothing_alike
plain_delete key other h (Truth b) e = same_alike (named_alike key other h) (λ w g name. stop_alike NotInProfile)
plain_delete key other h (Int z) e = same_alike (named_alike key other h) (λ w g name. stop_alike NotInProfile)
plain_delete {world} key other h (Text text) e =
    subst (λ place. GoAlike Alike Same world (delete_of_text key (index_of key)) (delete_of_text other place)) (index_same world key other h) (text_delete_alike key other h (index_of key))
plain_delete key other h (At n) e = absurd cc
plain_delete key other h Empty e = stop_alike NotInProfile

pub delete_alike : {world : World} (base other_base key other : Value) → Values world base other_base → Values world key other → GoAlike Alike Same world (delete base key) (delete other_base other)
delete_alike {world} base other_base key other e h =
    agree_cases world.pairs (λ u v. GoAlike Alike Same world (delete u key) (delete v other)) (plain_delete key other h)
    (λ m n p.
    same_then (kind_alike m n p) (λ kind.
    subst (λ place. GoAlike Alike Same world (delete_of_node m key (element_named kind key)) (delete_of_node n other (if is_array kind then place else None))) (index_same world key other h)
    (node_delete_alike m n p key other h (element_named kind key))))
    base other_base e

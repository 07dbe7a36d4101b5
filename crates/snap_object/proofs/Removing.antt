-- Deleting a property, part by part.
use Rattle.std.proofs.Common.{◌≡◌, ℕ, zero, suc, ◌&&◌, ◌||◌, Bool, true, false, not, List, [], ◌∷◌, Option, None, Some, is_some, Result, Err, refl, sym, ap, ◌∙◌, if◌then◌else◌}
use Rattle.std.specs.Str.{bytes_eq as text_eq}
use Rattle.std.proofs.lemmas.Bool.{true≢false}
use Rattle.snap_base.specs.declared.stop.Stop.TheVariants.{NotInProfile}
use Rattle.snap_graph.specs.declared.node.Node.{Node}
use Rattle.snap_graph.specs.declared.value.Property.{Property}
use Rattle.snap_graph.specs.declared.value.Value.{Value}
use Rattle.spec_values.specs.Access.{delete_named, delete_of_text, not_writable}
use Rattle.spec_values.specs.Answer.{stop}
use Rattle.spec_values.specs.Operations.{held_under, is_frozen, own_value, remove_under, without_own}
use Rattle.snap_action.specs.declared.fault.Abrupt.{Abrupt}
use Rattle.snap_store.specs.declared.store.Store.{Ghosts}
use Rattle.snap_action.specs.Gives.{Gives, Shows, as_is, standing}
use Rattle.snap_object.specs.Parts.{is_kept, is_outside, outside_unless, without}
use Rattle.snap_object.proofs.Finding.{outside_so}
use Rattle.snap_action.proofs.Follows.{alike, cut}
use Rattle.snap_action.proofs.Growing.{stop_grows}

-- what a delete comes to, by the two tests
pub by_tests : {S H R : Type 0} {store : Ghosts S H} {first last : S} {shows : Shows R (Bool)} {result : Result R (Abrupt H)} (number : ℕ) (name : List ℕ) (outer kept : Bool)
    → is_outside (store.view first).nodes number name ≡ outer → is_kept (store.view first).nodes number name ≡ kept
    → Gives store first last shows result (if outer then stop NotInProfile else (if kept then not_writable else without number name))
    → Gives store first last shows result (delete_named number name)
by_tests {store = store} {first = first} number name outer kept o k h =
    alike (if outer then stop NotInProfile else (if kept then not_writable else without number name)) (delete_named number name)
    (λ keys. sym (ap (λ (b : Bool). (if b then stop NotInProfile else (if is_kept (store.view first).nodes number name then not_writable else without number name)) (standing (store.view first) keys)) o
    ∙ ap (λ (b : Bool). (if outer then stop NotInProfile else (if b then not_writable else without number name)) (standing (store.view first) keys)) k)) h

-- a delete outside the profile stops whatever else
pub outside_first : {S H R : Type 0} {store : Ghosts S H} {first last : S} {shows : Shows R (Bool)} {result : Result R (Abrupt H)} (number : ℕ) (name : List ℕ)
    → is_outside (store.view first).nodes number name ≡ true → Gives store first last shows result (stop NotInProfile) → Gives store first last shows result (delete_named number name)
outside_first {store = store} {first = first} number name o h = by_tests number name true (is_kept (store.view first).nodes number name) o refl h

-- properties stay where none has the key
none_removed : (key : List ℕ) (properties : List Property) → held_under key properties ≡ None → remove_under key properties ≡ properties
none_removed key [] e = refl
none_removed key (property ∷ rest) e = by (text_eq property.key key) e (none_removed key rest)
  where
    by : (b : Bool) → (if b then Some property.value else held_under key rest) ≡ None → (held_under key rest ≡ None → remove_under key rest ≡ rest) → (if not b then property ∷ remove_under key rest else remove_under key rest) ≡ property ∷ rest
    by true e further = absurd cc
    by false e further = ap (λ (ps : List Property). property ∷ ps) (further e)

nothing_gone : (nodes : List Node) (number : ℕ) (key : List ℕ) → own_value nodes number key ≡ None → without_own nodes number key ≡ nodes
nothing_gone [] number key e = refl
nothing_gone (node ∷ rest) zero key e =
    let same = none_removed key node.properties e in
    λ i. record { kind = node.kind; prototype = node.prototype; frozen = node.frozen; properties = same i; elements = node.elements } ∷ rest
nothing_gone (node ∷ rest) (suc number) key e = ap (λ (ns : List Node). node ∷ ns) (nothing_gone rest number key e)

-- what a frozen node doesn't keep, it doesn't have
not_had : (size frozen : Bool) (found : Option Value) → (size || (is_some found && frozen)) ≡ false → frozen ≡ true → found ≡ None
not_had true frozen found e f = absurd (true≢false e)
not_had false frozen None e f = refl
not_had false true (Some value) e f = absurd (true≢false e)
not_had false false (Some value) e f = absurd (true≢false (sym f))

-- a frozen node that does not keep a property has none of it
pub none_gone : (nodes : List Node) (number : ℕ) (name : List ℕ) (size : Bool) → (size || (is_some (own_value nodes number name) && is_frozen nodes number)) ≡ false → is_frozen nodes number ≡ true → without_own nodes number name ≡ nodes
none_gone nodes number name size e f = nothing_gone nodes number name (not_had size (is_frozen nodes number) (own_value nodes number name) e f)

-- a delete from a text, in place of any answer
pub text_outside : {S H R : Type 0} {store : Ghosts S H} {first last : S} {shows : Shows R Bool} (place : Option ℕ) (key : Value) {fault : Abrupt H}
    → Gives {R = Unit {0}} store first last as_is (Err fault) (outside_unless place key) → Gives store first last shows (Err fault) (delete_of_text key place)
text_outside {shows = shows} (Some place) key {fault = fault} h = cut shows fault (stop NotInProfile) (λ done. stop NotInProfile) (λ done. stop_grows NotInProfile) h
text_outside None key h = outside_so key h

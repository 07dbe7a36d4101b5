-- What a search comes to, as looking up.
use Rattle.std.proofs.Common.{◌≡◌, ℕ, Bool, true, false, List, [], ◌∷◌, Option, None, Some, Result, refl, sym, ap, ◌∙◌, if◌then◌else◌}
use Rattle.snap_base.specs.declared.stop.Stop.TheVariants.{NotInProfile}
use Rattle.snap_graph.specs.declared.value.Value.{Value}
use Rattle.spec_values.specs.Access.{found_or, is_size, is_special, look_up, reached_from, size_of}
use Rattle.spec_values.specs.Answer.{◌>>=◌, Action, Heap, give, stop}
use Rattle.spec_values.specs.Operations.{kind_of, own_value}
use Rattle.snap_action.specs.declared.fault.Abrupt.{Abrupt}
use Rattle.snap_object.specs.declared.search.Found.{Found}
use Rattle.snap_object.specs.declared.search.Found.TheVariants.{Special, Size, Own, Absent}
use Rattle.snap_store.specs.declared.store.Store.{Ghosts}
use Rattle.snap_action.specs.Gives.{Gives, Shows, standing}
use Rattle.snap_object.specs.Parts.{found_from}
use Rattle.snap_object.specs.Search.{found_along, own_or}
use Rattle.snap_action.proofs.Follows.{alike}

-- what a look-up comes to where this was found
abbrev pub read : Value → Found Value → Action (Option Value)
read base Special = stop NotInProfile
read base (Size prototype) = size_of prototype base >>= λ size. give (Some size)
read base (Own number value) = give (Some value)
read base Absent = give None

read_first : (base : Value) (heap : Heap) (number : ℕ) (special size : Bool) (own : Option Value) (further : Action (Option Value)) (found : Found Value) → further heap ≡ read base found heap
    → (if special then stop NotInProfile else (if size then (size_of number base >>= λ size. give (Some size)) else found_or own further)) heap ≡ read base (if special then Special else (if size then Size number else own_or number own found)) heap
read_first base heap number true size own further found e = refl
read_first base heap number false true own further found e = refl
read_first base heap number false false None further found e = e
read_first base heap number false false (Some value) further found e = refl

looks_up : (base : Value) (name numbers : List ℕ) (heap : Heap) → look_up base name numbers heap ≡ read base (found_along heap.nodes name numbers) heap
looks_up base name [] heap = refl
looks_up base name (number ∷ rest) heap =
    read_first base heap number (is_special (kind_of heap.nodes number) name) (is_size number name) (own_value heap.nodes number name) (look_up base name rest) (found_along heap.nodes name rest) (looks_up base name rest heap)

pub reads : {S H R : Type 0} {store : Ghosts S H} {first last : S} {shows : Shows R (Option Value)} {result : Result R (Abrupt H)} (base : Value) (name : List ℕ) (from : ℕ) (found : Found Value)
    → found ≡ found_along (store.view first).nodes name (reached_from (store.view first).nodes from) → Gives store first last shows result (read base found) → Gives store first last shows result (found_from base name from)
reads {store = store} {first = first} base name from found e h =
    alike (read base found) (found_from base name from) (λ keys. ap (λ (f : Found Value). read base f (standing (store.view first) keys)) e ∙ sym (looks_up base name (reached_from (store.view first).nodes from) (standing (store.view first) keys))) h

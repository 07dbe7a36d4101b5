-- Reading keeps nodes fit for scripts, and gives no scope.
use Rattle.std.proofs.Common.{◌≡◌, ℕ, zero, suc, Bool, true, false, pos, List, [], ◌∷◌, ◌++◌, codes, length, slice_get, Option, None, Some, IfSome, nat_lt, ◌^◌, unsigned_abs, Result, Ok, Err, refl, sym, ap, subst, if◌then◌else◌}
use Rattle.std.specs.List.{AllByRecursion}
use Rattle.std.specs.Option.{option_and_then, option_map_or}
use Rattle.std.specs.Str.{bytes_eq as text_eq}
use Rattle.std.proofs.lemmas.List.Elements.{recursion_from_All}
use Rattle.std.proofs.lemmas.Option.{get_or_from_slice_get, slice_get_within}
use Rattle.snap_ast.specs.declared.tree.Tree.{Tree}
use Rattle.snap_base.specs.declared.stop.Stop.{Stop}
use Rattle.snap_base.specs.declared.stop.Stop.TheVariants.{NotInProfile, NotSafeInteger}
use Rattle.snap_graph.specs.declared.intrinsic.TheConstants.{STRING_PROTOTYPE, TYPE_ERROR_PROTOTYPE}
use Rattle.snap_graph.specs.declared.node.Node.{Node}
use Rattle.snap_graph.specs.declared.value.Property.{Property}
use Rattle.snap_graph.specs.declared.value.Value.{Value}
use Rattle.snap_graph.specs.declared.value.Value.TheVariants.{Undefined, Null, Bool as Truth, Int, Text, Node as At, Empty}
use Rattle.spec_scopes.specs.Valid.{IsValidNode}
use Rattle.spec_values.specs.Access.{count_value, element_of, entry_count, found_or, get, get_of_node, get_of_text, index_of, is_array, is_length, is_size, is_special, look_up, named_key, or_stop, or_undefined, reached_from, read_along, size_of, size_or_throw, unit_or_undefined}
use Rattle.spec_values.specs.Answer.{◌>>=◌, Action, Heap, followed, give, stop}
use Rattle.spec_values.specs.Conversions.{text_of}
use Rattle.spec_values.specs.Operations.{elements_of, held_under, kind_of, own_value}
use Rattle.spec_values.proofs.Arrays.{an_array_as, array_node}
use Rattle.laws_valid.proofs.Ending.{Ends, either, ends_then, throws}
use Rattle.laws_valid.proofs.Keeping.{IsNoScope}
use Rattle.laws_valid.proofs.Sound.{NoScopes, Sound}

-- of nodes P holds, and what is given is no scope; and so where nothing may be given
abbrev pub Given : (List Node → Type 0) → List Node → Value → Type 0
Given P nodes value = P nodes × IsNoScope nodes value

abbrev pub Found : (List Node → Type 0) → List Node → Option Value → Type 0
Found P nodes found = P nodes × IfSome found (IsNoScope nodes)

-- P holds of nodes, whatever is given
abbrev pub Kept : {A : Type 0} → (List Node → Type 0) → List Node → A → Type 0
Kept P nodes result = P nodes

-- a node that is read fits the scripts
pub sound_at : (scripts : List Tree) (nodes : List Node) (number : ℕ) (node : Node) → Sound scripts nodes → slice_get nodes number ≡ Some node → IsValidNode nodes scripts node
sound_at scripts nodes number node sound e = subst (IsValidNode nodes scripts) (get_or_from_slice_get nodes number node node e) (sound number node (slice_get_within nodes number node e))

-- what properties and elements hold is no scope where none of them is one
held_unscoped : (nodes : List Node) (key : List ℕ) (properties : List Property) → AllByRecursion (λ (p : Property). IsNoScope nodes p.value) properties → IfSome (held_under key properties) (IsNoScope nodes)
held_unscoped nodes key [] h = tt
held_unscoped nodes key (property ∷ rest) h =
    let more = held_unscoped nodes key rest h.1 in
    elim (text_eq property.key key) as (λ b. IfSome (if b then Some property.value else held_under key rest) (IsNoScope nodes)) [ true ↦ h.0 | false ↦ more ]

read_unscoped : (nodes : List Node) (values : List Value) (place : ℕ) → AllByRecursion (IsNoScope nodes) values → IsNoScope nodes (or_undefined (slice_get values place))
read_unscoped nodes [] place h = refl
read_unscoped nodes (value ∷ rest) zero h = h.0
read_unscoped nodes (value ∷ rest) (suc place) h = read_unscoped nodes rest place h.1

or_undefined_unscoped : (nodes : List Node) (found : Option Value) → IfSome found (IsNoScope nodes) → IsNoScope nodes (or_undefined found)
or_undefined_unscoped nodes None h = refl
or_undefined_unscoped nodes (Some value) h = h

unit_unscoped : (nodes : List Node) (unit : Option ℕ) → IsNoScope nodes (unit_or_undefined unit)
unit_unscoped nodes None = refl
unit_unscoped nodes (Some unit) = refl

module _ (scripts : List Tree) where
  -- what a node has under a key, and what an array has at a place
  own_unscoped : (nodes : List Node) (number : ℕ) (key : List ℕ) → Sound scripts nodes → IfSome (own_value nodes number key) (IsNoScope nodes)
  own_unscoped nodes number key sound = by (slice_get nodes number) refl
    where
      by : (found : Option Node) → slice_get nodes number ≡ found → IfSome (option_and_then (λ (node : Node). held_under key node.properties) found) (IsNoScope nodes)
      by None e = tt
      by (Some node) e = held_unscoped nodes key node.properties (recursion_from_All (λ (p : Property). IsNoScope nodes p.value) node.properties (sound_at scripts nodes number node sound e).properties)

  element_unscoped : (nodes : List Node) (number place : ℕ) → Sound scripts nodes → is_array (kind_of nodes number) ≡ true → IsNoScope nodes (or_undefined (slice_get (elements_of nodes number) place))
  element_unscoped nodes number place sound an_array =
      let node = array_node nodes number an_array in
      let elements : elements_of nodes number ≡ node.0.elements = ap (λ (found : Option Node). option_map_or (λ n. n.elements) found []) node.1 in
      let none : NoScopes nodes node.0.elements = (sound_at scripts nodes number node.0 sound node.1).elements (λ script tree is. absurd cc) in
      subst (λ (values : List Value). IsNoScope nodes (or_undefined (slice_get values place))) (sym elements) (read_unscoped nodes node.0.elements place (recursion_from_All (IsNoScope nodes) node.0.elements none))

module _ (scripts : List Tree) (P : List Node → Type 0) where
  -- the key of a name is used, and what held of the nodes holds of them
  pub named_ends : (key : Value) (heap : Heap) → Sound scripts heap.nodes → P heap.nodes → Ends scripts (Kept P) (named_key key heap)
  named_ends key heap sound h = by (text_of key)
    where
      judged : (name : List ℕ) (b : Bool) → Ends scripts (Kept P) ((if b then stop NotInProfile else give name) (record { nodes = heap.nodes; private_nodes = heap.private_nodes; keys = heap.keys ++ name ∷ [] }))
      judged name true = sound
      judged name false = h

      by : (r : Result (List ℕ) Stop) → Ends scripts (Kept P) (followed (or_stop r heap) (λ name h.
          (if text_eq name (codes "__proto__") then stop NotInProfile else give name) (record { nodes = h.nodes; private_nodes = h.private_nodes; keys = h.keys ++ name ∷ [] })))
      by (Ok name) = judged name (text_eq name (codes "__proto__"))
      by (Err why) = sound

  -- a number of units, elements or records
  pub count_ends : (n : ℕ) (heap : Heap) → Sound scripts heap.nodes → P heap.nodes → Ends scripts (Given P) (count_value n heap)
  count_ends n heap sound h = by (nat_lt (unsigned_abs (pos n)) (2 ^ 53))
    where
      by : (b : Bool) → Ends scripts (Given P) (or_stop (if b then Ok (Int (pos n)) else Err NotSafeInteger) heap)
      by true = (h, refl)
      by false = sound

  size_ends : (found : Option ℕ) (heap : Heap) → Sound scripts heap.nodes → P heap.nodes → Ends scripts (Given P) (size_or_throw found heap)
  size_ends None heap sound h = throws scripts (Given P) TYPE_ERROR_PROTOTYPE (codes "wrong receiver") heap sound
  size_ends (Some n) heap sound h = count_ends n heap sound h

  size_of_ends : (prototype : ℕ) (base : Value) (heap : Heap) → Sound scripts heap.nodes → P heap.nodes → Ends scripts (Given P) (size_of prototype base heap)
  size_of_ends prototype Undefined heap sound h = size_ends None heap sound h
  size_of_ends prototype Null heap sound h = size_ends None heap sound h
  size_of_ends prototype (Truth b) heap sound h = size_ends None heap sound h
  size_of_ends prototype (Int z) heap sound h = size_ends None heap sound h
  size_of_ends prototype (Text text) heap sound h = size_ends None heap sound h
  size_of_ends prototype (At node) heap sound h = size_ends (entry_count prototype (kind_of heap.nodes node) (elements_of heap.nodes node)) heap sound h
  size_of_ends prototype Empty heap sound h = size_ends None heap sound h

  -- looking up
  found_ends : (found : Option Value) (further : Action (Option Value)) (heap : Heap) → P heap.nodes → IfSome found (IsNoScope heap.nodes) → Ends scripts (Found P) (further heap) → Ends scripts (Found P) (found_or found further heap)
  found_ends None further heap h none more = more
  found_ends (Some held) further heap h none more = (h, none)

  pub look_up_ends : (base : Value) (name numbers : List ℕ) (heap : Heap) → Sound scripts heap.nodes → P heap.nodes → Ends scripts (Found P) (look_up base name numbers heap)
  look_up_ends base name [] heap sound h = (h, tt)
  look_up_ends base name (number ∷ rest) heap sound h =
      let more = look_up_ends base name rest heap sound h in
      either scripts (Found P) (is_special (kind_of heap.nodes number) name) (stop NotInProfile) _ heap sound
      (either scripts (Found P) (is_size number name) (size_of number base >>= λ size. give (Some size)) (found_or (own_value heap.nodes number name) (look_up base name rest)) heap
      (ends_then scripts (Given P) (Found P) (size_of number base heap) (λ size. give (Some size)) (size_of_ends number base heap sound h) (λ size after left. left))
      (found_ends (own_value heap.nodes number name) (look_up base name rest) heap h (own_unscoped scripts heap.nodes number name sound) more))

module _ (scripts : List Tree) where
  along_ends : (base : Value) (name numbers : List ℕ) (heap : Heap) → Sound scripts heap.nodes → Ends scripts (Given (Sound scripts)) (read_along base name numbers heap)
  along_ends base name numbers heap sound =
      ends_then scripts (Found (Sound scripts)) (Given (Sound scripts)) (look_up base name numbers heap) (λ found. give (or_undefined found)) (look_up_ends scripts (Sound scripts) base name numbers heap sound sound)
      (λ found h left. (left.0, or_undefined_unscoped h.nodes found left.1))

  text_ends : (text : List ℕ) (key : Value) (place : Option ℕ) (heap : Heap) → Sound scripts heap.nodes → Ends scripts (Given (Sound scripts)) (get_of_text text key place heap)
  text_ends text key (Some place) heap sound = (sound, unit_unscoped heap.nodes (slice_get text place))
  text_ends text key None heap sound =
      ends_then scripts (Kept (Sound scripts)) (Given (Sound scripts)) (named_key key heap) _ (named_ends scripts (Sound scripts) key heap sound sound)
      (λ name h here. either scripts (Given (Sound scripts)) (text_eq name (codes "length")) (count_value (length text)) (read_along (Text text) name (reached_from h.nodes STRING_PROTOTYPE)) h
      (count_ends scripts (Sound scripts) (length text) h here here) (along_ends (Text text) name (reached_from h.nodes STRING_PROTOTYPE) h here))

  node_ends : (number : ℕ) (key : Value) (place : Option ℕ) (heap : Heap) → Sound scripts heap.nodes → element_of heap.nodes number key ≡ place → Ends scripts (Given (Sound scripts)) (get_of_node number key place heap)
  node_ends number key (Some place) heap sound e = (sound, element_unscoped scripts heap.nodes number place sound (an_array_as (is_array (kind_of heap.nodes number)) (index_of key) place e))
  node_ends number key None heap sound e =
      ends_then scripts (Kept (Sound scripts)) (Given (Sound scripts)) (named_key key heap) _ (named_ends scripts (Sound scripts) key heap sound sound)
      (λ name h here. either scripts (Given (Sound scripts)) (is_length h.nodes number name) (count_value (length (elements_of h.nodes number))) (read_along (At number) name (reached_from h.nodes number)) h
      (count_ends scripts (Sound scripts) (length (elements_of h.nodes number)) h here here) (along_ends (At number) name (reached_from h.nodes number) h here))

  -- a primitive that has no properties in this profile
  pub outside : {A : Type 0} (Q : List Node → A → Type 0) (key : Value) (heap : Heap) → Sound scripts heap.nodes → Ends scripts Q (followed (named_key key heap) (λ name. stop NotInProfile))
  outside Q key heap sound = ends_then scripts (Kept (Sound scripts)) Q (named_key key heap) (λ name. stop NotInProfile) (named_ends scripts (Sound scripts) key heap sound sound) (λ name h here. here)

  pub get_ends : (base key : Value) (heap : Heap) → Sound scripts heap.nodes → Ends scripts (Given (Sound scripts)) (get base key heap)
  get_ends Undefined key heap sound = throws scripts (Given (Sound scripts)) TYPE_ERROR_PROTOTYPE (codes "no properties") heap sound
  get_ends Null key heap sound = throws scripts (Given (Sound scripts)) TYPE_ERROR_PROTOTYPE (codes "no properties") heap sound
  get_ends (Truth b) key heap sound = outside (Given (Sound scripts)) key heap sound
  get_ends (Int z) key heap sound = outside (Given (Sound scripts)) key heap sound
  get_ends (Text text) key heap sound = text_ends text key (index_of key) heap sound
  get_ends (At number) key heap sound = node_ends number key (element_of heap.nodes number key) heap sound refl
  get_ends Empty key heap sound = sound

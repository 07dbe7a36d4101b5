-- A test that shows plain nodes, arrays without elements and built-in functions to be lawful.
use Rattle.std.proofs.Common.{◌≡◌, ◌≢◌, ℕ, zero, suc, ◌+◌, inl, inr, Bool, true, false, ◌&&◌, ◌||◌, ◌==◌, not, nat_lt, nat_le, All, AllPairs, List, [], ◌∷◌, codes, length, get_or, slice_get, ap, Option, None, Some, is_some, refl, sym, subst, ◌∙◌, arith}
use Rattle.std.specs.Fmt.{digits}
use Rattle.std.specs.List.{list_all}
use Rattle.std.specs.Option.{option_map_or}
use Rattle.std.specs.Str.{bytes_eq as text_eq}
use Rattle.std.proofs.lemmas.Bool.{and_parts, eqb-true, not-true, false≢true, true≢false}
use Rattle.std.proofs.lemmas.Bool.Decides.{nat_tests}
use Rattle.std.proofs.lemmas.List.{take_all}
use Rattle.std.proofs.lemmas.List.Elements.{All-nil}
use Rattle.std.proofs.lemmas.List.Sums.{AllPass-from_list_all}
use Rattle.std.proofs.lemmas.Slice.Eq.{bytes_eq-Decides}
use Rattle.snap_graph.specs.declared.kind.Kind.{Kind}
use Rattle.snap_graph.specs.declared.kind.Kind.TheVariants as kind
use Rattle.snap_graph.specs.declared.node.Node.{Node}
use Rattle.snap_graph.specs.declared.value.Property.{Property}
use Rattle.snap_graph.specs.declared.value.Value.{Value}
use Rattle.snap_graph.specs.declared.value.Value.TheVariants as value
use Rattle.snap_graph.specs.Intrinsics.{IsNative, constructors, host_objects, intrinsics, prototypes}
use Rattle.snap_graph.specs.Lawful.{AreElements, IsElementKey, IsLawful, IsLawfulNode, IsPrototype, chain_from, is_scope}
use Rattle.snap_graph.specs.OwnKeys.{array_index}
use Rattle.snap_graph.specs.Values.{IsValue}

-- a text, or one of so many nodes
value_fits : ℕ → Value → Bool
value_fits count value.Undefined = false
value_fits count value.Null = false
value_fits count (value.Bool b) = false
value_fits count (value.Int z) = false
value_fits count (value.Text text) = true
value_fits count (value.Node node) = nat_lt node count
value_fits count value.Empty = false

fitting_value : (count : ℕ) (v : Value) → value_fits count v ≡ true → IsValue count v
unfolding value_fits
fitting_value count value.Undefined e = absurd (false≢true e)
fitting_value count value.Null e = absurd (false≢true e)
fitting_value count (value.Bool b) e = absurd (false≢true e)
fitting_value count (value.Int z) e = absurd (false≢true e)
fitting_value count (value.Text text) e = tt
fitting_value count (value.Node node) e = grind (arith, nat_tests)
fitting_value count value.Empty e = absurd (false≢true e)

-- null, or a node that is no scope
no_scope : Option Node → Bool
no_scope found = option_map_or (λ node. not (is_scope node.kind)) found false

prototype_fits : List Node → Value → Bool
prototype_fits nodes value.Undefined = false
prototype_fits nodes value.Null = true
prototype_fits nodes (value.Bool b) = false
prototype_fits nodes (value.Int z) = false
prototype_fits nodes (value.Text text) = false
prototype_fits nodes (value.Node node) = no_scope (slice_get nodes node)
prototype_fits nodes value.Empty = false

found_node : (found : Option Node) → no_scope found ≡ true → (node : Node) × (found ≡ Some node) × (is_scope node.kind ≡ false)
unfolding no_scope
found_node None e = absurd (false≢true e)
found_node (Some node) e = (node, refl, not-true (is_scope node.kind) e)

fitting_prototype : (nodes : List Node) (kind : Kind) (v : Value) → is_scope kind ≡ false → prototype_fits nodes v ≡ true → IsPrototype nodes kind v
unfolding prototype_fits
fitting_prototype nodes kind value.Undefined k e = absurd (false≢true e)
fitting_prototype nodes kind value.Null k e = tt
fitting_prototype nodes kind (value.Bool b) k e = absurd (false≢true e)
fitting_prototype nodes kind (value.Int z) k e = absurd (false≢true e)
fitting_prototype nodes kind (value.Text text) k e = absurd (false≢true e)
fitting_prototype nodes kind (value.Node node) k e =
    let found = found_node (slice_get nodes node) e in
    (found.0, found.1, found.2 ∙ sym k)
fitting_prototype nodes kind value.Empty k e = absurd (false≢true e)

-- no key stands twice
keys_differ : List Property → Bool
keys_differ [] = true
keys_differ (property ∷ rest) = list_all (λ q. not (text_eq property.key q.key)) rest && keys_differ rest

other_key : (one other : List ℕ) → not (text_eq one other) ≡ true → one ≢ other
other_key one other e same = true≢false (sym ((bytes_eq-Decides one other).1 same) ∙ not-true (text_eq one other) e)

fitting_keys : (properties : List Property) → keys_differ properties ≡ true → AllPairs (λ one other. one.key ≢ other.key) properties
unfolding keys_differ
fitting_keys [] e i j d below within = absurd (omega arith)
fitting_keys (property ∷ rest) e i zero d below within = absurd (omega arith)
fitting_keys (property ∷ rest) e zero (suc j) d below within =
    let parts = and_parts (list_all (λ q. not (text_eq property.key q.key)) rest) (keys_differ rest) e in
    other_key property.key (get_or rest j d).key (AllPass-from_list_all (λ q. not (text_eq property.key q.key)) rest parts.0 j d (omega arith))
fitting_keys (property ∷ rest) e (suc i) (suc j) d below within =
    let parts = and_parts (list_all (λ q. not (text_eq property.key q.key)) rest) (keys_differ rest) e in
    fitting_keys rest parts.1 i j d (omega arith) (omega arith)

-- neither an index nor `length`
no_element_key : List ℕ → Bool
no_element_key key = not (is_some (array_index key)) && not (text_eq key (codes "length"))

other_than_elements : (key : List ℕ) → no_element_key key ≡ true → IsElementKey key → ⊥
unfolding no_element_key
other_than_elements key e (inl index) =
    true≢false (sym index ∙ not-true (is_some (array_index key)) (and_parts (not (is_some (array_index key))) (not (text_eq key (codes "length"))) e).0)
other_than_elements key e (inr length) =
    other_key key (codes "length") (and_parts (not (is_some (array_index key))) (not (text_eq key (codes "length"))) e).1 length

-- a plain node, an array with no key of an element, or a built-in function with a number of its own
native_fits : ℕ → Bool
native_fits number = number == 1 || (nat_le 10 number && nat_le number 18) || (nat_le 23 number && nat_le number 63)

kind_fits : Kind → List Property → Bool
kind_fits kind.Plain properties = true
kind_fits kind.Array properties = list_all (λ p. no_element_key p.key) properties
kind_fits (kind.Function script tree) properties = false
kind_fits (kind.Native number) properties = native_fits number
kind_fits (kind.Scope scope) properties = false
kind_fits kind.Error properties = false
kind_fits kind.Map properties = false
kind_fits kind.Set properties = false
kind_fits (kind.Resource number closed) properties = false

-- what such a kind asks of a node
record KindFits (count : ℕ) (own : Kind) (properties : List Property) : Type 0 where
  no_scope : is_scope own ≡ false
  element_keys : own ≡ kind.Array → All (λ p. IsElementKey p.key → ⊥) properties
  elements : AreElements count own []
  native : (number : ℕ) → own ≡ kind.Native number → IsNative number

fitting_native : (number : ℕ) → native_fits number ≡ true → IsNative number
unfolding native_fits
fitting_native number e = grind (arith, nat_tests)

fitting_kind : (count : ℕ) (own : Kind) (properties : List Property) → kind_fits own properties ≡ true → KindFits count own properties
unfolding kind_fits
fitting_kind count kind.Plain properties e = record { no_scope = refl; element_keys = λ h. absurd cc; elements = refl; native = λ n h. absurd cc }
fitting_kind count kind.Array properties e = record {
  no_scope = refl;
  element_keys = λ h k d within. other_than_elements (get_or properties k d).key (AllPass-from_list_all (λ p. no_element_key p.key) properties e k d within);
  elements = All-nil (IsValue count);
  native = λ n h. absurd cc;
}
fitting_kind count (kind.Function script tree) properties e = absurd (false≢true e)
fitting_kind count (kind.Native number) properties e = record {
  no_scope = refl;
  element_keys = λ h. absurd cc;
  elements = refl;
  native = λ n h. let same : number ≡ n = cc in subst IsNative same (fitting_native number e);
}
fitting_kind count (kind.Scope scope) properties e = absurd (false≢true e)
fitting_kind count kind.Error properties e = absurd (false≢true e)
fitting_kind count kind.Map properties e = absurd (false≢true e)
fitting_kind count kind.Set properties e = absurd (false≢true e)
fitting_kind count (kind.Resource number closed) properties e = absurd (false≢true e)

has_none : List Value → Bool
has_none [] = true
has_none (v ∷ values) = false

no_elements : (values : List Value) → has_none values ≡ true → [] ≡ values
unfolding has_none
no_elements [] e = refl
no_elements (v ∷ values) e = absurd (false≢true e)

-- the whole test
fits : List Node → Node → Bool
fits nodes node =
    prototype_fits nodes node.prototype && (is_some (chain_from nodes node.prototype) && (keys_differ node.properties && (kind_fits node.kind node.properties
    && (list_all (λ p. value_fits (length nodes) p.value) node.properties && has_none node.elements))))

fitting_node : (nodes : List Node) (node : Node) → fits nodes node ≡ true → IsLawfulNode nodes node
unfolding fits
fitting_node nodes node e =
    let one = and_parts (prototype_fits nodes node.prototype) _ e in
    let two = and_parts (is_some (chain_from nodes node.prototype)) _ one.1 in
    let three = and_parts (keys_differ node.properties) _ two.1 in
    let four = and_parts (kind_fits node.kind node.properties) _ three.1 in
    let five = and_parts (list_all (λ p. value_fits (length nodes) p.value) node.properties) (has_none node.elements) four.1 in
    let shape = fitting_kind (length nodes) node.kind node.properties four.0 in
    record {
      prototype = fitting_prototype nodes node.kind node.prototype shape.no_scope one.0;
      chain = two.0;
      keys = fitting_keys node.properties three.0;
      element_keys = shape.element_keys;
      values = λ k d within. fitting_value (length nodes) (get_or node.properties k d).value (AllPass-from_list_all (λ p. value_fits (length nodes) p.value) node.properties five.0 k d within);
      elements = subst (AreElements (length nodes) node.kind) (no_elements node.elements five.1) shape.elements;
      native = shape.native;
    }

-- the intrinsics are 62 nodes, and a heap
pub intrinsic_count : length intrinsics ≡ 62
unfolding intrinsics prototypes constructors host_objects
intrinsic_count = refl

all_fit : list_all (fits intrinsics) intrinsics ≡ true
unfolding intrinsics prototypes constructors host_objects digits fits prototype_fits no_scope keys_differ kind_fits native_fits no_element_key value_fits has_none
all_fit = refl

pub lawful_intrinsics : IsLawful intrinsics
lawful_intrinsics = record {
  intrinsics = take_all 62 intrinsics (omega (arith, intrinsic_count));
  each = λ k d within. fitting_node intrinsics (get_or intrinsics k d) (AllPass-from_list_all (fits intrinsics) intrinsics all_fit k d within);
}

all_frozen : list_all (λ node. node.frozen) intrinsics ≡ true
unfolding intrinsics prototypes constructors host_objects
all_frozen = refl

pub frozen_intrinsics : All (λ node. node.frozen ≡ true) intrinsics
frozen_intrinsics = AllPass-from_list_all (λ (node : Node). node.frozen) intrinsics all_frozen

-- a built-in function has this number
has_number : ℕ → Kind → Bool
has_number number kind.Plain = true
has_number number kind.Array = true
has_number number (kind.Function script tree) = true
has_number number (kind.Native own) = own == number
has_number number (kind.Scope scope) = true
has_number number kind.Error = true
has_number number kind.Map = true
has_number number kind.Set = true
has_number number (kind.Resource resource closed) = true

numbers_fit : ℕ → List Node → Bool
numbers_fit number [] = true
numbers_fit number (node ∷ rest) = has_number number node.kind && numbers_fit (number + 1) rest

own_number : (number own : ℕ) (k : Kind) → k ≡ kind.Native own → has_number number k ≡ true → own ≡ number
unfolding has_number
own_number number own k e fits = eqb-true own number (subst (λ (x : Kind). has_number number x ≡ true) e fits)

numbered_from : (number i own : ℕ) (nodes : List Node) (node : Node) → numbers_fit number nodes ≡ true → slice_get nodes i ≡ Some node → node.kind ≡ kind.Native own → own ≡ number + i
unfolding numbers_fit
numbered_from number i own [] node fits e k = absurd cc
numbered_from number zero own (first ∷ rest) node fits e k =
    let same : first ≡ node = cc in
    let parts = and_parts (has_number number first.kind) (numbers_fit (number + 1) rest) fits in
    omega (arith, own_number number own first.kind (ap (λ (x : Node). x.kind) same ∙ k) parts.0)
numbered_from number (suc i) own (first ∷ rest) node fits e k =
    let parts = and_parts (has_number number first.kind) (numbers_fit (number + 1) rest) fits in
    omega (arith, numbered_from (number + 1) i own rest node parts.1 e k)

all_numbered : numbers_fit 0 intrinsics ≡ true
unfolding intrinsics prototypes constructors host_objects numbers_fit has_number
all_numbered = refl

pub numbered_intrinsics : (number own : ℕ) (node : Node) → slice_get intrinsics number ≡ Some node → node.kind ≡ kind.Native own → own ≡ number
numbered_intrinsics number own node e k = omega (arith, numbered_from 0 number own intrinsics node all_numbered e k)

-- none of them is a function of a script or a scope
abbrev pub is_fixed : Kind → Bool
is_fixed kind.Plain = true
is_fixed kind.Array = true
is_fixed (kind.Function script tree) = false
is_fixed (kind.Native native) = true
is_fixed (kind.Scope scope) = false
is_fixed kind.Error = false
is_fixed kind.Map = false
is_fixed kind.Set = false
is_fixed (kind.Resource number closed) = false

all_fixed : list_all (λ node. is_fixed node.kind) intrinsics ≡ true
unfolding intrinsics prototypes constructors host_objects
all_fixed = refl

pub fixed_intrinsics : All (λ node. is_fixed node.kind ≡ true) intrinsics
fixed_intrinsics = AllPass-from_list_all (λ (node : Node). is_fixed node.kind) intrinsics all_fixed

-- A list of nodes is a heap in one way at most.
use Rattle.std.proofs.Common.{◌≡◌, ◌≢◌, ℕ, ◌⊎◌, inl, inr, ⊎_elim, All, AllPairs, pos, negsuc, List, [], ◌∷◌, length, take, Option, None, Some, IsSome, IsSomeAnd, slice_get, refl, sym, ap, ◌∙◌, subst, arith}
use Rattle.std.specs.Coded.{×_prop, Π_prop, Unit-prop, le_prop, Coded-set}
use Rattle.std.specs.Option.{IsSomeAnd-prop}
use mathlib.Core.Path.{path_j', subst⁻¹, subst⁻¹_refl}
use denote.Struct.Props.{props}
use native.Mathlib.Nat.{ℕ_set}
use Rattle.snap_graph.specs.contracts.node.Node as node_row
use Rattle.snap_graph.specs.contracts.value.Value as value_row
use Rattle.snap_graph.specs.declared.kind.Kind.{Kind}
use Rattle.snap_graph.specs.declared.kind.Kind.TheVariants as kind
use Rattle.snap_graph.specs.declared.node.Node.{Node}
use Rattle.snap_graph.specs.declared.value.Value.{Value}
use Rattle.snap_graph.specs.declared.value.Value.TheVariants as value
use Rattle.snap_graph.specs.Lawful.{IsLawful, IsLawfulNode, IsPrototype, AreElements, AreRecords, AreApart, IsElementKey, chain_from, is_scope, record_keys}
use Rattle.snap_graph.specs.Intrinsics.{IsNative, intrinsics}
use Rattle.snap_graph.specs.Values.{IsPlace, IsValue}

Node-set : IsSet Node
Node-set = Coded-set node_row.the_row.coded

Value-set : IsSet Value
Value-set = Coded-set value_row.the_row.coded

⊥-prop : IsProp ⊥
⊥-prop x y = absurd x

-- of two things that exclude each other, one stands in one way at most
apart-prop : {A B : Type 0} → IsProp A → IsProp B → (A → B → ⊥) → IsProp (A ⊎ B)
apart-prop a b apart (inl x) (inl y) = ap inl (a x y)
apart-prop a b apart (inl x) (inr y) = absurd (apart x y)
apart-prop a b apart (inr x) (inl y) = absurd (apart y x)
apart-prop a b apart (inr x) (inr y) = ap inr (b x y)

-- what leads to a proposition and back is one
led-prop : {A B : Type 0} (to : A → B) (from : B → A) → ((x : A) → from (to x) ≡ x) → IsProp B → IsProp A
led-prop to from back b x y = sym (back x) ∙ ap from (b (to x) (to y)) ∙ back y

-- what stands in a place of a list stands there in one way
Found : {A : Type 0} → Option A → (A → Type 0) → Type 0
Found {A} found P = (x : A) × (found ≡ Some x) × P x

found_from : {A : Type 0} (P : A → Type 0) (found : Option A) → IsSomeAnd found P → Found found P
unfolding Found
found_from P None h = absurd h
found_from P (Some x) h = (x, refl, h)

found-prop : {A : Type 0} (P : A → Type 0) → ((x : A) → IsProp (P x)) → (found : Option A) → IsProp (Found found P)
unfolding Found found_from
found-prop {A} P each found = led-prop
    (λ h. subst⁻¹ (λ o. IsSomeAnd o P) h.1 h.2) (found_from P found)
    (λ h. path_j' (λ o e. Path (Found o P) (found_from P o (subst⁻¹ (λ o. IsSomeAnd o P) e h.2)) (h.0, e, h.2)) (ap (λ p. (h.0, refl, p)) (subst⁻¹_refl (λ o. IsSomeAnd o P) {x = Some h.0} h.2)) h.1)
    (IsSomeAnd-prop found P each)

IsValue-prop : (count : ℕ) (value : Value) → IsProp (IsValue count value)
IsValue-prop count value.Undefined = Unit-prop
IsValue-prop count value.Null = Unit-prop
IsValue-prop count (value.Bool b) = Unit-prop
IsValue-prop count (value.Int (pos n)) = le_prop
IsValue-prop count (value.Int (negsuc n)) = le_prop
IsValue-prop count (value.Text text) = Unit-prop
IsValue-prop count (value.Node node) = le_prop
IsValue-prop count value.Empty = ⊥-prop

IsPlace-prop : (count : ℕ) (value : Value) → IsProp (IsPlace count value)
IsPlace-prop count held = apart-prop (Value-set held value.Empty) (IsValue-prop count held) (λ e h. subst (IsValue count) e h)

IsPrototype-prop : (nodes : List Node) (kind : Kind) (value : Value) → IsProp (IsPrototype nodes kind value)
unfolding Found
IsPrototype-prop nodes kind value.Undefined = ⊥-prop
IsPrototype-prop nodes kind value.Null = Unit-prop
IsPrototype-prop nodes kind (value.Bool b) = ⊥-prop
IsPrototype-prop nodes kind (value.Int z) = ⊥-prop
IsPrototype-prop nodes kind (value.Text text) = ⊥-prop
IsPrototype-prop nodes kind (value.Node number) = found-prop (λ node. is_scope node.kind ≡ is_scope kind) (λ node. hlevel props) (slice_get nodes number)
IsPrototype-prop nodes kind value.Empty = ⊥-prop

IsNative-prop : (number : ℕ) → IsProp (IsNative number)
IsNative-prop number = apart-prop (ℕ_set number 1) (apart-prop (×_prop le_prop le_prop) (×_prop le_prop le_prop) (λ a b. omega arith)) (λ e h. ⊎_elim (λ a. omega arith) (λ a. omega arith) h)

AreRecords-prop : (count : ℕ) (elements : List Value) → IsProp (AreRecords count elements)
AreRecords-prop count [] = Unit-prop
AreRecords-prop count (key ∷ []) = ⊥-prop
AreRecords-prop count (key ∷ held ∷ rest) = ×_prop
    (apart-prop (×_prop (Value-set key value.Empty) (Value-set held value.Empty)) (×_prop (IsValue-prop count key) (IsValue-prop count held)) (λ e h. subst (IsValue count) e.0 h.0))
    (AreRecords-prop count rest)

AreApart-prop : (values : List Value) → IsProp (AreApart values)
AreApart-prop values = Π_prop (λ i. Π_prop (λ j. Π_prop (λ d. Π_prop (λ h. Π_prop (λ k. Π_prop (λ e. Value-set _ _))))))

elements-set : IsSet (List Value)
elements-set = hlevel (props, Value-set)

AreElements-prop : (count : ℕ) (kind : Kind) (elements : List Value) → IsProp (AreElements count kind elements)
AreElements-prop count kind.Plain elements = elements-set elements []
AreElements-prop count kind.Array elements = Π_prop (λ k. Π_prop (λ d. Π_prop (λ h. IsValue-prop count _)))
AreElements-prop count (kind.Function script tree) elements = Π_prop (λ k. Π_prop (λ d. Π_prop (λ h. IsValue-prop count _)))
AreElements-prop count (kind.Native native) elements = elements-set elements []
AreElements-prop count (kind.Scope scope) elements = Π_prop (λ k. Π_prop (λ d. Π_prop (λ h. IsPlace-prop count _)))
AreElements-prop count kind.Error elements = elements-set elements []
AreElements-prop count kind.Map elements = ×_prop (AreRecords-prop count elements) (AreApart-prop (record_keys elements))
AreElements-prop count kind.Set elements = ×_prop (Π_prop (λ k. Π_prop (λ d. Π_prop (λ h. IsPlace-prop count _)))) (AreApart-prop elements)
AreElements-prop count (kind.Resource number closed) elements = elements-set elements []

IsLawfulNode-prop : (nodes : List Node) (node : Node) → IsProp (IsLawfulNode nodes node)
IsLawfulNode-prop nodes node x y =
    let prototype_prop = IsPrototype-prop nodes node.kind node.prototype in
    let chain_prop : IsProp (IsSome (chain_from nodes node.prototype)) = hlevel props in
    let keys_prop : IsProp (AllPairs (λ one other. one.key ≢ other.key) node.properties) = Π_prop (λ i. Π_prop (λ j. Π_prop (λ d. Π_prop (λ h. Π_prop (λ k. Π_prop (λ e. ⊥-prop)))))) in
    let element_keys_prop : IsProp (node.kind ≡ kind.Array → All (λ p. IsElementKey p.key → ⊥) node.properties) = Π_prop (λ a. Π_prop (λ k. Π_prop (λ d. Π_prop (λ h. Π_prop (λ e. ⊥-prop))))) in
    let values_prop : IsProp (All (λ p. IsValue (length nodes) p.value) node.properties) = Π_prop (λ k. Π_prop (λ d. Π_prop (λ h. IsValue-prop (length nodes) _))) in
    let elements_prop = AreElements-prop (length nodes) node.kind node.elements in
    let native_prop : IsProp ((number : ℕ) → node.kind ≡ kind.Native number → IsNative number) = Π_prop (λ number. Π_prop (λ e. IsNative-prop number)) in
    λ i. record {
      prototype = prototype_prop x.prototype y.prototype i;
      chain = chain_prop x.chain y.chain i;
      keys = keys_prop x.keys y.keys i;
      element_keys = element_keys_prop x.element_keys y.element_keys i;
      values = values_prop x.values y.values i;
      elements = elements_prop x.elements y.elements i;
      native = native_prop x.native y.native i;
    }

nodes-set : IsSet (List Node)
nodes-set = hlevel (props, Node-set)

pub IsLawful-prop : (nodes : List Node) → IsProp (IsLawful nodes)
IsLawful-prop nodes x y =
    let intrinsics_prop : IsProp (take 62 nodes ≡ intrinsics) = nodes-set _ _ in
    let each_prop : IsProp (All (IsLawfulNode nodes) nodes) = Π_prop (λ k. Π_prop (λ d. Π_prop (λ h. IsLawfulNode-prop nodes _))) in
    λ i. record {
      intrinsics = intrinsics_prop x.intrinsics y.intrinsics i;
      each = each_prop x.each y.each i;
    }

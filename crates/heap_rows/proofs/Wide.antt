-- A plain object of many properties is one node of a heap.
use Rattle.std.proofs.Common.{◌≡◌, ℕ, zero, suc, ◌+◌, ◌/◌, ◌%◌, ◌<◌, ◌≤◌, Bool, true, false, List, [], ◌∷◌, ◌++◌, length, slice_get, Some, refl, ap, subst, ◌∙◌, arith, if◌then◌else◌}
use Rattle.std.specs.List.{AllByRecursion}
use Rattle.std.specs.Str.{bytes_eq as text_eq}
use Rattle.std.proofs.Math.Nat.{div-add-mod}
use Rattle.std.proofs.lemmas.Slice.Eq.{bytes_eq-Decides}
use Rattle.snap_graph.specs.declared.kind.Kind.{Kind}
use Rattle.snap_graph.specs.declared.kind.Kind.TheVariants as kind
use Rattle.snap_graph.specs.declared.node.Node.{Node}
use Rattle.snap_graph.specs.declared.value.Property.{Property}
use Rattle.snap_graph.specs.declared.value.Value.{Value}
use Rattle.snap_graph.specs.declared.value.Value.TheVariants as value
use Rattle.snap_graph.specs.Intrinsics.{IsNative, intrinsics}
use Rattle.snap_graph.specs.Lawful.{IsElementKey, IsLawful, IsPrototype}
use Rattle.snap_graph.specs.Values.{IsValue}
use Rattle.spec_values.specs.Operations.{changed, new_node, put_under, with_own, with_properties}
use Rattle.heap_rows.specs.Wide.{key_of, many, object, property_of, wide}

-- ---- keys

first : List ℕ → ℕ
first [] = 0
first (n ∷ rest) = n

second : List ℕ → ℕ
second [] = 0
second (n ∷ rest) = first rest

apart : (m n : ℕ) → m < n → key_of m ≡ key_of n → ⊥
unfolding first second
apart m n below e =
    let low : m % 65536 ≡ n % 65536 = ap first e in
    let high : m / 65536 ≡ n / 65536 = ap second e in
    let one = div-add-mod m 65536 in
    let other = div-add-mod n 65536 in
    omega (arith, low, high, one, other)

decided : (b : Bool) (one other : List ℕ) → text_eq one other ≡ b → (one ≡ other → ⊥) → text_eq one other ≡ false
decided true one other e differ = absurd (differ ((bytes_eq-Decides one other).0 e))
decided false one other e differ = e

-- ---- properties

Lacks : List ℕ → Property → Type 0
Lacks key property = text_eq property.key key ≡ false

all_last : (P : Property → Type 0) (properties : List Property) (property : Property) → AllByRecursion P properties → P property → AllByRecursion P (properties ++ property ∷ [])
all_last P [] property h last = (last, tt)
all_last P (one ∷ rest) property h last = (h.0, all_last P rest property h.1 last)

lacking : (m n : ℕ) → m ≤ n → AllByRecursion (Lacks (key_of n)) (many m)
unfolding many Lacks
lacking zero n h = tt
lacking (suc m) n h = all_last (Lacks (key_of n)) (many m) (property_of m) (lacking m n (omega arith)) (decided (text_eq (key_of m) (key_of n)) (key_of m) (key_of n) refl (apart m n (omega arith)))

put_last : (key : List ℕ) (held : Value) (properties : List Property) → AllByRecursion (Lacks key) properties → put_under key held properties ≡ properties ++ record { key = key; value = held } ∷ []
unfolding Lacks
put_last key held [] h = refl
put_last key held (property ∷ rest) h =
    ap (λ (b : Bool). if b then record { key = property.key; value = held } ∷ rest else property ∷ put_under key held rest) h.0
    ∙ ap (λ (more : List Property). property ∷ more) (put_last key held rest h.1)

-- one more of the properties that are made
pub many_more : (n : ℕ) (before after : List Property) (property : Property) → before ≡ many n → property ≡ property_of n → after ≡ before ++ property ∷ [] → after ≡ many (n + 1)
unfolding many
many_more n before after property is made e =
    let next : suc n ≡ n + 1 = omega arith in
    e ∙ ap (λ (properties : List Property). properties ++ property ∷ []) is ∙ ap (λ (p : Property). many n ++ p ∷ []) made ∙ ap many next

-- ---- nodes

changed_last : (change : Node → Node) (nodes : List Node) (node : Node) → changed change (nodes ++ node ∷ []) (length nodes) ≡ nodes ++ change node ∷ []
changed_last change [] node = refl
changed_last change (one ∷ rest) node = ap (λ (more : List Node). one ∷ more) (changed_last change rest node)

last_is : (nodes : List Node) (node : Node) → slice_get (nodes ++ node ∷ []) (length nodes) ≡ Some node
last_is [] node = refl
last_is (one ∷ rest) node = last_is rest node

pub wide_is : (n : ℕ) (nodes : List Node) (properties : List Property) (elements : List Value) → nodes ≡ intrinsics → properties ≡ many n → elements ≡ []
    → nodes ++ record { kind = kind.Plain; prototype = value.Null; frozen = false; properties = properties; elements = elements } ∷ [] ≡ wide n
wide_is n nodes properties elements first_are own none =
    ap (λ (before : List Node). before ++ record { kind = kind.Plain; prototype = value.Null; frozen = false; properties = properties; elements = elements } ∷ []) first_are
    ∙ ap (λ (ps : List Property). intrinsics ++ record { kind = kind.Plain; prototype = value.Null; frozen = false; properties = ps; elements = elements } ∷ []) own
    ∙ ap (λ (es : List Value). intrinsics ++ record { kind = kind.Plain; prototype = value.Null; frozen = false; properties = many n; elements = es } ∷ []) none

-- one more property is put
one_more : (n : ℕ) → with_own (wide n) (length intrinsics) (key_of n) value.Null ≡ wide (suc n)
unfolding many
one_more n =
    changed_last (with_properties (put_under (key_of n) value.Null)) intrinsics (object (many n))
    ∙ ap (λ (properties : List Property). intrinsics ++ object properties ∷ []) (put_last (key_of n) value.Null (many n) (lacking n n (omega arith)))

module _ (given : IsLawful intrinsics)
    (making : (nodes : List Node) (own : Kind) (prototype : Value) → IsLawful nodes → IsPrototype nodes own prototype → ((number : ℕ) → own ≡ kind.Native number → IsNative number) → IsLawful (nodes ++ new_node own prototype ∷ []))
    (putting : (nodes : List Node) (number : ℕ) (node : Node) (key : List ℕ) (held : Value) → IsLawful nodes → slice_get nodes number ≡ Some node → node.frozen ≡ false → IsValue (length nodes) held → (node.kind ≡ kind.Array → IsElementKey key → ⊥) → IsLawful (with_own nodes number key held)) where
  pub wide_lawful : (n : ℕ) → IsLawful (wide n)
  unfolding many
  wide_lawful zero = making intrinsics kind.Plain value.Null given tt (λ number e. absurd cc)
  wide_lawful (suc n) =
      subst IsLawful (one_more n) (putting (wide n) (length intrinsics) (object (many n)) (key_of n) value.Null (wide_lawful n) (last_is intrinsics (object (many n))) refl tt (λ e key. absurd cc))

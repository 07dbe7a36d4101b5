-- What a section of the global object denotes.
use Rattle.std.proofs.Common.{◌≡◌, ℕ, All, List, [], ◌∷◌, map, Some, refl, sym, ap, subst, ◌∙◌}
use Rattle.std.specs.List.{slice_get}
use Rattle.std.proofs.lemmas.List.Elements.{All-map, All-weaker}
use Rattle.spec_format.specs.Shapes.{HasKeys}
use Rattle.spec_format.proofs.Shapes.{one_key_list}
use Rattle.snap_graph.specs.declared.value.Property.{Property}
use Rattle.snap_graph.specs.declared.value.Value.{Value}
use Rattle.snap_graph.specs.declared.value.Value.TheVariants.{Undefined, Null, Bool as Truth, Int, Text, Node, Empty}
use Rattle.spec_sections.specs.Properties.{IsGlobalValue, DenotesGlobal}
use Rattle.spec_sections.specs.Texts.{HasText}
use Rattle.spec_sections.proofs.Sections.{same_section}

-- the text of a value that a global object may hold is one of the strings
pub has_text : (strings : List (List ℕ)) (value : Value) → IsGlobalValue strings value → HasText strings value
has_text strings Undefined may = tt
has_text strings Null may = tt
has_text strings (Truth b) may = tt
has_text strings (Int z) may = tt
has_text strings (Text text) may = may
has_text strings (Node node) may = tt
has_text strings Empty may = tt

-- and so are those of the values of properties
pub have_texts : (strings : List (List ℕ)) (properties : List Property) → All (λ p. IsGlobalValue strings p.value) properties → All (HasText strings) (map (λ p. p.value) properties)
have_texts strings properties may =
    let P : Property → Type 0 = λ p. IsGlobalValue strings p.value in
    let Q : Property → Type 0 = λ p. HasText strings p.value in
    All-map (HasText strings) (λ p. p.value) properties (All-weaker P Q (λ p. has_text strings p.value) properties may)

-- a property is its key and its value
same_property : (p q : Property) → Some p.key ≡ Some q.key → p.value ≡ q.value → p ≡ q
same_property p q keys values =
    let key : p.key ≡ q.key = cc in
    let front : List ℕ → Property = λ k. record { key = k; value = p.value } in
    let back : Value → Property = λ v. record { key = q.key; value = v } in
    ap front key ∙ ap back values

-- properties of the same keys and values are the same
same_properties : (one other : List Property) → map (λ p. Some p.key) one ≡ map (λ p. Some p.key) other → map (λ p. p.value) one ≡ map (λ p. p.value) other → one ≡ other
same_properties [] [] keys values = refl
same_properties [] (q ∷ other) keys values = absurd (cc)
same_properties (p ∷ one) [] keys values = absurd (cc)
same_properties (p ∷ one) (q ∷ other) keys values =
    let first = same_property p q (cc) (cc) in
    let rest = same_properties one other (cc) (cc) in
    cc

-- a section denotes one list of properties
pub one_denoted : (strings : List (List ℕ)) (shapes : List (ℕ × ℕ)) (section : List ℕ) (one other : List Property)
    → DenotesGlobal strings shapes section one → DenotesGlobal strings shapes section other → one ≡ other
one_denoted strings shapes section one other d e =
    let values_of : List Property → List Value = λ properties. map (λ p. p.value) properties in
    let same = same_section strings d.shape e.shape (values_of one) (values_of other) (have_texts strings one d.are_properties.values) (have_texts strings other e.are_properties.values) (sym d.bytes ∙ e.bytes) in
    let P : ℕ → Type 0 = λ shape. HasKeys shapes shape d.names in
    let names = one_key_list shapes e.shape d.names e.names (subst P same.0 d.has_keys) e.has_keys in
    same_properties one other (d.are_properties.keys ∙ ap (map (slice_get strings)) names ∙ sym e.are_properties.keys) same.1

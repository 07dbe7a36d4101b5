-- Properties, one behind the other.
use Rattle.std.proofs.Common.{◌≡◌, ℕ, ◌+◌, ◌<◌, ◌≤◌, List, [], ◌∷◌, ◌++◌, Option, Some, length, get_or, take, drop, map, sym, ap, subst, ◌∙◌}
use Rattle.std.specs.List.{flat_map, slice_get}
use Rattle.std.proofs.lemmas.List.{append-nil, append_assoc, drop_more, length-map, map_push, take_all, take_more}
use Rattle.std.proofs.lemmas.List.Concat.{flat_map-append}
use Rattle.std.proofs.lemmas.Option.{slice_get-get_or}
use Rattle.spec_format.specs.Varint.{varint, varint_within}
use Rattle.spec_format.specs.Shapes.{HasKeys}
use Rattle.spec_format.proofs.Shapes.{one_key_list, shape_within}
use Rattle.snap_graph.specs.declared.value.Property.{Property}
use Rattle.snap_graph.specs.declared.value.Value.{Value}
use Rattle.snap_graph.specs.declared.value.Value.TheVariants.{Undefined}
use Rattle.spec_sections.specs.Global.{value_bytes, global_section}
use Rattle.spec_sections.specs.Properties.{AreProperties, DenotesGlobal}
use Rattle.snap_ctxfmt.specs.Reading.{end_bytes, front_bytes}

-- the values of properties
abbrev pub values_of : List Property → List Value
values_of properties = map (λ p. p.value) properties

-- a property for places behind the last
abbrev pub nothing : Property
nothing = record { key = []; value = Undefined }

-- a section is its front, the values and its end
pub section_parts : (strings : List (List ℕ)) (shape : ℕ) (values : List Value) → global_section strings shape values ≡ front_bytes shape ++ (flat_map (value_bytes strings) values ++ end_bytes)
unfolding varint varint_within
section_parts strings shape values = simp append_assoc

-- there are as many properties as names
pub as_many : (strings : List (List ℕ)) (names : List ℕ) (properties : List Property) → AreProperties strings names properties → length properties ≡ length names
as_many strings names properties are =
    let shown : Property → Option (List ℕ) = λ p. Some p.key in
    sym (length-map properties shown) ∙ ap length are.keys ∙ length-map names (slice_get strings)

-- the keys of one property more
pub keys_more : (strings : List (List ℕ)) (names : List ℕ) (i : ℕ) (properties more : List Property) (property : Property)
    → i < length names → get_or names i 0 < length strings → property.key ≡ get_or strings (get_or names i 0) []
    → map (λ p. Some p.key) properties ≡ map (slice_get strings) (take i names) → more ≡ properties ++ property ∷ []
    → map (λ p. Some p.key) more ≡ map (slice_get strings) (take (i + 1) names)
keys_more strings names i properties more property here inside key keys pushed =
    let shown : Property → Option (List ℕ) = λ p. Some p.key in
    let one : Some property.key ≡ slice_get strings (get_or names i 0) = ap Some key ∙ sym (slice_get-get_or strings (get_or names i 0) [] inside) in
    ap (map shown) pushed
    ∙ map_push shown properties property
    ∙ ap (λ w. w ++ Some property.key ∷ []) keys
    ∙ ap (λ x. map (slice_get strings) (take i names) ++ x ∷ []) one
    ∙ sym (ap (map (slice_get strings)) (take_more names i 0 here) ∙ map_push (slice_get strings) (take i names) (get_or names i 0))

-- one property more was read
pub bytes_more : (strings : List (List ℕ)) (whole left next : List ℕ) (properties more : List Property) (property : Property)
    → whole ≡ flat_map (value_bytes strings) (values_of properties) ++ left → left ≡ value_bytes strings property.value ++ next
    → more ≡ properties ++ property ∷ [] → whole ≡ flat_map (value_bytes strings) (values_of more) ++ next
bytes_more strings whole left next properties more property e read pushed =
    let bytes = value_bytes strings in
    let before = flat_map bytes (values_of properties) in
    let one = bytes property.value in
    let after : flat_map bytes (values_of more) ≡ before ++ one =
    ap (λ w. flat_map bytes (values_of w)) pushed
    ∙ ap (flat_map bytes) (map_push (λ p. p.value) properties property)
    ∙ flat_map-append bytes (values_of properties) (property.value ∷ [])
    ∙ ap (λ w. before ++ w) (append-nil one) in
    e ∙ ap (λ w. before ++ w) read ∙ sym (append_assoc before one next) ∙ ap (λ w. w ++ next) (sym after)

-- the properties that are left from a place on
pub bytes_left : (strings : List (List ℕ)) (left : List ℕ) (properties : List Property) (rest : List ℕ) (i : ℕ) → i < length properties
    → left ≡ flat_map (value_bytes strings) (values_of (drop i properties)) ++ rest
    → left ≡ value_bytes strings (get_or properties i nothing).value ++ (flat_map (value_bytes strings) (values_of (drop (i + 1) properties)) ++ rest)
bytes_left strings left properties rest i here e =
    let bytes = value_bytes strings in
    e
    ∙ ap (λ w. flat_map bytes (values_of w) ++ rest) (drop_more properties i nothing here)
    ∙ append_assoc (bytes (get_or properties i nothing).value) (flat_map bytes (values_of (drop (i + 1) properties))) rest

-- all names have a property
pub keys_all : (strings : List (List ℕ)) (names : List ℕ) (i : ℕ) (properties : List Property) → length names ≤ i
    → map (λ p. Some p.key) properties ≡ map (slice_get strings) (take i names) → map (λ p. Some p.key) properties ≡ map (slice_get strings) names
keys_all strings names i properties past keys = keys ∙ ap (map (slice_get strings)) (take_all i names past)

-- a section that denotes properties begins with the number of a shape
pub fronted : (strings : List (List ℕ)) (shapes : List (ℕ × ℕ)) (section : List ℕ) (properties : List Property) → (d : DenotesGlobal strings shapes section properties)
    → (d.shape ≤ length shapes) × (section ≡ front_bytes d.shape ++ (flat_map (value_bytes strings) (values_of properties) ++ end_bytes))
fronted strings shapes section properties d =
    (shape_within shapes d.shape d.names d.has_keys, d.bytes ∙ section_parts strings d.shape (values_of properties))

-- and its properties have the names of the shape that was read
pub named : (strings : List (List ℕ)) (shapes : List (ℕ × ℕ)) (section : List ℕ) (properties : List Property) (shape : ℕ) (names : List ℕ)
    → (d : DenotesGlobal strings shapes section properties) → shape ≡ d.shape → HasKeys shapes shape names → AreProperties strings names properties
named strings shapes section properties shape names d same has =
    let P : ℕ → Type 0 = λ n. HasKeys shapes n names in
    let Q : List ℕ → Type 0 = λ some. AreProperties strings some properties in
    subst Q (one_key_list shapes d.shape d.names names d.has_keys (subst P same has)) d.are_properties

-- parts that were read are a section
pub section_read : (strings : List (List ℕ)) (section l1 l2 : List ℕ) (shape : ℕ) (values : List Value)
    → section ≡ front_bytes shape ++ l1 → l1 ≡ flat_map (value_bytes strings) values ++ l2 → l2 ≡ end_bytes → section ≡ global_section strings shape values
section_read strings section l1 l2 shape values e0 e1 e2 =
    e0
    ∙ ap (λ w. front_bytes shape ++ w) (e1 ∙ ap (λ w. flat_map (value_bytes strings) values ++ w) e2)
    ∙ sym (section_parts strings shape values)

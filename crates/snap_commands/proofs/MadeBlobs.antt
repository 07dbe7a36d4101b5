-- A blob that is made of a script, strings and properties denotes them.
use Rattle.std.proofs.Common.{◌≡◌, ◌≢◌, ℕ, suc, ◌+◌, ◌^◌, ◌<◌, ◌≤◌, All, AllPairs, Contains, List, [], ◌∷◌, ◌++◌, Option, Some, length, get_or, map, refl, sym, ap, subst, ◌∙◌, arith}
use Rattle.std.specs.List.{AllByRecursion, concat, flat_map, position_or_len, slice_get}
use Rattle.std.specs.Str.{bytes_eq}
use Rattle.std.proofs.lemmas.Cmp.{nat_list_eq_equiv}
use Rattle.std.proofs.lemmas.List.{drop_at, get_or-map, length-append, length-map, take_at}
use Rattle.std.proofs.lemmas.List.Elements.{All-cons, All-drop, All-from_recursion, All-map, All-nil, All-take, Contains-get_or, recursion_from_All}
use Rattle.std.proofs.lemmas.List.FromFn.{get_or-map-range_with_len, length-map-range_with_len}
use Rattle.std.proofs.lemmas.List.Sums.{passes_at_first}
use Rattle.std.proofs.lemmas.Map.Views.{Contains-from_any, list_any-from_Contains}
use Rattle.std.proofs.lemmas.Option.{slice_get-get_or}
use Rattle.std.proofs.lemmas.Slice.Eq.{bytes_eq-Decides}
use Rattle.sha2.specs.Sha256.{sha256}
use Rattle.sha2.proofs.Facts256.{length-sha256}
use Rattle.snap_base.specs.declared.limits.TheConstants.{MOST_BLOB_BYTES}
use Rattle.spec_format.specs.Check.{AllHold}
use Rattle.spec_format.specs.Container.{AreSections, container, container_checks, end_entry, magic, payload, section, section_count, section_start, sections_of}
use Rattle.spec_format.specs.Number.{AreBytes, ends_from, spelled32}
use Rattle.spec_format.specs.Shapes.{AreLawful, HasKeys, chain_from}
use Rattle.spec_format.specs.Startup.{AreShort, one_script, startup_bytes}
use Rattle.spec_format.specs.Strings.{AreStrings, node_count, string_list, string_list_checks, strings_of, trailing_check}
use Rattle.spec_format.proofs.Chains.{chain_keys, chain_lawful}
use Rattle.spec_format.proofs.Checks.{AllHold-append}
use Rattle.spec_format.proofs.Containers as containers
use Rattle.spec_format.proofs.Numbers.{length-spelled32}
use Rattle.spec_format.proofs.StringLists as lists
use Rattle.spec_sections.specs.Global.{global_section, text_number}
use Rattle.spec_sections.specs.Properties.{AreProperties, IsGlobalValue, IsSafe}
use Rattle.spec_sections.specs.Texts.{HasText}
use Rattle.spec_sections.proofs.Texts.{number_is, place_inside, same_text}
use Rattle.snap_graph.specs.declared.value.Property.{Property}
use Rattle.snap_graph.specs.declared.value.Value.{Value}
use Rattle.snap_graph.specs.declared.value.Value.TheVariants as value
use Rattle.snap_commands.specs.Denoted.{Denotes}
use Rattle.snap_commands.specs.Properties.{texts_of, value_texts}
use Rattle.snap_commands.specs.Strings.{AreOf}
use Rattle.snap_commands.specs.Plain.{strings_checks}

-- a value that a build stores: integers are safe, and nodes are intrinsics or the global object
abbrev pub IsStored : Value → Type 0
IsStored value.Undefined = Unit {0}
IsStored value.Null = Unit {0}
IsStored (value.Bool b) = Unit {0}
IsStored (value.Int z) = IsSafe z
IsStored (value.Text text) = Unit {0}
IsStored (value.Node node) = node ≤ 62
IsStored value.Empty = ⊥

-- ---- texts among the strings

-- each text is one of the strings
texts_among : (strings texts : List (List ℕ)) → AreOf strings texts → AllByRecursion (Contains strings) texts
texts_among strings texts are =
    recursion_from_All (Contains strings) texts (λ k d lt.
    let text = get_or texts k d in
    Contains-from_any (λ x y. (bytes_eq-Decides x y).0) text strings
    (are text ∙ list_any-from_Contains nat_list_eq_equiv text texts (Contains-get_or texts k d lt)))

-- the texts of a value before others
first_texts : (strings : List (List ℕ)) (v : Value) (rest : List (List ℕ)) → AllByRecursion (Contains strings) (value_texts v ++ rest) → HasText strings v × AllByRecursion (Contains strings) rest
first_texts strings value.Undefined rest h = (tt, h)
first_texts strings value.Null rest h = (tt, h)
first_texts strings (value.Bool b) rest h = (tt, h)
first_texts strings (value.Int z) rest h = (tt, h)
first_texts strings (value.Text text) rest h = h
first_texts strings (value.Node node) rest h = (tt, h)
first_texts strings value.Empty rest h = (tt, h)

-- the key and the text of a property are strings
abbrev IsHeld : List (List ℕ) → Property → Type 0
IsHeld strings p = Contains strings p.key × HasText strings p.value

held_by : (strings : List (List ℕ)) (properties : List Property) → AllByRecursion (Contains strings) (texts_of properties) → AllByRecursion (IsHeld strings) properties
held_by strings [] h = tt
held_by strings (p ∷ ps) h =
    let first = first_texts strings p.value (texts_of ps) h.1 in
    ((h.0, first.0), held_by strings ps first.1)

are_held : (strings : List (List ℕ)) (properties : List Property) → AreOf strings (texts_of properties) → All (IsHeld strings) properties
are_held strings properties are = All-from_recursion (IsHeld strings) properties (held_by strings properties (texts_among strings (texts_of properties) are))

-- the texts that properties hold are strings
pub texts_held : (strings : List (List ℕ)) (properties : List Property) → AreOf strings (texts_of properties) → All (λ p. HasText strings p.value) properties
texts_held strings properties are k d lt = (are_held strings properties are k d lt).1

-- the keys of properties are strings
pub keys_held : (strings : List (List ℕ)) (properties : List Property) → AreOf strings (texts_of properties) → All (λ p. Contains strings p.key) properties
keys_held strings properties are k d lt = (are_held strings properties are k d lt).0

-- ---- numbers of texts

number_below : (strings : List (List ℕ)) (text : List ℕ) → Contains strings text → text_number strings text < length strings
number_below strings text among =
    let inside = place_inside strings text among in
    rw (number_is strings text inside) inside

text_at : (strings : List (List ℕ)) (text : List ℕ) → Contains strings text → slice_get strings (text_number strings text) ≡ Some text
text_at strings text among =
    let place = position_or_len (bytes_eq text) strings in
    let inside = place_inside strings text among in
    let here : text ≡ get_or strings place [] = (bytes_eq-Decides text (get_or strings place [])).0 (passes_at_first (bytes_eq text) strings [] inside) in
    ap (slice_get strings) (number_is strings text inside) ∙ slice_get-get_or strings place [] inside ∙ ap Some (sym here)

-- the numbers of the keys
abbrev names_in : List (List ℕ) → List Property → List ℕ
names_in strings properties = map (λ p. text_number strings p.key) properties

names_below : (strings : List (List ℕ)) (properties : List Property) → All (λ p. Contains strings p.key) properties → All (λ name. name < length strings) (names_in strings properties)
names_below strings properties held =
    All-map (λ name. name < length strings) (λ p. text_number strings p.key) properties (λ k d lt. number_below strings (get_or properties k d).key (held k d lt))

names_apart : (strings : List (List ℕ)) (properties : List Property) → All (λ p. Contains strings p.key) properties → AllPairs (λ one other. one ≢ other) (map (λ p. p.key) properties)
    → AllPairs (λ a b. a ≢ b) (names_in strings properties)
names_apart strings properties held apart i j d lt within same =
    let number : Property → ℕ = λ p. text_number strings p.key in
    let key : Property → List ℕ = λ p. p.key in
    let inside : j < length properties = omega (arith, length-map properties number) in
    let none : Property = record { key = []; value = value.Empty } in
    let one = get_or properties i none in
    let other = get_or properties j none in
    let one_number : get_or (map number properties) i d ≡ number one = get_or-map number properties i none d (omega arith) in
    let other_number : get_or (map number properties) j d ≡ number other = get_or-map number properties j none d inside in
    let one_key : get_or (map key properties) i [] ≡ one.key = get_or-map key properties i none [] (omega arith) in
    let other_key : get_or (map key properties) j [] ≡ other.key = get_or-map key properties j none [] inside in
    let text = same_text strings one.key other.key (held i none (omega arith)) (held j none inside) (sym one_number ∙ same ∙ other_number) in
    apart i j [] lt (omega (arith, length-map properties key)) (one_key ∙ text ∙ sym other_key)

keys_by : (strings : List (List ℕ)) (properties : List Property) → AllByRecursion (λ p. Contains strings p.key) properties → map (λ p. Some p.key) properties ≡ map (slice_get strings) (names_in strings properties)
keys_by strings [] h = refl
keys_by strings (p ∷ ps) h =
    let first : Some p.key ≡ slice_get strings (text_number strings p.key) = sym (text_at strings p.key h.0) in
    let rest = keys_by strings ps h.1 in
    ap (λ (o : Option (List ℕ)). o ∷ map (λ q. Some q.key) ps) first ∙ ap (λ (os : List (Option (List ℕ))). slice_get strings (text_number strings p.key) ∷ os) rest

-- a value that is stored and whose text is a string may be one of a global object
may_hold : (strings : List (List ℕ)) (v : Value) → IsStored v → HasText strings v → IsGlobalValue strings v
may_hold strings value.Undefined stored has = tt
may_hold strings value.Null stored has = tt
may_hold strings (value.Bool b) stored has = tt
may_hold strings (value.Int z) stored has = stored
may_hold strings (value.Text text) stored has = has
may_hold strings (value.Node node) stored has = stored
may_hold strings value.Empty stored has = stored

are_properties : (strings : List (List ℕ)) (properties : List Property) → AreOf strings (texts_of properties) → All (λ p. IsStored p.value) properties → AreProperties strings (names_in strings properties) properties
are_properties strings properties are stored = record {
  keys = keys_by strings properties (recursion_from_All (λ p. Contains strings p.key) properties (keys_held strings properties are));
  values = λ k d lt. may_hold strings (get_or properties k d).value (stored k d lt) (texts_held strings properties are k d lt);
}

-- ---- the chain of shapes

length-chain : (i : ℕ) (names : List ℕ) → length (chain_from i names) ≡ length names
length-chain i [] = refl
length-chain i (name ∷ names) = ap suc (length-chain (i + 1) names)

-- few shapes that are lawful over few strings are numbers of 32 bits
lawful_short : (strings : ℕ) (shapes : List (ℕ × ℕ)) → strings < 2 ^ 32 → length shapes < 2 ^ 32 → AreLawful strings shapes → AreShort shapes
lawful_short strings shapes few_strings few_shapes lawful k d lt =
    let shape = get_or shapes k d in
    let parent = lawful.parents k shape.0 shape.1 (slice_get-get_or shapes k d lt) in
    let name = lawful.names k d lt in
    (omega (arith, parent, lt, few_shapes), omega (arith, name, few_strings))

-- ---- the container

-- what stands behind others
rest_of : (front rest : List ℕ) → AreBytes (front ++ rest) → AreBytes rest
rest_of front rest fits = subst AreBytes (drop_at front rest (length front) refl) (All-drop (λ b. b < 256) (length front) (front ++ rest) fits)

-- what stands before others
front_of : (front rest : List ℕ) → AreBytes (front ++ rest) → AreBytes front
front_of front rest fits = subst AreBytes (take_at front rest (length front) refl) (All-take (λ b. b < 256) (length front) (front ++ rest) fits)

-- pieces of bytes
pieces_fit : (pieces : List (List ℕ)) → AreBytes (concat pieces) → All AreBytes pieces
pieces_fit [] fits = All-nil AreBytes
pieces_fit (piece ∷ pieces) fits = All-cons AreBytes piece pieces (front_of piece (concat pieces) fits) (pieces_fit pieces (rest_of piece (concat pieces) fits))

-- sections whose container is short
container_holds : (sections : List (List ℕ)) → 4 ≤ length sections → length sections ≤ 19 → AreBytes (container 1 sections) → length (container 1 sections) ≤ MOST_BLOB_BYTES → AreSections sections
container_holds sections least most fits short =
    let p = payload sections in
    let f = spelled32 1 in
    let l = spelled32 (48 + length p) in
    let d = sha256 p in
    let ends = spelled32 (length sections) ++ flat_map spelled32 (ends_from (end_entry (length sections)) sections) in
    let eight : length magic ≡ 8 = refl in
    record {
      least = least;
      most = most;
      bytes = pieces_fit sections (rest_of ends (concat sections) (rest_of (magic ++ f ++ l ++ d) p fits));
      fits = omega (arith, short, eight, length-append (magic ++ f ++ l ++ d) p, length-append (magic ++ f ++ l) d, length-append (magic ++ f) l, length-append magic f, length-spelled32 1, length-spelled32 (48 + length p), length-sha256 p);
    }

count_of : (bytes : List ℕ) (sections : List (List ℕ)) → sections_of bytes ≡ sections → section_count bytes ≡ length sections
count_of bytes sections same = sym (length-map-range_with_len (section bytes) 0 (section_count bytes)) ∙ ap length same

section_at : (bytes : List ℕ) (sections : List (List ℕ)) → sections_of bytes ≡ sections → (k : ℕ) → k < length sections → section bytes k ≡ get_or sections k []
section_at bytes sections same k lt =
    sym (get_or-map-range_with_len (section bytes) 0 (section_count bytes) k k [] (omega (arith, count_of bytes sections same)) (omega arith)) ∙ ap (λ all. get_or all k []) same

-- the list of strings of a blob
record HasList (bytes : List ℕ) (strings : List (List ℕ)) : Type 0 where
  checks : AllHold (strings_checks bytes)
  are : strings_of (section bytes 1) ≡ strings
  nodes : node_count (section bytes 1) ≡ 0

list_read : (bytes : List ℕ) (strings : List (List ℕ)) → AreStrings strings → section bytes 1 ≡ string_list strings [] [] → HasList bytes strings
list_read bytes strings holds here =
    let list = string_list strings [] [] in
    let base = section_start bytes 1 in
    let r = lists.read_string_list strings [] [] holds (omega arith) in
    let listed : AllHold (string_list_checks list base) = lists.checks_from list base (lists.checked_read list strings [] [] holds r) in
    let filled : AllHold (trailing_check list base) = (lists.fills_read list strings [] r, tt) in
    record {
      checks = subst (λ (s : List ℕ). AllHold (string_list_checks s base ++ trailing_check s base)) (sym here) (AllHold-append (string_list_checks list base) (trailing_check list base) listed filled);
      are = ap strings_of here ∙ lists.strings_of_read list strings [] [] r;
      nodes = ap node_count here ∙ r.nodes_are;
    }

-- the shapes of a blob: a chain of the keys
abbrev shapes_made : List (List ℕ) → List Property → List (ℕ × ℕ)
shapes_made strings properties = chain_from 0 (names_in strings properties)

-- the sections of a blob
abbrev sections_made : List ℕ → List (List ℕ) → List Property → List (List ℕ)
sections_made source strings properties =
    (0 ∷ []) ∷ string_list strings [] [] ∷ startup_bytes (one_script 0 source (shapes_made strings properties)) ∷ global_section strings (length properties) (map (λ p. p.value) properties) ∷ []

shapes_hold : (strings : List (List ℕ)) (properties : List Property) → AreOf strings (texts_of properties) → AllPairs (λ one other. one ≢ other) (map (λ p. p.key) properties) → AreLawful (length strings) (shapes_made strings properties)
shapes_hold strings properties are apart =
    let held = keys_held strings properties are in
    chain_lawful (length strings) (names_in strings properties) (names_below strings properties held) (names_apart strings properties held apart)

last_has_keys : (strings : List (List ℕ)) (properties : List Property) → HasKeys (shapes_made strings properties) (length properties) (names_in strings properties)
last_has_keys strings properties =
    let names = names_in strings properties in
    subst (λ (n : ℕ). HasKeys (chain_from 0 names) n names) (length-map properties (λ (p : Property). text_number strings p.key)) (chain_keys names)

shapes_few : (strings : List (List ℕ)) (properties : List Property) → length (shapes_made strings properties) ≡ length properties
shapes_few strings properties = length-chain 0 (names_in strings properties) ∙ length-map properties (λ (p : Property). text_number strings p.key)

-- bytes with these sections denote the properties
sections_denote : (bytes source : List ℕ) (strings : List (List ℕ)) (properties : List Property) → AreStrings strings → AreOf strings (texts_of properties)
    → AllPairs (λ one other. one ≢ other) (map (λ p. p.key) properties) → All (λ p. IsStored p.value) properties → length properties < 2 ^ 32
    → AllHold (container_checks bytes) → sections_of bytes ≡ sections_made source strings properties → Denotes bytes source strings properties
sections_denote bytes source strings properties holds are apart stored few checks same =
    let sections = sections_made source strings properties in
    let list = list_read bytes strings holds (section_at bytes sections same 1 (omega arith)) in
    let lawful = shapes_hold strings properties are apart in
    record {
      container = checks;
      plain = record { sections = count_of bytes sections same; externals = section_at bytes sections same 0 (omega arith); nodes = λ long. list.nodes };
      strings_hold = list.checks;
      strings_are = list.are;
      seed = 0;
      seed_fits = omega arith;
      shapes = shapes_made strings properties;
      shapes_fit = lawful_short (length strings) (shapes_made strings properties) holds.few (omega (arith, few, shapes_few strings properties)) lawful;
      startup = section_at bytes sections same 2 (omega arith);
      lawful = lawful;
      context = record {
        shape = length properties;
        names = names_in strings properties;
        has_keys = last_has_keys strings properties;
        are_properties = are_properties strings properties are stored;
        bytes = section_at bytes sections same 3 (omega arith);
      };
    }

-- a container of a script, strings and properties denotes them
pub made_denotes : (source : List ℕ) (properties : List Property) (strings : List (List ℕ)) (bytes : List ℕ) → AreStrings strings → AreOf strings (texts_of properties)
    → AllPairs (λ one other. one ≢ other) (map (λ p. p.key) properties) → All (λ p. IsStored p.value) properties → length properties < 2 ^ 32
    → AreBytes bytes → length bytes ≤ MOST_BLOB_BYTES
    → bytes ≡ container 1 ((0 ∷ []) ∷ string_list strings [] [] ∷ startup_bytes (one_script 0 source (chain_from 0 (map (λ p. text_number strings p.key) properties))) ∷ global_section strings (length properties) (map (λ p. p.value) properties) ∷ [])
    → Denotes bytes source strings properties
made_denotes source properties strings bytes holds are apart stored few fits short made =
    let sections = sections_made source strings properties in
    let sections_hold : AreSections sections =
    container_holds sections (omega arith) (omega arith) (subst AreBytes made fits) (subst (λ (b : List ℕ). length b ≤ MOST_BLOB_BYTES) made short) in
    let read = containers.read_container sections sections_hold in
    let checks = containers.checks_from (container 1 sections) (containers.checked_read (container 1 sections) sections sections_hold read) in
    subst (λ (b : List ℕ). Denotes b source strings properties) (sym made)
    (sections_denote (container 1 sections) source strings properties holds are apart stored few checks (containers.sections_of_read (container 1 sections) sections read))

-- What a build captures is light, and its blob is never too long.
use Rattle.std.proofs.Common.{◌≡◌, ◌≢◌, ℕ, ◌<◌, ◌≤◌, List, [], All, length, map, sym, ap, subst, ◌∙◌, arith}
use Rattle.std.specs.Prelude.{AllPairs, Contains, IfOk, Ok, Result}
use Rattle.std.specs.List.{list_any}
use Rattle.std.specs.Str.{bytes_eq}
use Rattle.std.proofs.lemmas.List.{length-map}
use Rattle.snap_base.specs.declared.limits.TheConstants.{MOST_BLOB_BYTES}
use Rattle.spec_format.specs.Container.{container}
use Rattle.spec_format.specs.Startup.{one_script, startup_bytes}
use Rattle.spec_format.specs.Number.{AreBytes}
use Rattle.spec_format.specs.Strings.{AreStrings, string_list}
use Rattle.spec_sections.specs.Texts.{HasText}
use Rattle.spec_sections.specs.Global.{global_section, text_number}
use Rattle.snap_graph.specs.declared.value.Property.{Property}
use Rattle.snap_commands.specs.Denoted.{IsBuild, LeavesGlobals}
use Rattle.snap_commands.specs.Made.{made_sections, made_shapes}
use Rattle.snap_commands.specs.Properties.{properties_of, texts_of}
use Rattle.snap_commands.specs.Strings.{AreOf, mass}
use Rattle.snap_commands.specs.Thin.{Globals, leaves}
use Rattle.snap_commands.proofs.Chaining.{length_chain}
use Rattle.snap_commands.proofs.FreeNames.{left_apart}
use Rattle.snap_commands.proofs.LeftGlobals.{left_thin, stored_properties}
use Rattle.snap_commands.proofs.MadeBlobs.{IsStored, keys_held, made_denotes, texts_held}
use Rattle.snap_commands.proofs.SectionSizes.{container_short, section_short, startup_short, strings_short}
use Rattle.snap_commands.proofs.Sizes.{captured_fits, script_fits}

-- the texts are light, and the properties few
pub captured_light : (source : List ℕ) (globals : Globals) → LeavesGlobals source globals → (mass (texts_of (properties_of globals)) ≤ 1048776) × (length (properties_of globals) ≤ 1048589)
captured_light source globals h =
    subst (λ (g : Globals). (mass (texts_of (properties_of g)) ≤ 1048776) × (length (properties_of g) ≤ 1048589)) (sym h.left) (captured_fits source h.statements h.thin_source)

-- no key stands twice
pub captured_apart : (source : List ℕ) (globals : Globals) → LeavesGlobals source globals → AllPairs (λ one other. one ≢ other) (map (λ (p : Property). p.key) (properties_of globals))
captured_apart source globals h =
    subst (λ (g : Globals). AllPairs (λ one other. one ≢ other) (map (λ (p : Property). p.key) (properties_of g))) (sym h.left) (left_apart source h.statements h.thin_source)

-- the values can be stored
pub captured_stored : (source : List ℕ) (globals : Globals) → LeavesGlobals source globals → All (λ p. IsStored p.value) (properties_of globals)
captured_stored source globals h =
    subst (λ (g : Globals). All (λ p. IsStored p.value) (properties_of g)) (sym h.left) (stored_properties (leaves h.statements []) (left_thin source h.statements h.thin_source))

-- the blob has a length that a blob may have
pub made_short : (source : List ℕ) (globals : Globals) (strings : List (List ℕ)) → LeavesGlobals source globals → mass strings ≤ mass (texts_of (properties_of globals)) → length (container 1 (made_sections source strings (properties_of globals))) ≤ MOST_BLOB_BYTES
made_short source globals strings h light =
    let properties = properties_of globals in
    let shapes = made_shapes strings properties in
    let small = captured_light source globals h in
    let count : length shapes ≡ length properties = length_chain 0 (map (λ (p : Property). text_number strings p.key) properties) ∙ length-map properties (λ p. text_number strings p.key) in
    omega (
      arith,
      light,
      small.0,
      small.1,
      count,
      (script_fits source h.statements h.thin_source).1,
      length-map properties (λ p. p.value),
      strings_short strings,
      startup_short 0 source shapes,
      section_short strings (length properties) (map (λ p. p.value) properties),
      container_short (string_list strings [] []) (startup_bytes (one_script 0 source shapes)) (global_section strings (length properties) (map (λ p. p.value) properties)),
    )

-- what was made on the way to a blob: the texts, the strings and the properties
pub record OnTheWay (globals : Globals) (texts strings given : List (List ℕ)) (properties : List Property) : Type 0 where
  pub texts_are : texts ≡ texts_of (properties_of globals)
  pub given_is : given ≡ strings
  pub properties_are : properties ≡ properties_of globals
  pub same : AreOf strings texts
  pub light : mass strings ≤ mass texts

exact_strings : (globals : Globals) (texts strings given : List (List ℕ)) (properties : List Property) → OnTheWay globals texts strings given properties → AreOf given (texts_of (properties_of globals))
exact_strings globals texts strings given properties way text =
    ap (λ (xs : List (List ℕ)). list_any (bytes_eq text) xs) way.given_is ∙ way.same text ∙ ap (λ (xs : List (List ℕ)). list_any (bytes_eq text) xs) way.texts_are

pub keys_in : (globals : Globals) (texts strings given : List (List ℕ)) (properties : List Property) → OnTheWay globals texts strings given properties → All (λ p. Contains given p.key) properties
keys_in globals texts strings given properties way =
    subst (λ (ps : List Property). All (λ p. Contains given p.key) ps) (sym way.properties_are) (keys_held given (properties_of globals) (exact_strings globals texts strings given properties way))

pub texts_in : (globals : Globals) (texts strings given : List (List ℕ)) (properties : List Property) → OnTheWay globals texts strings given properties → All (λ p. HasText given p.value) properties
texts_in globals texts strings given properties way =
    subst (λ (ps : List Property). All (λ p. HasText given p.value) ps) (sym way.properties_are) (texts_held given (properties_of globals) (exact_strings globals texts strings given properties way))

-- the sections are those that a build makes
sections_same : (source : List ℕ) (globals : Globals) (texts strings given : List (List ℕ)) (properties : List Property) → OnTheWay globals texts strings given properties → made_sections source given properties ≡ made_sections source strings (properties_of globals)
sections_same source globals texts strings given properties way =
    ap (λ (xs : List (List ℕ)). made_sections source xs properties) way.given_is ∙ ap (made_sections source strings) way.properties_are

-- their blob is never too long
pub never_long : (source : List ℕ) (globals : Globals) (texts strings given : List (List ℕ)) (properties : List Property) (sections : List (List ℕ)) → LeavesGlobals source globals → OnTheWay globals texts strings given properties → sections ≡ made_sections source given properties → MOST_BLOB_BYTES < length (container 1 sections) → ⊥
never_long source globals texts strings given properties sections h way made long =
    omega (arith, long, ap (λ (xs : List (List ℕ)). length (container 1 xs)) (made ∙ sections_same source globals texts strings given properties way), made_short source globals strings h (subst (λ (xs : List (List ℕ)). mass strings ≤ mass xs) way.texts_are way.light))

-- their blob is what a build leaves
pub made_is_build : (source : List ℕ) (globals : Globals) (texts strings given : List (List ℕ)) (properties : List Property) (sections : List (List ℕ)) (bytes : List ℕ) → LeavesGlobals source globals → OnTheWay globals texts strings given properties → AreStrings strings
    → sections ≡ made_sections source given properties → AreBytes bytes → length bytes ≤ MOST_BLOB_BYTES → bytes ≡ container 1 sections → IsBuild bytes source globals
made_is_build source globals texts strings given properties sections bytes h way lawful made are_bytes short is =
    let exact : AreOf strings (texts_of (properties_of globals)) = λ text. way.same text ∙ ap (λ (xs : List (List ℕ)). list_any (bytes_eq text) xs) way.texts_are in
    let whole : bytes ≡ container 1 (made_sections source strings (properties_of globals)) = is ∙ ap (container 1) (made ∙ sections_same source globals texts strings given properties way) in
    record {
      strings = strings;
      denotes = made_denotes source (properties_of globals) strings bytes lawful exact (captured_apart source globals h) (captured_stored source globals h) (omega (arith, (captured_light source globals h).1)) are_bytes short whole;
      exact = exact;
    }

-- what is said of an answer that is Ok
pub if_ok : {T E : Type 0} (P : T → Type 0) (r : Result T E) (x : T) → r ≡ Ok x → IfOk r P → P x
if_ok {T} {E} P r x is h = subst (λ (r : Result T E). IfOk r P) is h

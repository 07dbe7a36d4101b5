-- What the sections of a thin blob have to be, and that they tell one list of globals.
use Rattle.std.proofs.Common.{◌≡◌, ℕ, ◌<◌, ◌≤◌, ◌^◌, true, All, List, Option, Some, None, Result, Ok, Err, length, refl, sym, ap, subst, ◌∙◌, arith}
use Rattle.std.specs.Option.{is_some}
use Rattle.std.specs.Prelude.{IfOk, MatchOption}
use Rattle.std.specs.Global.{Vec}
use Rattle.snap_base.specs.declared.limits.TheConstants.{MOST_BLOB_BYTES}
use Rattle.spec_format.specs.Check.{AllHold}
use Rattle.spec_format.specs.Container.{container_checks, section}
use Rattle.spec_format.specs.Shapes.{AreLawful}
use Rattle.spec_format.specs.Startup.{one_script, startup_bytes}
use Rattle.spec_format.specs.Strings.{AreStrings, strings_of}
use Rattle.spec_sections.specs.Properties.{DenotesGlobal}
use Rattle.spec_sections.proofs.Properties.{one_denoted}
use Rattle.snap_base.specs.declared.NoMemory.{NoMemory}
use Rattle.snap_graph.specs.declared.value.Property.{Property}
use Rattle.snap_commands.specs.declared.kept.Kept.{Kept}
use Rattle.snap_commands.specs.Kept.{AreApart, kept_globals}
use Rattle.snap_commands.specs.Properties.{properties_of}
use Rattle.snap_commands.specs.Thin.{Globals, ThinStatement}
use Rattle.snap_commands.specs.ThinBlob.{IsThin, IsThinGlobal}
use Rattle.snap_commands.specs.ThinParts.{AreThin}
use Rattle.snap_commands.specs.ThinSource.{thin_script}
use Rattle.snap_commands.specs.Plain.{IsPlain, strings_checks}
use Rattle.snap_commands.proofs.KeysApart.{globals_apart, keys_apart}
use Rattle.snap_commands.proofs.OwnFirst.{one_globals}
use Rattle.snap_commands.proofs.Startups.{lawful_short, one_startup, shapes_few}

-- what is known of the script and the shapes of a startup section that is thin
pub record IsThinUnder (strings : List (List ℕ)) (script : List ℕ) (shapes : List (ℕ × ℕ)) (context : List ℕ) (globals : Globals) : Type 0 where
  pub source : is_some (thin_script script) ≡ true
  pub lawful : AreLawful (length strings) shapes
  pub denotes : DenotesGlobal strings shapes context (properties_of globals)

source_is : (o : Option (List ThinStatement)) (statements : List ThinStatement) → o ≡ Some statements → is_some o ≡ true
source_is o statements e = ap is_some e

source_of : (o : Option (List ThinStatement)) → is_some o ≡ true → (statements : List ThinStatement) × (o ≡ Some statements)
source_of None e = absurd cc
source_of (Some statements) e = (statements, refl)

-- a startup section has one script and one list of shapes, so these are those of the thin blob
pub thin_under : (strings : List (List ℕ)) (startup context : List ℕ) (globals : Globals) (seed : ℕ) (script : List ℕ) (shapes : List (ℕ × ℕ)) → startup ≡ startup_bytes (one_script seed script shapes)
    → AreThin strings startup context globals → IsThinUnder strings script shapes context globals
thin_under strings startup context globals seed script shapes e thin =
    let same = one_startup thin.seed seed thin.script script thin.shapes shapes (sym thin.startup_is ∙ e) in
    record {
      source = source_is (thin_script script) thin.statements (ap thin_script (sym same.0) ∙ thin.thin_source);
      lawful = subst (AreLawful (length strings)) same.1 thin.lawful;
      denotes = subst (λ (s : List (ℕ × ℕ)). DenotesGlobal strings s context (properties_of globals)) same.1 thin.denotes;
    }

-- a startup section of fewer than 2 ^ 32 bytes has fewer than 2 ^ 32 shapes
pub few_shapes : (startup : List ℕ) (seed : ℕ) (script : List ℕ) (shapes : List (ℕ × ℕ)) → startup ≡ startup_bytes (one_script seed script shapes) → length startup ≤ MOST_BLOB_BYTES → length shapes < 2 ^ 32
few_shapes startup seed script shapes e short = omega (arith, ap length e, shapes_few seed script shapes)

-- sections with a thin script and such globals are thin
thin_by : (strings : List (List ℕ)) (startup context : List ℕ) (globals : Globals) (seed : ℕ) (script : List ℕ) (shapes : List (ℕ × ℕ)) (properties : List Property) → AreStrings strings → length startup ≤ MOST_BLOB_BYTES → seed < 2 ^ 64
    → startup ≡ startup_bytes (one_script seed script shapes) → is_some (thin_script script) ≡ true → AreLawful (length strings) shapes
    → DenotesGlobal strings shapes context properties → properties ≡ properties_of globals → All IsThinGlobal globals → AreThin strings startup context globals
thin_by strings startup context globals seed script shapes properties are short seed_fits e source lawful denotes same thin =
    let found = source_of (thin_script script) source in
    record {
      seed = seed;
      seed_fits = seed_fits;
      script = script;
      shapes = shapes;
      shapes_fit = lawful_short (length strings) shapes are.few (few_shapes startup seed script shapes e short) lawful;
      startup_is = e;
      lawful = lawful;
      denotes = subst (DenotesGlobal strings shapes context) same denotes;
      statements = found.0;
      thin_source = found.1;
      thin_globals = thin;
    }

abbrev pub FoundBehind : List Property → Option (Vec Kept) → Type 0
FoundBehind properties o = MatchOption o
    ((globals : Globals) → properties ≡ properties_of globals → All IsThinGlobal globals → ⊥)
    (λ list. (properties ≡ properties_of (kept_globals list.items)) × All IsThinGlobal (kept_globals list.items))

abbrev pub FoundThin : List (List ℕ) → List ℕ → List ℕ → Option (Vec Kept) → Type 0
FoundThin strings startup context o = MatchOption o
    ((globals : Globals) → AreThin strings startup context globals → ⊥)
    (λ list. AreThin strings startup context (kept_globals list.items))

-- what is found behind the own properties is what is found in the sections
found_thin : (strings : List (List ℕ)) (startup context : List ℕ) (seed : ℕ) (script : List ℕ) (shapes : List (ℕ × ℕ)) (properties : List Property) (o : Option (Vec Kept)) → AreStrings strings → length startup ≤ MOST_BLOB_BYTES → seed < 2 ^ 64
    → startup ≡ startup_bytes (one_script seed script shapes) → is_some (thin_script script) ≡ true → AreLawful (length strings) shapes
    → DenotesGlobal strings shapes context properties → FoundBehind properties o → FoundThin strings startup context o
found_thin strings startup context seed script shapes properties None are short seed_fits e source lawful denotes none = λ globals thin.
    let under = thin_under strings startup context globals seed script shapes e thin in
    none globals (one_denoted strings shapes context properties (properties_of globals) denotes under.denotes) thin.thin_globals
found_thin strings startup context seed script shapes properties (Some list) are short seed_fits e source lawful denotes found =
    thin_by strings startup context (kept_globals list.items) seed script shapes properties are short seed_fits e source lawful denotes found.0 found.1

pub all_thin : (strings : List (List ℕ)) (startup context : List ℕ) (seed : ℕ) (script : List ℕ) (shapes : List (ℕ × ℕ)) (properties : List Property) (r : Result (Option (Vec Kept)) NoMemory) → AreStrings strings → length startup ≤ MOST_BLOB_BYTES → seed < 2 ^ 64
    → startup ≡ startup_bytes (one_script seed script shapes) → is_some (thin_script script) ≡ true → AreLawful (length strings) shapes
    → DenotesGlobal strings shapes context properties → IfOk r (FoundBehind properties) → IfOk r (FoundThin strings startup context)
all_thin strings startup context seed script shapes properties (Err f) are short seed_fits e source lawful denotes found = tt
all_thin strings startup context seed script shapes properties (Ok o) are short seed_fits e source lawful denotes found =
    found_thin strings startup context seed script shapes properties o are short seed_fits e source lawful denotes found

-- thin sections tell one list of globals
pub one_thin : (strings : List (List ℕ)) (startup context : List ℕ) (one other : Globals) → AreThin strings startup context one → AreThin strings startup context other → one ≡ other
one_thin strings startup context one other thin more =
    let under = thin_under strings startup context other thin.seed thin.script thin.shapes thin.startup_is more in
    one_globals one other (one_denoted strings thin.shapes context (properties_of one) (properties_of other) thin.denotes under.denotes)

-- no name stands twice among their globals
pub thin_apart : (strings : List (List ℕ)) (startup context : List ℕ) (globals : Globals) → AreStrings strings → AreThin strings startup context globals → AreApart globals
thin_apart strings startup context globals are thin = globals_apart globals (keys_apart strings thin.shapes context (properties_of globals) are.ascending thin.lawful thin.denotes)

-- a thin blob has thin sections
pub sections_thin : (bytes : List ℕ) (globals : Globals) → IsThin bytes globals → AreThin (strings_of (section bytes 1)) (section bytes 2) (section bytes 3) globals
sections_thin bytes globals thin =
    let d = thin.denotes in
    let same = sym d.strings_are in
    record {
      seed = d.seed;
      seed_fits = d.seed_fits;
      script = thin.script;
      shapes = d.shapes;
      shapes_fit = d.shapes_fit;
      startup_is = d.startup;
      lawful = subst (λ (s : List (List ℕ)). AreLawful (length s) d.shapes) same d.lawful;
      denotes = subst (λ (s : List (List ℕ)). DenotesGlobal s d.shapes (section bytes 3) (properties_of globals)) same d.context;
      statements = thin.statements;
      thin_source = thin.thin_source;
      thin_globals = thin.thin_globals;
    }

-- and thin sections are those of a thin blob
pub thin_from : (bytes : List ℕ) (globals : Globals) → AllHold (container_checks bytes) → IsPlain bytes → AllHold (strings_checks bytes)
    → AreThin (strings_of (section bytes 1)) (section bytes 2) (section bytes 3) globals → IsThin bytes globals
thin_from bytes globals container plain strings thin = record {
  script = thin.script;
  strings = strings_of (section bytes 1);
  denotes = record {
    container = container;
    plain = plain;
    strings_hold = strings;
    strings_are = refl;
    seed = thin.seed;
    seed_fits = thin.seed_fits;
    shapes = thin.shapes;
    shapes_fit = thin.shapes_fit;
    startup = thin.startup_is;
    lawful = thin.lawful;
    context = thin.denotes;
  };
  statements = thin.statements;
  thin_source = thin.thin_source;
  thin_globals = thin.thin_globals;
}

-- a blob is thin with one list of globals
pub one_thin_blob : (bytes : List ℕ) (one other : Globals) → IsThin bytes one → IsThin bytes other → one ≡ other
one_thin_blob bytes one other thin more = one_thin (strings_of (section bytes 1)) (section bytes 2) (section bytes 3) one other (sections_thin bytes one thin) (sections_thin bytes other more)

-- What `verify` says of the bytes of a blob.
use Rattle.std.specs.Prelude.{◌≡◌, ℕ, ◌⊎◌, List, [], Result, Ok, Err}
use Rattle.spec_format.specs.Check.{AllHold}
use Rattle.spec_format.specs.Container.{container_checks, section}
use Rattle.spec_format.specs.Startup.{startup_bytes}
use Rattle.spec_format.specs.Strings.{string_count}
use Rattle.spec_sections.specs.Global.{global_section}
use Rattle.snap_commands.specs.declared.fault.Fault.{Fault}
use Rattle.snap_commands.specs.declared.fault.Fault.TheVariants as fault
use Rattle.snap_commands.specs.Plain.{IsPlain, IsRefused, strings_checks}
use Rattle.snap_commands.specs.Thin.{Globals}
use Rattle.snap_commands.specs.ThinBlob.{IsOther, IsThin}

-- the startup section of a blob without scripts, functions and shapes, under the hash seed 0
abbrev pub bare_startup : List ℕ
bare_startup = startup_bytes (record { seed = 0; scripts = []; functions = []; shapes = [] })

-- the context section of a global object without properties, which has shape 0, and nothing else
abbrev pub bare_context : List ℕ
bare_context = global_section [] 0 []

-- the blob denotes strings and one context without properties, and has no script
pub record IsBare (bytes : List ℕ) : Type 0 where
  pub container : AllHold (container_checks bytes)
  pub plain : IsPlain bytes
  pub strings_hold : AllHold (strings_checks bytes)
  pub startup : section bytes 2 ≡ bare_startup
  pub context : section bytes 3 ≡ bare_context

-- the blob denotes so many strings: it is bare or thin
pub record HasStrings (bytes : List ℕ) (n : ℕ) : Type 0 where
  pub kind : IsBare bytes ⊎ ((globals : Globals) × IsThin bytes globals)
  pub count : n ≡ string_count (section bytes 1)

-- a container without a fault is that of no bare and of no thin blob
pub record IsNotBuilt (bytes : List ℕ) : Type 0 where
  pub other : IsOther bytes
  pub not_bare : IsBare bytes → ⊥

-- what is said of the bytes: their number of strings, or why there is none
abbrev pub Verifies : List ℕ → Result ℕ Fault → Type 0
Verifies bytes (Ok n) = HasStrings bytes n
Verifies bytes (Err (fault.Blob f)) = IsRefused bytes f
Verifies bytes (Err fault.NotBuilt) = IsNotBuilt bytes
Verifies bytes (Err (fault.Source number refused)) = ⊥
Verifies bytes (Err fault.Words) = ⊥
Verifies bytes (Err fault.Read) = ⊥
Verifies bytes (Err fault.NothingToRun) = ⊥
Verifies bytes (Err fault.Write) = ⊥
Verifies bytes (Err fault.NoMemory) = ⊥

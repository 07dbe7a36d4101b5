-- The parts of a blob that has strings, a startup section and one context, and nothing else.
use Rattle.std.specs.Prelude.{◌≡◌, ◌≢◌, ℕ, ◌≤◌, List, [], ◌∷◌, length}
use Rattle.snap_base.specs.declared.limits.TheConstants.{MOST_BLOB_BYTES}
use Rattle.spec_format.specs.Check.{AllHold}
use Rattle.spec_format.specs.Container.{container_checks, section, section_count}
use Rattle.spec_format.specs.Strings.{AreStrings, node_count, strings_of}
use Rattle.snap_blob.specs.RoStrings.{section_of}
use Rattle.snap_commands.specs.declared.fault.Fault.{Fault}
use Rattle.snap_commands.specs.declared.fault.Fault.TheVariants as fault
use Rattle.snap_commands.specs.declared.parts.Parts.{Parts}
use Rattle.snap_commands.specs.Plain.{IsPlain, IsRefused, strings_checks}
use Rattle.snap_commands.specs.ThinBlob.{HasOthers}

-- the blob has no fault down to its strings, and these parts
pub record HasParts (bytes : List ℕ) (parts : Parts) : Type 0 where
  pub container : AllHold (container_checks bytes)
  pub plain : IsPlain bytes
  pub strings_hold : AllHold (strings_checks bytes)
  pub strings : section_of parts.strings ≡ section bytes 1
  pub lawful : AreStrings (strings_of (section bytes 1))
  pub startup : parts.startup.now ≡ section bytes 2
  pub startup_short : length parts.startup.now ≤ MOST_BLOB_BYTES
  pub context : parts.context.now ≡ section bytes 3
  pub context_short : length parts.context.now ≤ MOST_BLOB_BYTES

-- why a blob has not these parts
abbrev pub HasNoParts : List ℕ → Fault → Type 0
HasNoParts bytes (fault.Blob f) = IsRefused bytes f
HasNoParts bytes fault.NotBuilt = HasOthers bytes
HasNoParts bytes (fault.Source number refused) = ⊥
HasNoParts bytes fault.Words = ⊥
HasNoParts bytes fault.Read = ⊥
HasNoParts bytes fault.NothingToRun = ⊥
HasNoParts bytes fault.Write = ⊥
HasNoParts bytes fault.NoMemory = ⊥

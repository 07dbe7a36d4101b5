-- The blob's first fault, as far as a blob with one context and without externals and read-only nodes goes.
use Rattle.std.specs.Prelude.{◌≡◌, ℕ, ◌≤◌, List, [], ◌∷◌, ◌++◌, length}
use Rattle.spec_format.specs.declared.fault.BlobFault.{BlobFault}
use Rattle.spec_format.specs.Check.{Check, AllHold, FirstFault}
use Rattle.spec_format.specs.Container.{container_checks, section, section_count, section_start}
use Rattle.spec_format.specs.Strings.{node_count, string_list_checks, trailing_check}

-- the read-only section holds strings alone: its checks
abbrev pub strings_checks : List ℕ → List Check
strings_checks bytes =
    string_list_checks (section bytes 1) (section_start bytes 1) ++ trailing_check (section bytes 1) (section_start bytes 1)

-- one context, no externals, and no nodes in the read-only section
pub record IsPlain (bytes : List ℕ) : Type 0 where
  pub sections : section_count bytes ≡ 4
  pub externals : section bytes 0 ≡ 0 ∷ []
  pub nodes : 8 ≤ length (section bytes 1) → node_count (section bytes 1) ≡ 0

-- the blob's first fault: that of its container, or where that has none that of its strings
pub data IsRefused (bytes : List ℕ) (f : BlobFault) : Type 0 where
  AtContainer : FirstFault (container_checks bytes) f → IsRefused bytes f
  AtStrings : AllHold (container_checks bytes) → IsPlain bytes → FirstFault (strings_checks bytes) f → IsRefused bytes f

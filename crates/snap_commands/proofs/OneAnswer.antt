-- A blob comes to one answer.
use Rattle.std.proofs.Common.{◌≡◌, ℕ, List}
use Rattle.spec_format.specs.declared.fault.BlobFault.{BlobFault}
use Rattle.spec_format.specs.Container.{container_checks}
use Rattle.spec_format.proofs.Checks.{no_fault, one_fault}
use Rattle.snap_commands.specs.Plain.{AtContainer, AtStrings, IsRefused, strings_checks}

-- a blob has one first fault
pub refused_once : (bytes : List ℕ) (f g : BlobFault) → IsRefused bytes f → IsRefused bytes g → f ≡ g
refused_once bytes f g (AtContainer p) (AtContainer q) = one_fault (container_checks bytes) f g p q
refused_once bytes f g (AtContainer p) (AtStrings hold plain q) = absurd (no_fault (container_checks bytes) f hold p)
refused_once bytes f g (AtStrings hold plain p) (AtContainer q) = absurd (no_fault (container_checks bytes) g hold q)
refused_once bytes f g (AtStrings hold plain p) (AtStrings hold_too plain_too q) = one_fault (strings_checks bytes) f g p q

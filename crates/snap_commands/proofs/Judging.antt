-- Answers that look at the bytes of a blob.
use Rattle.std.proofs.Common.{◌≡◌, ℕ, ◌<◌, List, Option, Some, None, Result, Ok, Err, length, refl, subst, arith, inl}
use Rattle.std.specs.Prelude.{IfSome}
use Rattle.snap_base.specs.declared.limits.TheConstants.{MOST_BLOB_BYTES}
use Rattle.spec_format.specs.declared.fault.BlobKind.TheVariants.{TooLong}
use Rattle.snap_io.specs.Held.{Held, bytes_under}
use Rattle.snap_commands.specs.declared.fault.Fault.{Fault}
use Rattle.snap_commands.specs.declared.fault.Fault.TheVariants as fault
use Rattle.snap_commands.specs.Coming.{IsBlobVerdict}
use Rattle.snap_commands.specs.Plain.{AtContainer}
use Rattle.snap_commands.specs.Verify.{Verifies}

-- what is said of bytes is a verdict
pub is_verdict : (bytes : List ℕ) (answer : Result ℕ Fault) → Verifies bytes answer → IsBlobVerdict answer
is_verdict bytes (Ok n) h = tt
is_verdict bytes (Err (fault.Blob f)) h = tt
is_verdict bytes (Err fault.NotBuilt) h = tt
is_verdict bytes (Err fault.Words) h = h
is_verdict bytes (Err fault.Read) h = h
is_verdict bytes (Err fault.NothingToRun) h = h
is_verdict bytes (Err (fault.Source number why)) h = h
is_verdict bytes (Err fault.Write) h = h
is_verdict bytes (Err fault.NoMemory) h = h

-- what is said of the bytes that were read is said of those that are held
pub held_verdict : (held : Option Held) (name bytes : List ℕ) (answer : Result ℕ Fault) → IfSome held (λ h. bytes ≡ bytes_under h name) → Verifies bytes answer → IfSome held (λ h. Verifies (bytes_under h name) answer)
held_verdict None name bytes answer same said = tt
held_verdict (Some h) name bytes answer same said = subst (λ (b : List ℕ). Verifies b answer) same said

-- more bytes than a blob has are refused as too long
pub held_too_long : (held : Option Held) (name : List ℕ) → IfSome held (λ h. MOST_BLOB_BYTES < length (bytes_under h name)) → IfSome held (λ h. Verifies (bytes_under h name) (Err (fault.Blob record { kind = TooLong; at = MOST_BLOB_BYTES })))
held_too_long None name long = tt
held_too_long (Some h) name long = AtContainer (inl (λ short. absurd (omega arith), refl))

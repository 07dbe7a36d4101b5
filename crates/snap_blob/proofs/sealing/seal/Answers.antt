use Rattle.std.proofs.Common.{arith}
use Rattle.snap_blob.specs.Sections.{lists_of}
use Rattle.snap_blob.proofs.Sealed.{length-container}
use Rattle.snap_blob.proofs.sealing.seal.Goals as goal

pub returns-in_err-len-clause-too_long : goal.returns-in_err-len-clause-too_long
returns-in_err-len-clause-too_long c =
    λ _. omega (arith, length-container c.args.format (lists_of c.args.sections.now), c.in_err-len.ensures.err)

pub returns-in-Err-clause-always_too_long : goal.returns-in-Err-clause-always_too_long
returns-in-Err-clause-always_too_long c =
    λ long. absurd (omega (arith, long, length-container c.args.format (lists_of c.args.sections.now), c.in_ok-len.ensures.ok.0, c.in_ok-len.ensures.ok.1))

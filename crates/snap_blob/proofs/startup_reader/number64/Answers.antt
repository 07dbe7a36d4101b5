use Rattle.std.proofs.Common.{arith}
use Rattle.snap_blob.proofs.Parts.{spelled64_number}
use Rattle.snap_blob.proofs.startup_reader.number64.Goals as goal

pub returns : goal.returns
returns c = spelled64_number c.args.bytes.now _ c.requires (λ i. omega (arith, c.type_inv.bytes i)) c.read_u64.ensures

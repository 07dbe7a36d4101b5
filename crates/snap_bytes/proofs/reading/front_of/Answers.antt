use Rattle.std.proofs.Common.{refl}
use Rattle.snap_bytes.proofs.Ends.{bad_front}
use Rattle.snap_bytes.proofs.reading.front_of.Goals as goal

pub returns-in-None-clause-fault : goal.returns-in-None-clause-fault
returns-in-None-clause-fault c =
    let found = c.in-Some-last_byte.ensures.found in
    (bad_front c.args.bytes.now c.in-Some-last_byte.last found.0 found.1 (rw c.split_at.ensures.front at c.in-None.ensures.none), refl)

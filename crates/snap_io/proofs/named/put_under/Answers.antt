use Rattle.std.proofs.Common.{arith}
use Rattle.std.proofs.lemmas.Grind.{common_steps}
use Rattle.snap_io.proofs.Lookups.{Writes-set, Writes-push}
use Rattle.snap_io.proofs.named.put_under.Goals as goal

pub returns-in-Some-clause-ok : goal.returns-in-Some-clause-ok
returns-in-Some-clause-ok c =
    let found = rw c.deref.ensures.value at c.in-Some.ensures.found in
    Writes-set c.args.name.now c.args.bytes.now c.args.files.now.items c.in-Some.place _ found (grind (arith, common_steps)) c.in_ok-bytes.ensures.items

pub returns-in_ok-push-in-None-clause-ok : goal.returns-in_ok-push-in-None-clause-ok
returns-in_ok-push-in-None-clause-ok c =
    let lacks = rw c.deref.ensures.value at c.in-None.ensures.none in
    rw c.in_ok-push-in-None.ensures.items
    (Writes-push c.args.name.now c.args.bytes.now c.args.files.now.items _ lacks c.in_ok-name-in-None.ensures.ok c.in_ok-bytes.ensures.items)

use Rattle.std.proofs.Common.{◌≡◌, ap, sym, subst, Err, List, ℕ}
use Rattle.std.specs.Prelude.{IfSome}
use Rattle.snap_io.specs.Held.{bytes_under}
use Rattle.snap_commands.specs.Line.{blob_name}
use Rattle.snap_commands.specs.Making.{Found}
use Rattle.snap_commands.proofs.Judging.{held_too_long}
use Rattle.snap_commands.proofs.RunsOn.{found_read}
use Rattle.snap_commands.proofs.running.find.Goals as goal

pub returns-in-Ok-clause-finds : goal.returns-in-Ok-clause-finds
returns-in-Ok-clause-finds g c =
    let read = subst (λ (bytes : List ℕ). IfSome (g.F.Files.held c.args.files.now) (λ h. bytes ≡ bytes_under h blob_name)) (sym c.deref.ensures.value) c.in-Ok.ensures.bytes in
    found_read _ c.deref.result.now c.load.result read c.load.ensures.loads c.in-Ok.ensures.held (record { reads = c.in-Ok.ensures.count; writes = c.in-Ok.ensures.other_count })

pub returns-in-Err-TooLong-clause-finds : goal.returns-in-Err-TooLong-clause-finds
returns-in-Err-TooLong-clause-finds g c =
    let count = rw c.in-Err-TooLong.field-0-is at c.in-Err-TooLong.ensures.count in
    Found tt (held_too_long (g.F.Files.held c.args.files.now) blob_name (c.in-Err-TooLong.ensures.too_long (ap Err c.in-Err-TooLong.field-0-is))) c.in-Err-TooLong.ensures.held (record { reads = count; writes = c.in-Err-TooLong.ensures.other_count })

use Rattle.std.proofs.Common.{refl, ap, Err}
use Rattle.snap_commands.specs.Making.{Fetched, TooLong}
use Rattle.snap_commands.proofs.building.fetch.Goals as goal

pub returns-in-Ok : goal.returns-in-Ok
returns-in-Ok g c = Fetched c.in-Ok.bytes refl c.in-Ok.ensures.bytes c.in-Ok.ensures.held (record { reads = c.in-Ok.ensures.count; writes = c.in-Ok.ensures.other_count })

pub returns-in-Err-TooLong : goal.returns-in-Err-TooLong
returns-in-Err-TooLong g c =
    let count = rw c.in-Err-TooLong.field-0-is at c.in-Err-TooLong.ensures.count in
    TooLong refl (c.in-Err-TooLong.ensures.too_long (ap Err c.in-Err-TooLong.field-0-is)) c.in-Err-TooLong.ensures.held (record { reads = count; writes = c.in-Err-TooLong.ensures.other_count })

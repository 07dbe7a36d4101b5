use Rattle.std.proofs.Common.{◌≡◌, ◌-◌}
use Rattle.snap_cursor.specs.Past.{past}
use Rattle.snap_cursor.proofs.cursor.Cursor.skip_all.Given as goal

-- so many are still to be taken
abbrev pub invariant-loop-taken : goal.invariant-loop-taken
invariant-loop-taken l = past l.count l.fn.self ≡ past (l.count - l._taken) l.self

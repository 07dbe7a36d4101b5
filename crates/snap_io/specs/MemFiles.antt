-- What files in memory show.
use Rattle.std.specs.Prelude.{ℕ}
use Rattle.snap_io.specs.Held.{Held}
use Rattle.snap_io.specs.NamedFile.{held_by}
use Rattle.snap_io.specs.declared.plan.FaultPlan.{FaultPlan}
use Rattle.snap_io.specs.declared.mem_files.MemFiles.{MemFiles}

-- what they hold
abbrev pub mem_held : MemFiles → Held
mem_held files = held_by files.files.items

-- which of their calls fail
abbrev pub mem_plan : MemFiles → FaultPlan
mem_plan files = files.plan

-- how often a read failed
abbrev pub mem_read_faults : MemFiles → ℕ
mem_read_faults files = files.read_faults

-- how often a write failed
abbrev pub mem_write_faults : MemFiles → ℕ
mem_write_faults files = files.write_faults

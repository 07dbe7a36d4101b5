-- What real files show.
use Rattle.std.specs.Prelude.{ℕ}
use Rattle.snap_io.specs.declared.os_files.OsFiles.{OsFiles}

-- how often a read failed
abbrev pub os_read_faults : {R : Type 0} → OsFiles R → ℕ
os_read_faults files = files.read_faults

-- how often a write failed
abbrev pub os_write_faults : {R : Type 0} → OsFiles R → ℕ
os_write_faults files = files.write_faults

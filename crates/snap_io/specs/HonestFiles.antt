-- What files that never fail show.
use Rattle.snap_io.specs.Held.{Held}
use Rattle.snap_io.specs.NamedFile.{held_by}
use Rattle.snap_io.specs.declared.honest_files.HonestFiles.{HonestFiles}

-- what they hold
abbrev pub honest_held : HonestFiles → Held
honest_held files = held_by files.files.items

-- Views of texts in memory that somebody else keeps.
use Rattle.std.specs.Prelude.{ℕ, List}
use Rattle.snap_arena.specs.declared.view.TextView.{TextView}
use Rattle.snap_arena.specs.declared.view.TextView.TheVariants.{Narrow, Wide}

-- the code units of a view
abbrev pub units : TextView → List ℕ
units (Narrow bytes) = bytes.now
units (Wide wide) = wide.now

-- What a sink that never fails shows.
use Rattle.std.specs.Prelude.{ℕ, List}
use Rattle.snap_io.specs.declared.honest_sink.HonestSink.{HonestSink}

-- the bytes written so far
abbrev pub honest_written : HonestSink → List ℕ
honest_written sink = sink.bytes.items

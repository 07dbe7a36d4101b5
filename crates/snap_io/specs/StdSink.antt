-- What a sink over a writer shows.
use Rattle.std.specs.Prelude.{ℕ}
use Rattle.snap_io.specs.declared.std_sink.StdSink.{StdSink}

-- the writer
abbrev pub std_sink_writer : {W : Type 0} → StdSink W → W
std_sink_writer sink = sink.writer

-- how often a call failed
abbrev pub std_sink_faults : {W : Type 0} → StdSink W → ℕ
std_sink_faults sink = sink.faults

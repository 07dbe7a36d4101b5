-- What a sink in memory shows.
use Rattle.std.specs.Prelude.{ℕ, List}
use Rattle.snap_io.specs.declared.plan.FaultPlan.{FaultPlan}
use Rattle.snap_io.specs.declared.mem_sink.MemSink.{MemSink}

-- the bytes written so far
abbrev pub mem_written : MemSink → List ℕ
mem_written sink = sink.bytes.items

-- which of its calls fail
abbrev pub mem_sink_plan : MemSink → FaultPlan
mem_sink_plan sink = sink.plan

-- how often a call failed
abbrev pub mem_sink_faults : MemSink → ℕ
mem_sink_faults sink = sink.faults

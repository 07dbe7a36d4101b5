-- How a message is told: by one piece to the sink, which may fail or find no memory.
use Rattle.std.specs.Prelude.{◌≡◌, ◌≢◌, ℕ, ◌≤◌, List, Option, Some}
use Rattle.snap_io.specs.Counts.{HasRisen}
use Rattle.snap_io.specs.Written.{AppendsInPart, appended}
use Rattle.snap_commands.specs.declared.fault.Fault.{Fault}
use Rattle.snap_commands.specs.declared.fault.Fault.TheVariants.{NoMemory, Write}
use Rattle.snap_commands.specs.Coming.{Message}

-- what the sink has written and how often it failed, before and after
pub record Sunk : Type 0 where
  pub before : Option (List ℕ)
  pub after : Option (List ℕ)
  pub faults_before : ℕ
  pub faults_after : ℕ

-- the message was told to the sink, with this fault in the end
pub data Tells (said : Message) (fault : Option Fault) (sink : Sunk) : Type 0 where
  Whole : fault ≡ said.fault → sink.after ≡ appended sink.before said.text → sink.faults_after ≡ sink.faults_before → Tells said fault sink
  InPart : said.fault ≢ Some NoMemory → fault ≡ Some Write → AppendsInPart said.text sink.before sink.after → HasRisen sink.faults_before sink.faults_after → sink.faults_before ≤ sink.faults_after → Tells said fault sink
  Untold : fault ≡ Some NoMemory → sink.after ≡ sink.before → sink.faults_after ≡ sink.faults_before → Tells said fault sink

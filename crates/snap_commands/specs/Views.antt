-- What the program's own types stand for, without the places of names and texts in memory.
use Rattle.std.specs.Option.{option_map}
use Rattle.snap_commands.specs.Coming.{Message}
use Rattle.snap_commands.specs.Words as words
use Rattle.snap_commands.specs.declared.said.Said.{Said}
use Rattle.snap_commands.specs.declared.words.Job.{Job}
use Rattle.snap_commands.specs.declared.words.Job.TheVariants as job

-- a job
abbrev pub job_view : Job → words.Job
job_view (job.Build source) = words.Build source.now
job_view (job.Run entry) = words.Run (option_map (λ name. name.now) entry)
job_view (job.Verify blob) = words.Verify blob.now

-- a message
abbrev pub message_view : Said → Message
message_view said = record { text = said.text.items; fault = said.fault }

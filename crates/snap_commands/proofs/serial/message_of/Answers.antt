use Rattle.std.proofs.Common.{Some, ap}
use Rattle.snap_commands.specs.Views.{job_view}
use Rattle.snap_commands.proofs.Builds.{comes_as, comes_counted}
use Rattle.snap_commands.proofs.serial.message_of.Goals as goal

pub returns-in-Build : goal.returns-in-Build
returns-in-Build g c = comes_as _ _ _ _ (ap (λ j. Some (job_view j)) c.in-Build.is) c.build.ensures

pub returns-in-Run : goal.returns-in-Run
returns-in-Run g c = comes_as _ _ _ _ (ap (λ j. Some (job_view j)) c.in-Run.is) c.run.ensures

pub returns-in-Verify : goal.returns-in-Verify
returns-in-Verify g c =
    comes_as _ _ _ _ (ap (λ j. Some (job_view j)) c.in-Verify.is) (comes_counted c.in-Verify.blob.now _ c.count_of-count.result _ c.count_of-count.ensures c.counted.ensures)

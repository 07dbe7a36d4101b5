use Rattle.std.proofs.Common.{Some, ap}
use Rattle.std.specs.Option.{option_map}
use Rattle.snap_commands.specs.Kept.{kept_globals}
use Rattle.snap_commands.specs.Words.{Run}
use Rattle.snap_commands.proofs.Builds.{comes_as}
use Rattle.snap_commands.proofs.RunsOn.{comes_nothing, comes_run, comes_unfound, has_found}
use Rattle.snap_commands.proofs.running.run.Goals as goal

-- src/running.rt:37:23
pub returns-in-Err : goal.returns-in-Err
returns-in-Err g c = comes_unfound _ _ c.in-Err.fault _ c.in-Err.ensures.finds c.refused.ensures

-- src/running.rt:34:1
pub returns-in-Some : goal.returns-in-Some
returns-in-Some g c =
    let globals = kept_globals c.in-Ok.loaded.globals.items in
    comes_as _ _ _ _ (ap (λ entry. Some (Run (option_map (λ name. name.now) entry))) c.in-Some.is)
    (comes_run c.in-Some.entry.now globals (g.F.Files.held c.args.files.now) (g.F.Files.held c.find.new.files) (g.F.Files.held c.run_entry.new.files)
    (g.F.Files.read_faults c.args.files.now) (g.F.Files.read_faults c.find.new.files) (g.F.Files.read_faults c.run_entry.new.files) (g.F.Files.write_faults c.args.files.now) (g.F.Files.write_faults c.find.new.files) (g.F.Files.write_faults c.run_entry.new.files) _
    (has_found _ globals c.in-Ok.ensures.finds) c.run_entry.ensures)

-- src/running.rt:29:1
pub returns : goal.returns
returns g c =
    let globals = kept_globals c.in-Ok.loaded.globals.items in
    comes_as _ _ _ _ (ap (λ entry. Some (Run (option_map (λ name. name.now) entry))) c.in-None.is) (comes_nothing _ globals _ (has_found _ globals c.in-Ok.ensures.finds) c.refused-in-None.ensures)

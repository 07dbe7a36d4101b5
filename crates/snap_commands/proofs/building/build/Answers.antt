use Rattle.std.proofs.Common.{ap, refl, subst, sym, ◌∙◌, List, ℕ, []}
use Rattle.snap_commands.specs.Answers.{ran, source_number}
use Rattle.snap_commands.specs.Making.{IsMade}
use Rattle.snap_commands.specs.Views.{message_view}
use Rattle.snap_commands.proofs.Builds.{comes_put, comes_unfetched, comes_unmade, has_fetched}
use Rattle.snap_commands.proofs.building.build.Goals as goal

pub returns-in-Err : goal.returns-in-Err
returns-in-Err g c = comes_unfetched c.args.source.now _ c.in-Err.fault (message_view c.refused.result) c.in-Err.ensures c.refused.ensures

pub returns-in-Ok-make : goal.returns-in-Ok-make
returns-in-Ok-make g c =
    let made = c.in-Ok-make.made in
    comes_put c.args.source.now c.in-Ok.bytes.items made.printed.items made.blob.items (g.F.Files.held c.args.files.now) (g.F.Files.held c.fetch.new.files) (g.F.Files.held c.put.new.files)
    (g.F.Files.read_faults c.args.files.now) (g.F.Files.read_faults c.fetch.new.files) (g.F.Files.read_faults c.put.new.files) (g.F.Files.write_faults c.args.files.now) (g.F.Files.write_faults c.fetch.new.files) (g.F.Files.write_faults c.put.new.files)
    (message_view c.put.result) (has_fetched _ c.args.source.now _ c.in-Ok.bytes c.in-Ok.ensures) (subst (λ (xs : List ℕ). IsMade xs made.printed.items made.blob.items) c.deref.ensures.value c.in-Ok-make.ensures.ok) c.put.ensures

pub returns : goal.returns
returns g c =
    comes_unmade c.args.source.now _ c.in-Ok.bytes.items c.in-Err-make.fault (message_view c.refused-in-Err-make.result) (has_fetched _ c.args.source.now _ c.in-Ok.bytes c.in-Ok.ensures)
    (λ fed. ap (λ (xs : List ℕ). ran source_number xs []) (sym c.deref.ensures.value) ∙ c.in-Err-make.ensures.refused c.in-Err-make.fault refl fed) c.refused-in-Err-make.ensures

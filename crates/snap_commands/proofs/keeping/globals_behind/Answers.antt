use Rattle.std.proofs.Common.{rules, ◌≡◌, ◌++◌}
use Rattle.snap_commands.specs.Properties.{own_properties}
use Rattle.snap_commands.proofs.OwnFirst.{all_behind}
use Rattle.snap_commands.proofs.keeping.globals_behind.Goals as goal

pub returns : goal.returns
returns c =
    let properties = c.args.properties.now in
    let front = c.split_at.result.0.now in
    let rest = c.split_at.result.1.now in
    let whole : properties ≡ front ++ rest = search rules in
    let own : front ≡ own_properties = search rules in
    all_behind properties front rest c.globals_of_all.result whole own c.globals_of_all.ensures

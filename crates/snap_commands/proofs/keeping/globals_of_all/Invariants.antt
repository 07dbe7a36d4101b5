use Rattle.std.proofs.Common.{◌≡◌, map, All}
use Rattle.std.specs.Prelude.{take}
use Rattle.snap_commands.specs.Kept.{IsThinProperty, global_of, kept_globals}
use Rattle.snap_commands.proofs.keeping.globals_of_all.Given as goal

abbrev pub invariant-loop-property : goal.invariant-loop-property
invariant-loop-property l = record {
  same : kept_globals l.list.items ≡ map global_of (take l.property-index l.properties);
  thin : All IsThinProperty (take l.property-index l.properties);
}

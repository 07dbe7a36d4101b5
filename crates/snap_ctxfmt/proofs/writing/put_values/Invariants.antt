use Rattle.std.proofs.Common.{◌≡◌, ◌++◌, map, take}
use Rattle.std.specs.List.{flat_map}
use Rattle.spec_sections.specs.Global.{value_bytes}
use Rattle.snap_ctxfmt.proofs.writing.put_values.Given as goal

abbrev pub invariant-loop-property : goal.invariant-loop-property
invariant-loop-property l =
    l.out.items ≡ l.fn.out.items ++ flat_map (value_bytes l.strings) (map (λ p. p.value) (take l.property-index l.properties))

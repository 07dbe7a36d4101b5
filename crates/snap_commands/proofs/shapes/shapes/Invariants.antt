use Rattle.std.proofs.Common.{◌≡◌, map, length}
use Rattle.std.specs.Prelude.{take}
use Rattle.spec_format.specs.Shapes.{chain_from}
use Rattle.spec_sections.specs.Global.{text_number}
use Rattle.snap_blob.specs.Steps.{pair_of}
use Rattle.snap_commands.proofs.shapes.shapes.Given as goal

abbrev pub invariant-loop-property : goal.invariant-loop-property
invariant-loop-property l = record {
  chain : map pair_of l.list.items ≡ chain_from 0 (map (λ p. text_number l.strings p.key) (take l.property-index l.properties));
  count : length l.list.items ≡ l.property-index;
}

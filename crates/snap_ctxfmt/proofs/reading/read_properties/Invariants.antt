use Rattle.std.proofs.Common.{◌≡◌, ℕ, All, List, ◌++◌, Some, drop, map, take}
use Rattle.std.specs.List.{flat_map, slice_get}
use Rattle.snap_graph.specs.declared.value.Property.{Property}
use Rattle.spec_sections.specs.Global.{value_bytes}
use Rattle.spec_sections.specs.Properties.{AreProperties, IsGlobalValue}
use Rattle.snap_ctxfmt.proofs.Properties.{values_of}
use Rattle.snap_ctxfmt.proofs.reading.read_properties.Given as goal

abbrev pub invariant-loop-name : goal.invariant-loop-name
invariant-loop-name l =
    record {
      keys : map (λ p. Some p.key) l.properties.items ≡ map (slice_get l.strings) (take l.name-index l.names);
      values : All (λ p. IsGlobalValue l.strings p.value) l.properties.items;
      read : l.fn.cursor.left ≡ flat_map (value_bytes l.strings) (values_of l.properties.items) ++ l.cursor.left;
      only : (properties : List Property) (rest : List ℕ) → AreProperties l.strings l.names properties
          → l.fn.cursor.left ≡ flat_map (value_bytes l.strings) (values_of properties) ++ rest
          → l.cursor.left ≡ flat_map (value_bytes l.strings) (values_of (drop l.name-index properties)) ++ rest;
    }

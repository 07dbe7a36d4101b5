-- The section of the global object, piece after piece.
use Rattle.std.proofs.Common.{◌≡◌, ℕ, List, [], ◌∷◌, ◌++◌, append_assoc}
use Rattle.std.specs.List.{flat_map}
use Rattle.spec_format.specs.Varint.{varint, varint_within}
use Rattle.snap_graph.specs.declared.value.Value.{Value}
use Rattle.spec_sections.specs.Global.{value_bytes, global_section}

-- four pieces, each behind the ones before, are the section
pub pieces : (strings : List (List ℕ)) (shape : ℕ) (values : List Value) (none head counted valued whole : List ℕ)
    → none ≡ [] → head ≡ none ++ (0x01 ∷ 0x09 ∷ 0x10 ∷ 0x00 ∷ 0x07 ∷ 0x00 ∷ 0x20 ∷ []) → counted ≡ head ++ varint shape
    → valued ≡ counted ++ flat_map (value_bytes strings) values → whole ≡ valued ++ (0x00 ∷ 0x00 ∷ 0x00 ∷ 0x00 ∷ []) → whole ≡ global_section strings shape values
unfolding varint varint_within
pieces strings shape values none head counted valued whole e f g h i = rw (i, h, g, f, e) (simp append_assoc)

-- Sections of the global object.
use Rattle.std.proofs.Common.{◌≡◌, ℕ, List, [], ◌∷◌, ◌++◌, All, append_assoc}
use Rattle.std.specs.List.{flat_map}
use Rattle.spec_format.specs.Varint.{varint}
use Rattle.snap_graph.specs.declared.value.Value.{Value}
use Rattle.spec_sections.specs.Global.{value_bytes, global_section}
use Rattle.spec_sections.specs.Texts.{HasText}
use Rattle.spec_sections.proofs.Values.{same_values}
use Rattle.spec_sections.proofs.Varints.{same_varint, varint_of_0, varint_of_1}

-- what stands behind the values
end : List ℕ
end = 0x00 ∷ 0x00 ∷ 0x00 ∷ 0x00 ∷ []

-- a section from its front to its back
section_is : (strings : List (List ℕ)) (shape : ℕ) (values : List Value)
    → global_section strings shape values ≡ 0x01 ∷ 0x09 ∷ 0x10 ∷ 0x00 ∷ 0x07 ∷ 0x00 ∷ 0x20 ∷ (varint shape ++ (flat_map (value_bytes strings) values ++ end))
unfolding end
section_is strings shape values = rw (varint_of_0, varint_of_1) (simp append_assoc)

-- sections that are the same bytes have one shape and the same values
pub same_section : (strings : List (List ℕ)) (shape other_shape : ℕ) (values other_values : List Value) → All (HasText strings) values → All (HasText strings) other_values
    → global_section strings shape values ≡ global_section strings other_shape other_values → (shape ≡ other_shape) × (values ≡ other_values)
same_section strings shape other_shape values other_values p q e =
    let whole = rw (section_is strings shape values, section_is strings other_shape other_values) at e in
    let front = same_varint shape other_shape (flat_map (value_bytes strings) values ++ end) (flat_map (value_bytes strings) other_values ++ end) (cc) in
    (front.0, same_values strings values other_values end p q front.1)

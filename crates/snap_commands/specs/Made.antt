-- The sections of the blob that a build makes.
use Rattle.std.specs.Prelude.{ℕ, List, [], ◌∷◌, length, map}
use Rattle.snap_graph.specs.declared.value.Property.{Property}
use Rattle.spec_format.specs.Shapes.{chain_from}
use Rattle.spec_format.specs.Startup.{one_script, startup_bytes}
use Rattle.spec_format.specs.Strings.{string_list}
use Rattle.spec_sections.specs.Global.{global_section, text_number}

-- the shapes: one a property, each on the one before
abbrev pub made_shapes : List (List ℕ) → List Property → List (ℕ × ℕ)
made_shapes strings properties = chain_from 0 (map (λ p. text_number strings p.key) properties)

-- no externals, the strings, the script with the shapes under the hash seed 0, and the properties
abbrev pub made_sections : List ℕ → List (List ℕ) → List Property → List (List ℕ)
made_sections source strings properties =
    (0 ∷ []) ∷ string_list strings [] [] ∷ startup_bytes (one_script 0 source (made_shapes strings properties))
    ∷ global_section strings (length properties) (map (λ p. p.value) properties) ∷ []

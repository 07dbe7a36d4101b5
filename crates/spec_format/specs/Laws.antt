-- What the laws say of a list of strings.
use Rattle.std.specs.Prelude.{◌≡◌, ℕ, ◌<◌, ◌^◌, All, List, length}
use Rattle.spec_format.specs.Strings.{strings_of, node_ends_of, AreStrings, string_list}

-- ends of nodes that a list of strings holds
abbrev pub AreNodeEnds : List ℕ → Type 0
AreNodeEnds node_ends = (length node_ends < 2 ^ 32) × All (λ n. n < 2 ^ 32) node_ends

-- a section spells the strings and the ends of nodes that are read from it, and then this rest
abbrev pub IsSpelledWith : List ℕ → List ℕ → Type 0
IsSpelledWith section rest =
    AreStrings (strings_of section) × AreNodeEnds (node_ends_of section)
    × (section ≡ string_list (strings_of section) (node_ends_of section) rest)

-- What a list of strings in a section is seen as.
use Rattle.std.specs.Prelude.{ℕ, List}
use Rattle.snap_blob.specs.declared.ro_strings.RoStrings.{RoStrings}

-- the bytes of the section
abbrev pub section_of : RoStrings → List ℕ
section_of s = s.section.now

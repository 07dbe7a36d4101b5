-- How the strings of a section that has no fault lie in it.
use Rattle.std.specs.Prelude.{◌≡◌, ℕ, zero, suc, ◌+◌, ◌<◌, ◌≤◌, List, length}
use Rattle.snap_base.specs.declared.limits.TheConstants.{MOST_ITEMS}
use Rattle.spec_format.specs.Strings.{first_byte, string, string_count}

-- string i lies within the section, and is short
pub record Lies (section : List ℕ) (i : ℕ) : Type 0 where
  pub ordered : first_byte section i ≤ first_byte section (suc i)
  pub within : first_byte section (suc i) ≤ length section
  pub short : first_byte section (suc i) ≤ first_byte section i + MOST_ITEMS

-- each string does
abbrev pub AllLie : List ℕ → Type 0
AllLie section = (i : ℕ) → i < string_count section → Lies section i

-- these are the units of the string before string i, if there is one
abbrev pub IsBefore : List ℕ → ℕ → List ℕ → Type 0
IsBefore section zero units = Unit {0}
IsBefore section (suc i) units = units ≡ string section i

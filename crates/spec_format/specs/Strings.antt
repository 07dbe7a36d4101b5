-- The list of strings, at the front of the read-only section.
--
--     0   S, how many strings there are
--     4   R, how many nodes there are
--     8   S ends of strings, from the front of the string bytes
--         R ends of nodes
--         the string bytes, one byte a unit
use Rattle.std.specs.Prelude.{◌≡◌, ℕ, zero, suc, ◌+◌, ◌-◌, ◌*◌, ◌<◌, ◌≤◌, ◌^◌, All, List, [], ◌∷◌, ◌++◌, length, map, slice_range}
use Rattle.std.specs.List.{range_with_len, flat_map, concat}
use Rattle.std.specs.Cmp.Lexicographic.{slice_cmp}
use Rattle.std.specs.Ordering.{nat_cmp}
use Rattle.std.specs.declared.cmp.Ordering.TheVariants.{Less}
use Rattle.snap_base.specs.declared.limits.TheConstants.{MOST_ITEMS}
use Rattle.spec_format.specs.declared.fault.BlobKind.TheVariants.{Truncated, BadString, Trailing}
use Rattle.spec_format.specs.Check.{Check, check, each}
use Rattle.spec_format.specs.Number.{AreBytes, ends_from, number32, spelled32}

abbrev pub string_count : List ℕ → ℕ
string_count section = number32 section 0

abbrev pub node_count : List ℕ → ℕ
node_count section = number32 section 4

-- where the end of string i stands
abbrev pub string_end_entry : ℕ → ℕ
string_end_entry i = 8 + 4 * i

-- where the end of node j stands
abbrev pub node_end_entry : List ℕ → ℕ → ℕ
node_end_entry section j = 8 + 4 * string_count section + 4 * j

-- where the string bytes begin
abbrev pub strings_start : List ℕ → ℕ
strings_start section = node_end_entry section (node_count section)

-- the end that string i has
abbrev pub string_end : List ℕ → ℕ → ℕ
string_end section i = number32 section (string_end_entry i)

-- the end of the string before, or 0
abbrev pub end_before : List ℕ → ℕ → ℕ
end_before section zero = 0
end_before section (suc i) = string_end section i

-- the place of string i's first byte, and at the count that of the first byte behind the strings
abbrev pub first_byte : List ℕ → ℕ → ℕ
first_byte section i = strings_start section + end_before section i

-- the units of string i
abbrev pub string : List ℕ → ℕ → List ℕ
string section i = slice_range section (first_byte section i) (first_byte section (suc i))

-- all strings, in order
abbrev pub strings_of : List ℕ → List (List ℕ)
strings_of section = map (string section) (range_with_len 0 (string_count section))

-- strings ascend by units, from the first differing one on
abbrev pub IsBelow : List ℕ → List ℕ → Type 0
IsBelow s t = slice_cmp nat_cmp s t ≡ Less

-- string i is above the one before, if there is one
abbrev pub IsAboveBefore : List ℕ → ℕ → Type 0
IsAboveBefore section zero = Unit {0}
IsAboveBefore section (suc i) = IsBelow (string section i) (string section (suc i))

-- a field of so many bytes fits at a place; the section begins at base in the blob
abbrev pub fits : List ℕ → ℕ → ℕ → ℕ → Check
fits section base at n = check (at + n ≤ length section) Truncated (base + at)

abbrev pub count_checks : List ℕ → ℕ → List Check
count_checks section base = fits section base 0 4 ∷ fits section base 4 4 ∷ []

abbrev pub string_end_checks : List ℕ → ℕ → ℕ → List Check
string_end_checks section base i =
    fits section base (string_end_entry i) 4
    ∷ check ((end_before section i ≤ string_end section i) × (string_end section i - end_before section i ≤ MOST_ITEMS)) BadString (base + string_end_entry i)
    ∷ []

abbrev pub node_end_checks : List ℕ → ℕ → ℕ → List Check
node_end_checks section base j = fits section base (node_end_entry section j) 4 ∷ []

abbrev pub string_checks : List ℕ → ℕ → ℕ → List Check
string_checks section base i =
    check (first_byte section (suc i) ≤ length section) Truncated (base + first_byte section i)
    ∷ check (IsAboveBefore section i) BadString (base + first_byte section i)
    ∷ []

-- what has to hold of the counts, the string ends, the places of the node ends and the string bytes
abbrev pub string_list_checks : List ℕ → ℕ → List Check
string_list_checks section base =
    count_checks section base
    ++ each (string_count section) (string_end_checks section base)
    ++ each (node_count section) (node_end_checks section base)
    ++ each (string_count section) (string_checks section base)

-- nothing stands behind the strings
abbrev pub trailing_check : List ℕ → ℕ → List Check
trailing_check section base =
    check (length section ≤ first_byte section (string_count section)) Trailing (base + first_byte section (string_count section)) ∷ []

-- the ends of nodes that stand there, whatever they say
abbrev pub node_ends_of : List ℕ → List ℕ
node_ends_of section = map (λ j. number32 section (node_end_entry section j)) (range_with_len 0 (node_count section))

-- each string is above the one before
abbrev pub IsAscending : List (List ℕ) → Type 0
IsAscending [] = Unit {0}
IsAscending (s ∷ []) = Unit {0}
IsAscending (s ∷ t ∷ rest) = IsBelow s t × IsAscending (t ∷ rest)

-- strings that a list of strings holds
pub record AreStrings (strings : List (List ℕ)) : Type 0 where
  pub few : length strings < 2 ^ 32
  pub bytes : All AreBytes strings
  pub short : All (λ s. length s ≤ MOST_ITEMS) strings
  pub fits : length (concat strings) < 2 ^ 32
  pub ascending : IsAscending strings

-- the bytes of a list of strings, with these ends of nodes, and what follows
abbrev pub string_list : List (List ℕ) → List ℕ → List ℕ → List ℕ
string_list strings node_ends rest =
    spelled32 (length strings) ++ spelled32 (length node_ends) ++ flat_map spelled32 (ends_from 0 strings)
    ++ flat_map spelled32 node_ends ++ concat strings ++ rest

-- The container: a header, the ends of the sections, and the sections without gaps.
--
--     0   the eight bytes SNAPBLOB
--     8   the format, 1
--    12   the length of the whole blob
--    16   the SHA-256 of all that stands from 48 on
--    48   how many sections there are, 4 to 19
--    52   where each section ends, as a place in the blob; then the sections
use Rattle.std.specs.Prelude.{◌≡◌, ℕ, zero, suc, ◌+◌, ◌-◌, ◌*◌, ◌≤◌, All, List, [], ◌∷◌, ◌++◌, length, take, drop, map, slice_range}
use Rattle.std.specs.List.{range_with_len, flat_map, concat}
use Rattle.sha2.specs.Sha256.{sha256}
use Rattle.snap_base.specs.declared.limits.TheConstants.{MOST_BLOB_BYTES}
use Rattle.spec_format.specs.declared.fault.BlobKind.TheVariants.{TooLong, TooShort, BadMagic, BadVersion, BadLength, BadDigest, BadSections}
use Rattle.spec_format.specs.Check.{Check, check, each}
use Rattle.spec_format.specs.Number.{AreBytes, ends_from, number32, spelled32}

-- SNAPBLOB
abbrev pub magic : List ℕ
magic = 83 ∷ 78 ∷ 65 ∷ 80 ∷ 66 ∷ 76 ∷ 79 ∷ 66 ∷ []

abbrev pub section_count : List ℕ → ℕ
section_count bytes = number32 bytes 48

-- where the entry stands that says where section k ends
abbrev pub end_entry : ℕ → ℕ
end_entry k = 52 + 4 * k

-- where section k begins: behind the entries, or where the one before ends
abbrev pub section_start : List ℕ → ℕ → ℕ
section_start bytes zero = end_entry (section_count bytes)
section_start bytes (suc k) = number32 bytes (end_entry k)

-- section k ends where the next one would begin
abbrev pub section_end : List ℕ → ℕ → ℕ
section_end bytes k = number32 bytes (end_entry k)

abbrev pub section : List ℕ → ℕ → List ℕ
section bytes k = slice_range bytes (section_start bytes k) (section_end bytes k)

-- the digest in the header is that of all that stands behind it
abbrev pub HasDigest : List ℕ → Type 0
HasDigest bytes = take 32 (drop 16 bytes) ≡ sha256 (drop 48 bytes)

-- there are as many sections as there may be, and their ends fit
abbrev pub HasSectionEnds : List ℕ → Type 0
HasSectionEnds bytes = (4 ≤ section_count bytes) × (section_count bytes ≤ 19) × (end_entry (section_count bytes) ≤ length bytes)

abbrev pub header_checks : List ℕ → List Check
header_checks bytes =
    check (length bytes ≤ MOST_BLOB_BYTES) TooLong MOST_BLOB_BYTES
    ∷ check (52 ≤ length bytes) TooShort (length bytes)
    ∷ check (take 8 bytes ≡ magic) BadMagic 0
    ∷ check (number32 bytes 8 ≡ 1) BadVersion 8
    ∷ check (number32 bytes 12 ≡ length bytes) BadLength 12
    ∷ check (HasDigest bytes) BadDigest 16
    ∷ check (HasSectionEnds bytes) BadSections 48
    ∷ []

-- a section ends at or behind its start, and within the blob
abbrev pub section_checks : List ℕ → ℕ → List Check
section_checks bytes k =
    check ((section_start bytes k ≤ section_end bytes k) × (section_end bytes k ≤ length bytes)) BadSections (end_entry k) ∷ []

-- the last section ends where the blob does
abbrev pub last_check : List ℕ → List Check
last_check bytes =
    check (section_end bytes (section_count bytes - 1) ≡ length bytes) BadSections (end_entry (section_count bytes - 1)) ∷ []

-- pass 1: what has to hold of a container, in order
abbrev pub container_checks : List ℕ → List Check
container_checks bytes =
    header_checks bytes ++ each (section_count bytes) (section_checks bytes) ++ last_check bytes

-- the sections of a container
abbrev pub sections_of : List ℕ → List (List ℕ)
sections_of bytes = map (section bytes) (range_with_len 0 (section_count bytes))

-- what the digest is of: the number of sections, their ends, and the sections
abbrev pub payload : List (List ℕ) → List ℕ
payload sections =
    spelled32 (length sections) ++ flat_map spelled32 (ends_from (end_entry (length sections)) sections) ++ concat sections

-- the container of a format that holds these sections
abbrev pub container : ℕ → List (List ℕ) → List ℕ
container format sections =
    magic ++ spelled32 format ++ spelled32 (48 + length (payload sections)) ++ sha256 (payload sections) ++ payload sections

-- sections that a container holds
pub record AreSections (sections : List (List ℕ)) : Type 0 where
  pub least : 4 ≤ length sections
  pub most : length sections ≤ 19
  pub bytes : All AreBytes sections
  pub fits : 48 + length (payload sections) ≤ MOST_BLOB_BYTES

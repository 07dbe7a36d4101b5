-- The two laws of lists of strings: what passes is spelled so, and what is spelled so passes.
use Rattle.std.proofs.Common.{◌≡◌, ℕ, zero, suc, ◌+◌, ◌-◌, ◌*◌, ◌^◌, ◌<◌, ◌≤◌, List, [], ◌∷◌, ◌++◌, length, get_or, take, drop, refl, sym, ap, subst, ◌∙◌, append_assoc, add-zero, add-one, arith}
use Rattle.std.specs.Prelude.{All, map, slice_range}
use Rattle.std.specs.List.{range_with_len, flat_map, concat}
use Rattle.std.proofs.lemmas.List.{length-append, take-append-drop, drop_all}
use Rattle.std.proofs.lemmas.List.FromFn.{length-map-range_with_len, fill_by_all}
use Rattle.snap_base.specs.declared.limits.TheConstants.{MOST_ITEMS}
use Rattle.spec_format.specs.Check.{AllHold, each}
use Rattle.spec_format.specs.Number.{AreBytes, ends_from, number32, spelled32}
use Rattle.spec_format.specs.Laws.{AreNodeEnds, IsSpelledWith}
use Rattle.spec_format.specs.Strings.{string_count, node_count, string_end_entry, node_end_entry, strings_start, string_end, end_before, first_byte, string, strings_of, IsBelow, IsAboveBefore, string_end_checks, node_end_checks, string_checks, string_list_checks, trailing_check, node_ends_of, IsAscending, AreStrings, string_list}
use Rattle.spec_format.proofs.Checks.{AllHold-append, AllHold-left, AllHold-right, each_from, each_at}
use Rattle.spec_format.proofs.Numbers.{number32-lt, spelled32_number, length-spelled32, length-spelled32_all, number32_between, number32_in_table, table_fits}
use Rattle.spec_format.proofs.Pieces.{slice_then, AreBytes-slice_range, length-slice_range, table_is_spelled, concat_of_slices, ends_from_map, All-made, before, before_all, before-suc, before-le, length-ends_from, get_or-ends_from, ends_from-lt, slice_of_pieces}

-- what the checks of a list of strings say, wherever the section begins
pub record IsChecked (section : List ℕ) : Type 0 where
  pub counts : 8 ≤ length section
  pub string_entries : (i : ℕ) → i < string_count section → string_end_entry i + 4 ≤ length section
  pub ordered : (i : ℕ) → i < string_count section → end_before section i ≤ string_end section i
  pub short : (i : ℕ) → i < string_count section → string_end section i - end_before section i ≤ MOST_ITEMS
  pub node_entries : (j : ℕ) → j < node_count section → node_end_entry section j + 4 ≤ length section
  pub within : (i : ℕ) → i < string_count section → first_byte section (suc i) ≤ length section
  pub above : (i : ℕ) → i < string_count section → IsAboveBefore section i

-- what the checks say, where they hold
checked_from : (section : List ℕ) (base : ℕ) → AllHold (string_list_checks section base) → IsChecked section
checked_from section base h =
    let string_ends = each (string_count section) (string_end_checks section base) in
    let node_ends = each (node_count section) (node_end_checks section base) in
    let strings = each (string_count section) (string_checks section base) in
    let front = AllHold-left (string_ends ++ node_ends) strings h.1.1 in
    let ends = λ (i : ℕ) (lt : i < string_count section). each_at (string_count section) (string_end_checks section base) i lt (AllHold-left string_ends node_ends front) in
    let nodes = λ (j : ℕ) (lt : j < node_count section). each_at (node_count section) (node_end_checks section base) j lt (AllHold-right string_ends node_ends front) in
    let texts = λ (i : ℕ) (lt : i < string_count section). each_at (string_count section) (string_checks section base) i lt (AllHold-right (string_ends ++ node_ends) strings h.1.1) in
    record {
      counts = omega (arith, h.1.0);
      string_entries = λ i lt. (ends i lt).0;
      ordered = λ i lt. (ends i lt).1.0.0;
      short = λ i lt. (ends i lt).1.0.1;
      node_entries = λ j lt. (nodes j lt).0;
      within = λ i lt. (texts i lt).0;
      above = λ i lt. (texts i lt).1.0;
    }

-- the checks hold where what they say does
pub checks_from : (section : List ℕ) (base : ℕ) → IsChecked section → AllHold (string_list_checks section base)
checks_from section base c =
    let string_ends = each (string_count section) (string_end_checks section base) in
    let node_ends = each (node_count section) (node_end_checks section base) in
    let strings = each (string_count section) (string_checks section base) in (
      omega (arith, c.counts),
      (
        omega (arith, c.counts),
        AllHold-append (string_ends ++ node_ends) strings
            (AllHold-append string_ends node_ends
            (each_from (string_count section) (string_end_checks section base) (λ i lt. (c.string_entries i lt, ((c.ordered i lt, c.short i lt), tt))))
            (each_from (node_count section) (node_end_checks section base) (λ j lt. (c.node_entries j lt, tt))))
            (each_from (string_count section) (string_checks section base) (λ i lt. (c.within i lt, (c.above i lt, tt)))),
      ),
    )

-- ---- what passes is spelled so

-- the places of the first bytes ascend
first_bytes_ascend : (section : List ℕ) → IsChecked section → (i : ℕ) → i < string_count section → first_byte section i ≤ first_byte section (suc i)
first_bytes_ascend section c i lt = let h = c.ordered i lt in omega (arith, h)

-- a string is as long as its ends say
length-string : (section : List ℕ) → IsChecked section → (i : ℕ) → i < string_count section → end_before section i + length (string section i) ≡ string_end section i
length-string section c i lt =
    let len = length-slice_range section (first_byte section i) (first_byte section (suc i)) (c.within i lt) in
    let h = c.ordered i lt in
    omega (arith, len, h)

-- strings, each of which is above the one before, ascend
ascending_from : (section : List ℕ) (a n : ℕ) → ((i : ℕ) → suc i < a + n → IsBelow (string section i) (string section (suc i))) → IsAscending (map (string section) (range_with_len a n))
ascending_from section a zero h = tt
ascending_from section a (suc zero) h = tt
ascending_from section a (suc (suc n)) h =
    let P : ℕ → Type 0 = λ k. IsBelow (string section a) (string section k) in
    (subst P (sym (add-one a)) (h a (omega arith)), ascending_from section (a + 1) (suc n) (λ i lt. h i (omega arith)))

-- the ends of strings and of nodes stand in the section
tables_fit : (section : List ℕ) → IsChecked section → (8 + 4 * string_count section ≤ length section) × (strings_start section ≤ length section)
tables_fit section c =
    let strings = table_fits 8 (string_count section) (length section) c.counts c.string_entries in
    (strings, table_fits (8 + 4 * string_count section) (node_count section) (length section) strings c.node_entries)

-- each string begins in the section or at its end
first_byte_within : (section : List ℕ) → IsChecked section → (i : ℕ) → i ≤ string_count section → first_byte section i ≤ length section
first_byte_within section c zero le = let h = (tables_fit section c).1 in omega (arith, h)
first_byte_within section c (suc i) le = c.within i (omega arith)

-- an end is a number of four bytes
end_before-lt : (section : List ℕ) → AreBytes section → (i : ℕ) → end_before section i < 2 ^ 32
end_before-lt section fits zero = omega arith
end_before-lt section fits (suc i) = number32-lt section (string_end_entry i) fits

-- the strings together are the bytes between the first and the last
concat_of_strings : (section : List ℕ) → IsChecked section
    → (strings_start section ≤ first_byte section (string_count section)) × (slice_range section (strings_start section) (first_byte section (string_count section)) ≡ concat (strings_of section))
concat_of_strings section c =
    let whole = concat_of_slices section (first_byte section) (string_count section) (first_bytes_ascend section c) in (
      omega (arith, whole.0),
      ap (λ k. slice_range section k (first_byte section (string_count section))) (sym (add-zero (strings_start section))) ∙ sym whole.1,
    )

-- the strings of a section that passes
strings_hold : (section : List ℕ) → AreBytes section → IsChecked section → AreStrings (strings_of section)
strings_hold section fits c =
    let count = string_count section in
    let whole = concat_of_strings section c in
    let len = length-slice_range section (strings_start section) (first_byte section count) (first_byte_within section c count (omega arith)) in
    let total : length (concat (strings_of section)) ≡ length (slice_range section (strings_start section) (first_byte section count)) = ap length (sym whole.1) in
    let last = end_before-lt section fits count in
    record {
      few = rw (length-map-range_with_len (string section) 0 count) (number32-lt section 0 fits);
      bytes = All-made AreBytes (string section) count (λ i lt. AreBytes-slice_range section (first_byte section i) (first_byte section (suc i)) fits);
      short = All-made (λ s. length s ≤ MOST_ITEMS) (string section) count (λ i lt. let own = length-string section c i lt in let h = c.short i lt in omega (arith, own, h));
      fits = omega (arith, total, len, last);
      ascending = ascending_from section 0 count (λ i lt. c.above (suc i) (omega arith));
    }

-- a section that passes is the spelling of its strings, with its ends of nodes and the bytes behind the strings
strings_spelled : (section : List ℕ) → AreBytes section → IsChecked section
    → section ≡ string_list (strings_of section) (node_ends_of section) (drop (first_byte section (string_count section)) section)
strings_spelled section fits c =
    let count = string_count section in
    let nodes = node_count section in
    let end = first_byte section count in
    let tables = tables_fit section c in
    let whole = concat_of_strings section c in
    let few : spelled32 count ≡ spelled32 (length (strings_of section)) = ap spelled32 (sym (length-map-range_with_len (string section) 0 count)) in
    let few_nodes : spelled32 nodes ≡ spelled32 (length (node_ends_of section)) = ap spelled32 (sym (length-map-range_with_len (λ j. number32 section (node_end_entry section j)) 0 nodes)) in
    let ends : map (λ i. number32 section (8 + 4 * i)) (range_with_len 0 count) ≡ ends_from 0 (strings_of section) =
    sym (ends_from_map (end_before section) (string section) 0 count (λ i lt. length-string section c i (omega arith))) in
    let a = spelled32 (length (strings_of section)) in
    let b = spelled32 (length (node_ends_of section)) in
    let e = flat_map spelled32 (ends_from 0 (strings_of section)) in
    let n = flat_map spelled32 (node_ends_of section) in
    let s1 : slice_range section 0 4 ≡ a = spelled32_number section 0 fits (omega (arith, c.counts)) ∙ few in
    let s2 : slice_range section 0 8 ≡ a ++ b = slice_then section a b 0 4 8 (omega arith) (omega arith) s1 (spelled32_number section 4 fits (omega (arith, c.counts)) ∙ few_nodes) in
    let s3 : slice_range section 0 (8 + 4 * count) ≡ a ++ b ++ e = slice_then section (a ++ b) e 0 8 (8 + 4 * count) (omega arith) (omega arith) s2 (table_is_spelled section 8 count fits tables.0 ∙ ap (flat_map spelled32) ends) in
    let s4 : slice_range section 0 (strings_start section) ≡ a ++ b ++ e ++ n = slice_then section (a ++ b ++ e) n 0 (8 + 4 * count) (strings_start section) (omega arith) (omega arith) s3 (table_is_spelled section (8 + 4 * count) nodes fits tables.1) in
    let s5 : slice_range section 0 end ≡ a ++ b ++ e ++ n ++ concat (strings_of section) = slice_then section (a ++ b ++ e ++ n) (concat (strings_of section)) 0 (strings_start section) end (omega arith) whole.0 s4 whole.1 in
    let front : take end section ≡ slice_range section 0 end = ap (λ k. take k section) (let p : end ≡ end - 0 = omega arith in p) in
    sym (take-append-drop end section) ∙ ap (λ w. w ++ drop end section) (front ∙ s5)

-- ---- what is spelled so passes

-- what is read where a list of strings is spelled
pub record IsRead (section : List ℕ) (strings : List (List ℕ)) (node_ends rest : List ℕ) : Type 0 where
  pub strings_are : string_count section ≡ length strings
  pub nodes_are : node_count section ≡ length node_ends
  pub ends_are : (i : ℕ) → i < length strings → string_end section i ≡ before (suc i) strings
  pub length_is : length section ≡ 8 + 4 * length strings + 4 * length node_ends + length (concat strings) + length rest
  pub pieces_are : (i from to : ℕ) → i < length strings → from ≡ 8 + 4 * length strings + 4 * length node_ends + before i strings
      → to ≡ 8 + 4 * length strings + 4 * length node_ends + before (suc i) strings → slice_range section from to ≡ get_or strings i []
  pub node_ends_are : (j : ℕ) → j < length node_ends → All (λ n. n < 2 ^ 32) node_ends → number32 section (8 + 4 * length strings + 4 * j) ≡ get_or node_ends j 0

-- a list of strings is read as it is spelled
pub read_string_list : (strings : List (List ℕ)) (node_ends rest : List ℕ) → AreStrings strings → length node_ends < 2 ^ 32
    → IsRead (string_list strings node_ends rest) strings node_ends rest
read_string_list strings node_ends rest holds few_nodes =
    let a = spelled32 (length strings) in
    let b = spelled32 (length node_ends) in
    let e = flat_map spelled32 (ends_from 0 strings) in
    let n = flat_map spelled32 node_ends in
    let c = concat strings in
    let count_place : (((((a ++ b) ++ e) ++ n) ++ c) ++ rest) ≡ ([] ++ a) ++ (b ++ (e ++ (n ++ (c ++ rest)))) = simp append_assoc in
    let nodes_place : (((((a ++ b) ++ e) ++ n) ++ c) ++ rest) ≡ (a ++ b) ++ (e ++ (n ++ (c ++ rest))) = simp append_assoc in
    let ends_place : (((((a ++ b) ++ e) ++ n) ++ c) ++ rest) ≡ ((a ++ b) ++ e) ++ (n ++ (c ++ rest)) = simp append_assoc in
    let node_ends_place : (((((a ++ b) ++ e) ++ n) ++ c) ++ rest) ≡ (((a ++ b) ++ e) ++ n) ++ (c ++ rest) = simp append_assoc in
    let la = length-spelled32 (length strings) in
    let lb = length-spelled32 (length node_ends) in
    let lab : length (a ++ b) ≡ 8 = omega (arith, length-append a b, la, lb) in
    let le : length e ≡ 4 * length strings = omega (arith, length-spelled32_all (ends_from 0 strings), length-ends_from 0 strings) in
    let labe : length ((a ++ b) ++ e) ≡ 8 + 4 * length strings = omega (arith, length-append (a ++ b) e, lab, le) in
    let front : length (((a ++ b) ++ e) ++ n) ≡ 8 + 4 * length strings + 4 * length node_ends = omega (arith, length-append ((a ++ b) ++ e) n, labe, length-spelled32_all node_ends) in
    record {
      strings_are = ap (λ w. number32 w 0) count_place ∙ number32_between [] (length strings) (b ++ (e ++ (n ++ (c ++ rest)))) 0 refl holds.few;
      nodes_are = ap (λ w. number32 w 4) nodes_place ∙ number32_between a (length node_ends) (e ++ (n ++ (c ++ rest))) 4 la few_nodes;
      ends_are = λ i lt. ap (λ w. number32 w (8 + 4 * i)) ends_place
          ∙ number32_in_table (a ++ b) (ends_from 0 strings) (n ++ (c ++ rest)) 8 i lab (ends_from-lt 0 strings (omega (arith, holds.fits))) (omega (arith, length-ends_from 0 strings))
          ∙ get_or-ends_from 0 strings i 0 lt ∙ omega arith;
      length_is = omega (arith, length-append ((((a ++ b) ++ e) ++ n) ++ c) rest, length-append (((a ++ b) ++ e) ++ n) c, front);
      pieces_are = λ i from to lt is_from is_to. slice_of_pieces (((a ++ b) ++ e) ++ n) strings rest i from to lt (omega arith) (omega arith);
      node_ends_are = λ j lt small. ap (λ w. number32 w (8 + 4 * length strings + 4 * j)) node_ends_place
          ∙ number32_in_table ((a ++ b) ++ e) node_ends (c ++ rest) (8 + 4 * length strings) j labe small lt;
    }

-- the end before a string is how many bytes stand before it
end_before_is : (section : List ℕ) (strings : List (List ℕ)) (node_ends rest : List ℕ) → IsRead section strings node_ends rest
    → (i : ℕ) → i ≤ length strings → end_before section i ≡ before i strings
end_before_is section strings node_ends rest r zero le = refl
end_before_is section strings node_ends rest r (suc i) le = r.ends_are i (omega arith)

-- the string that is read at a place
string_is : (section : List ℕ) (strings : List (List ℕ)) (node_ends rest : List ℕ) → IsRead section strings node_ends rest
    → (i : ℕ) → i < length strings → string section i ≡ get_or strings i []
string_is section strings node_ends rest r i lt =
    let from = end_before_is section strings node_ends rest r i (omega arith) in
    let to = end_before_is section strings node_ends rest r (suc i) (omega arith) in
    r.pieces_are i (first_byte section i) (first_byte section (suc i)) lt (omega (arith, from, r.strings_are, r.nodes_are)) (omega (arith, to, r.strings_are, r.nodes_are))

-- the strings that are read
pub strings_of_read : (section : List ℕ) (strings : List (List ℕ)) (node_ends rest : List ℕ) → IsRead section strings node_ends rest → strings_of section ≡ strings
strings_of_read section strings node_ends rest r =
    sym (fill_by_all (string section) strings (string_count section) [] (sym r.strings_are) (λ i lt. sym (string_is section strings node_ends rest r i (omega (arith, r.strings_are)))))

-- the ends of nodes that are read
pub node_ends_of_read : (section : List ℕ) (strings : List (List ℕ)) (node_ends rest : List ℕ) → All (λ n. n < 2 ^ 32) node_ends → IsRead section strings node_ends rest → node_ends_of section ≡ node_ends
node_ends_of_read section strings node_ends rest small r =
    sym (fill_by_all (λ j. number32 section (node_end_entry section j)) node_ends (node_count section) 0 (sym r.nodes_are)
    (λ j lt. sym (ap (λ s. number32 section (8 + 4 * s + 4 * j)) r.strings_are ∙ r.node_ends_are j (omega (arith, r.nodes_are)) small)))

-- of strings that ascend each is above the one before
ascending_at : (strings : List (List ℕ)) → IsAscending strings → (i : ℕ) → suc i < length strings → IsBelow (get_or strings i []) (get_or strings (suc i) [])
ascending_at [] h i lt = absurd (omega arith)
ascending_at (s ∷ []) h i lt = absurd (omega arith)
ascending_at (s ∷ t ∷ rest) h zero lt = h.0
ascending_at (s ∷ t ∷ rest) h (suc i) lt = ascending_at (t ∷ rest) h.1 i (omega arith)

-- so each string that is read is above the one before
above_before : (section : List ℕ) (strings : List (List ℕ)) (node_ends rest : List ℕ) → IsAscending strings → IsRead section strings node_ends rest
    → (i : ℕ) → i < length strings → IsAboveBefore section i
above_before section strings node_ends rest up r zero lt = tt
above_before section strings node_ends rest up r (suc i) lt =
    let this = string_is section strings node_ends rest r i (omega arith) in
    let next = string_is section strings node_ends rest r (suc i) lt in
    rw (this, next) (ascending_at strings up i lt)

-- a list of strings that is spelled passes
pub checked_read : (section : List ℕ) (strings : List (List ℕ)) (node_ends rest : List ℕ) → AreStrings strings → IsRead section strings node_ends rest → IsChecked section
checked_read section strings node_ends rest holds r = record {
  counts = omega (arith, r.length_is);
  string_entries = λ i lt. omega (arith, r.length_is, r.strings_are);
  ordered = λ i lt.
      let from = end_before_is section strings node_ends rest r i (omega (arith, r.strings_are)) in
      let to = r.ends_are i (omega (arith, r.strings_are)) in
      let more = before-suc i strings (omega (arith, r.strings_are)) in
      omega (arith, from, to, more);
  short = λ i lt.
      let from = end_before_is section strings node_ends rest r i (omega (arith, r.strings_are)) in
      let to = r.ends_are i (omega (arith, r.strings_are)) in
      let more = before-suc i strings (omega (arith, r.strings_are)) in
      let few = holds.short i [] (omega (arith, r.strings_are)) in
      omega (arith, from, to, more, few);
  node_entries = λ j lt. omega (arith, r.length_is, r.strings_are, r.nodes_are);
  within = λ i lt.
      let to = r.ends_are i (omega (arith, r.strings_are)) in
      let all = before-le (suc i) strings in
      omega (arith, to, all, r.length_is, r.strings_are, r.nodes_are);
  above = λ i lt. above_before section strings node_ends rest holds.ascending r i (omega (arith, r.strings_are));
}

-- with nothing behind it a list of strings that is spelled fills its section
pub fills_read : (section : List ℕ) (strings : List (List ℕ)) (node_ends : List ℕ) → IsRead section strings node_ends [] → length section ≤ first_byte section (string_count section)
fills_read section strings node_ends r =
    let last = end_before_is section strings node_ends [] r (string_count section) (omega (arith, r.strings_are)) in
    let all : before (string_count section) strings ≡ length (concat strings) = ap (λ n. before n strings) r.strings_are ∙ before_all strings in
    omega (arith, last, all, r.length_is, r.strings_are, r.nodes_are)

-- ---- the laws

-- the ends of nodes are numbers of four bytes, and so is how many there are
node_ends_hold : (section : List ℕ) → AreBytes section → AreNodeEnds (node_ends_of section)
node_ends_hold section fits =
    let at : ℕ → ℕ = λ j. number32 section (node_end_entry section j) in (
      rw (length-map-range_with_len at 0 (node_count section)) (number32-lt section 4 fits),
      All-made (λ n. n < 2 ^ 32) at (node_count section) (λ j lt. number32-lt section (node_end_entry section j) fits),
    )

-- a section that passes spells what is read from it, with the bytes behind the strings
spelled_with : (section : List ℕ) → AreBytes section → IsChecked section → IsSpelledWith section (drop (first_byte section (string_count section)) section)
spelled_with section fits c = (strings_hold section fits c, node_ends_hold section fits, strings_spelled section fits c)

-- what passes is spelled so, with some rest
pub front_spelled : (section : List ℕ) (base : ℕ) → AreBytes section → AllHold (string_list_checks section base) → (rest : List ℕ) × IsSpelledWith section rest
front_spelled section base fits h = (drop (first_byte section (string_count section)) section, spelled_with section fits (checked_from section base h))

-- what passes as a whole section is spelled so, with no rest
pub whole_spelled : (section : List ℕ) (base : ℕ) → AreBytes section → AllHold (string_list_checks section base ++ trailing_check section base) → IsSpelledWith section []
whole_spelled section base fits h =
    let list = string_list_checks section base in
    let c = checked_from section base (AllHold-left list (trailing_check section base) h) in
    let nothing : drop (first_byte section (string_count section)) section ≡ [] =
    drop_all (first_byte section (string_count section)) section (AllHold-right list (trailing_check section base) h).0 in
    subst (IsSpelledWith section) nothing (spelled_with section fits c)

-- The two laws of containers: what passes is spelled so, and what is spelled so passes.
use Rattle.std.proofs.Common.{◌≡◌, ℕ, zero, suc, ◌+◌, ◌-◌, ◌*◌, ◌^◌, ◌<◌, ◌≤◌, List, [], ◌++◌, length, get_or, take, drop, refl, sym, ap, ◌∙◌, append_assoc, arith}
use Rattle.std.specs.Prelude.{All, map, slice_range}
use Rattle.std.specs.List.{range_with_len, flat_map, concat}
use Rattle.std.proofs.lemmas.List.{length-append, take_all, take_at, drop_at, take_rest, append-nil}
use Rattle.std.proofs.lemmas.List.FromFn.{length-map-range_with_len, fill_by_all}
use Rattle.sha2.specs.Sha256.{sha256}
use Rattle.sha2.proofs.Facts256.{length-sha256}
use Rattle.snap_base.specs.declared.limits.TheConstants.{MOST_BLOB_BYTES}
use Rattle.spec_format.specs.Check.{AllHold, each}
use Rattle.spec_format.specs.Number.{AreBytes, ends_from, number32, spelled32}
use Rattle.spec_format.specs.Container.{magic, section_count, end_entry, section_start, section_end, section, section_checks, last_check, container_checks, sections_of, payload, container, AreSections}
use Rattle.spec_format.proofs.Checks.{AllHold-append, AllHold-left, AllHold-right, each_from, each_at}
use Rattle.spec_format.proofs.Numbers.{spelled32_number, length-spelled32, length-spelled32_all, number32_between, number32_in_table}
use Rattle.spec_format.proofs.Pieces.{slice_then, AreBytes-slice_range, length-slice_range, table_is_spelled, concat_of_slices, ends_from_map, All-made, before, before_all, before-suc, before-le, length-ends_from, get_or-ends_from, ends_from-lt, slice_of_pieces}

-- what the checks of a container say
pub record IsChecked (bytes : List ℕ) : Type 0 where
  pub short : length bytes ≤ MOST_BLOB_BYTES
  pub long : 52 ≤ length bytes
  pub magic_is : take 8 bytes ≡ magic
  pub format_is : number32 bytes 8 ≡ 1
  pub length_is : number32 bytes 12 ≡ length bytes
  pub digest_is : take 32 (drop 16 bytes) ≡ sha256 (drop 48 bytes)
  pub least : 4 ≤ section_count bytes
  pub most : section_count bytes ≤ 19
  pub entries : end_entry (section_count bytes) ≤ length bytes
  pub ordered : (k : ℕ) → k < section_count bytes → section_start bytes k ≤ section_end bytes k
  pub within : (k : ℕ) → k < section_count bytes → section_end bytes k ≤ length bytes
  pub last : section_end bytes (section_count bytes - 1) ≡ length bytes

-- what the checks say, where they hold
pub checked_from : (bytes : List ℕ) → AllHold (container_checks bytes) → IsChecked bytes
checked_from bytes h =
    let sections = each (section_count bytes) (section_checks bytes) in
    let counted = h.1.1.1.1.1.1 in
    let ends = AllHold-left sections (last_check bytes) counted.1 in
    let one = λ (k : ℕ) (lt : k < section_count bytes). each_at (section_count bytes) (section_checks bytes) k lt ends in
    record {
      short = h.0;
      long = h.1.0;
      magic_is = h.1.1.0;
      format_is = h.1.1.1.0;
      length_is = h.1.1.1.1.0;
      digest_is = h.1.1.1.1.1.0;
      least = counted.0.0;
      most = counted.0.1;
      entries = counted.0.2;
      ordered = λ k lt. (one k lt).0.0;
      within = λ k lt. (one k lt).0.1;
      last = (AllHold-right sections (last_check bytes) counted.1).0;
    }

-- the checks hold where what they say does
pub checks_from : (bytes : List ℕ) → IsChecked bytes → AllHold (container_checks bytes)
checks_from bytes c =
    let sections = each (section_count bytes) (section_checks bytes) in
    let ends = each_from (section_count bytes) (section_checks bytes) (λ k lt. ((c.ordered k lt, c.within k lt), tt)) in
    (c.short, (c.long, (c.magic_is, (c.format_is, (c.length_is, (c.digest_is, ((c.least, c.most, c.entries), AllHold-append sections (last_check bytes) ends (c.last, tt))))))))

-- ---- what passes is spelled so

-- a section begins where the one before ends
start_is : (bytes : List ℕ) (n : ℕ) → 0 < n → section_start bytes n ≡ section_end bytes (n - 1)
start_is bytes zero lt = absurd (omega arith)
start_is bytes (suc n) lt = ap (section_end bytes) (let e : n ≡ suc n - 1 = omega arith in e)

-- a section is as long as its ends say
length-section : (bytes : List ℕ) → IsChecked bytes → (k : ℕ) → k < section_count bytes → section_start bytes k + length (section bytes k) ≡ section_end bytes k
length-section bytes c k lt =
    let len = length-slice_range bytes (section_start bytes k) (section_end bytes k) (c.within k lt) in
    let h = c.ordered k lt in
    omega (arith, len, h)

-- what the digest of a container that passes is of
payload_is : (bytes : List ℕ) → AreBytes bytes → IsChecked bytes → slice_range bytes 48 (length bytes) ≡ payload (sections_of bytes)
payload_is bytes fits c =
    let count = section_count bytes in
    let sections = sections_of bytes in
    let many : count ≡ length sections = sym (length-map-range_with_len (section bytes) 0 count) in
    let whole = concat_of_slices bytes (section_start bytes) count c.ordered in
    let end : section_start bytes count ≡ length bytes = start_is bytes count (omega (arith, c.least)) ∙ c.last in
    let ends : map (λ k. number32 bytes (52 + 4 * k)) (range_with_len 0 count) ≡ ends_from (end_entry (length sections)) sections =
    sym (ends_from_map (section_start bytes) (section bytes) 0 count (λ k lt. length-section bytes c k (omega arith))) ∙ ap (λ k. ends_from (end_entry k) sections) many in
    let a = spelled32 (length sections) in
    let e = flat_map spelled32 (ends_from (end_entry (length sections)) sections) in
    let s1 : slice_range bytes 48 52 ≡ a = spelled32_number bytes 48 fits (omega (arith, c.long)) ∙ ap spelled32 many in
    let s2 : slice_range bytes 48 (52 + 4 * count) ≡ a ++ e =
    slice_then bytes a e 48 52 (52 + 4 * count) (omega arith) (omega arith) s1 (table_is_spelled bytes 52 count fits c.entries ∙ ap (flat_map spelled32) ends) in
    let s3 : slice_range bytes (52 + 4 * count) (length bytes) ≡ concat sections = ap (slice_range bytes (52 + 4 * count)) (sym end) ∙ sym whole.1 in
    slice_then bytes (a ++ e) (concat sections) 48 (52 + 4 * count) (length bytes) (omega arith) c.entries s2 s3

-- what passes is spelled so
pub container_spelled : (bytes : List ℕ) → AreBytes bytes → IsChecked bytes → AreSections (sections_of bytes) × (bytes ≡ container 1 (sections_of bytes))
container_spelled bytes fits c =
    let count = section_count bytes in
    let sections = sections_of bytes in
    let many : length sections ≡ count = length-map-range_with_len (section bytes) 0 count in
    let data_is = payload_is bytes fits c in
    let hashed : drop 48 bytes ≡ payload sections = sym (take_rest bytes 48) ∙ data_is in
    let total : length bytes ≡ 48 + length (payload sections) =
    let cut = length-slice_range bytes 48 (length bytes) (omega arith) in
    let same : length (slice_range bytes 48 (length bytes)) ≡ length (payload sections) = ap length data_is in
    omega (arith, cut, same, c.long) in
    let s1 : slice_range bytes 0 8 ≡ magic = c.magic_is in
    let s2 : slice_range bytes 8 12 ≡ spelled32 1 = spelled32_number bytes 8 fits (omega (arith, c.long)) ∙ ap spelled32 c.format_is in
    let s3 : slice_range bytes 12 16 ≡ spelled32 (48 + length (payload sections)) = spelled32_number bytes 12 fits (omega (arith, c.long)) ∙ ap spelled32 (c.length_is ∙ total) in
    let s4 : slice_range bytes 16 48 ≡ sha256 (payload sections) = c.digest_is ∙ ap sha256 hashed in
    let p2 = slice_then bytes magic (spelled32 1) 0 8 12 (omega arith) (omega arith) s1 s2 in
    let p3 = slice_then bytes (magic ++ spelled32 1) (spelled32 (48 + length (payload sections))) 0 12 16 (omega arith) (omega arith) p2 s3 in
    let p4 = slice_then bytes (magic ++ spelled32 1 ++ spelled32 (48 + length (payload sections))) (sha256 (payload sections)) 0 16 48 (omega arith) (omega arith) p3 s4 in
    let p5 = slice_then bytes (magic ++ spelled32 1 ++ spelled32 (48 + length (payload sections)) ++ sha256 (payload sections)) (payload sections) 0 48 (length bytes) (omega arith) (omega (arith, c.long)) p4 data_is in (
      record {
        least = omega (arith, many, c.least);
        most = omega (arith, many, c.most);
        bytes = All-made AreBytes (section bytes) count (λ k lt. AreBytes-slice_range bytes (section_start bytes k) (section_end bytes k) fits);
        fits = omega (arith, total, c.short);
      },
      sym (take_all (length bytes - 0) bytes (omega arith)) ∙ p5,
    )

-- ---- what is spelled so passes

-- what is read where a container is spelled
pub record IsRead (bytes : List ℕ) (sections : List (List ℕ)) : Type 0 where
  pub length_is : length bytes ≡ 48 + length (payload sections)
  pub magic_is : take 8 bytes ≡ magic
  pub format_is : number32 bytes 8 ≡ 1
  pub length_read : number32 bytes 12 ≡ 48 + length (payload sections)
  pub digest_is : take 32 (drop 16 bytes) ≡ sha256 (drop 48 bytes)
  pub count_is : section_count bytes ≡ length sections
  pub ends_are : (k : ℕ) → k < length sections → section_end bytes k ≡ 52 + 4 * length sections + before (suc k) sections
  pub pieces_are : (k from to : ℕ) → k < length sections → from ≡ 52 + 4 * length sections + before k sections
      → to ≡ 52 + 4 * length sections + before (suc k) sections → slice_range bytes from to ≡ get_or sections k []

-- how long the payload is
length-payload : (sections : List (List ℕ)) → length (payload sections) ≡ 4 + 4 * length sections + length (concat sections)
length-payload sections =
    let a = spelled32 (length sections) in
    let ends = ends_from (end_entry (length sections)) sections in
    let e = flat_map spelled32 ends in
    omega (arith, length-append (a ++ e) (concat sections), length-append a e, length-spelled32 (length sections), length-spelled32_all ends, length-ends_from (end_entry (length sections)) sections)

-- five parts in a row, seen from behind the second
regroup_second : (m f l d p : List ℕ) → m ++ f ++ l ++ d ++ p ≡ (m ++ f) ++ (l ++ (d ++ p))
regroup_second m f l d p = simp append_assoc

-- and from behind the third
regroup_third : (m f l d p : List ℕ) → m ++ f ++ l ++ d ++ p ≡ (m ++ f ++ l) ++ (d ++ p)
regroup_third m f l d p = append_assoc (m ++ f ++ l) d p

-- a payload behind a front, seen from behind its first part
regroup_count : (front a e c : List ℕ) → front ++ (a ++ e ++ c) ≡ (front ++ a) ++ (e ++ c)
regroup_count front a e c = simp append_assoc

-- and from behind its second
regroup_ends : (front a e c : List ℕ) → front ++ (a ++ e ++ c) ≡ (front ++ a ++ e) ++ c
regroup_ends front a e c = simp append_assoc

-- a container is read as it is spelled
pub read_container : (sections : List (List ℕ)) → AreSections sections → IsRead (container 1 sections) sections
read_container sections holds =
    let bytes = container 1 sections in
    let data_len = length-payload sections in
    let fits = holds.fits in
    let ends = ends_from (end_entry (length sections)) sections in
    let f = spelled32 1 in
    let l = spelled32 (48 + length (payload sections)) in
    let d = sha256 (payload sections) in
    let p = payload sections in
    let a = spelled32 (length sections) in
    let e = flat_map spelled32 ends in
    let c = concat sections in
    let front = magic ++ f ++ l ++ d in
    let lf = length-spelled32 1 in
    let ll = length-spelled32 (48 + length (payload sections)) in
    let ld = length-sha256 (payload sections) in
    let la = length-spelled32 (length sections) in
    let le : length e ≡ 4 * length sections = omega (arith, length-spelled32_all ends, length-ends_from (end_entry (length sections)) sections) in
    let to_format : length (magic ++ f) ≡ 12 = omega (arith, length-append magic f, lf) in
    let to_length : length (magic ++ f ++ l) ≡ 16 = omega (arith, length-append (magic ++ f) l, to_format, ll) in
    let to_payload : length front ≡ 48 = omega (arith, length-append (magic ++ f ++ l) d, to_length, ld) in
    let to_count : length (front ++ a) ≡ 52 = omega (arith, length-append front a, to_payload, la) in
    let to_ends : length (front ++ a ++ e) ≡ 52 + 4 * length sections = omega (arith, length-append (front ++ a) e, to_count, le) in
    let small : All (λ n. n < 2 ^ 32) ends = ends_from-lt (end_entry (length sections)) sections (omega (arith, data_len, fits)) in
    record {
      length_is = omega (arith, length-append front p, to_payload);
      magic_is = refl;
      format_is = ap (λ w. number32 w 8) (regroup_second magic f l d p) ∙ number32_between magic 1 (l ++ (d ++ p)) 8 refl (omega arith);
      length_read = ap (λ w. number32 w 12) (regroup_third magic f l d p) ∙ number32_between (magic ++ f) (48 + length (payload sections)) (d ++ p) 12 to_format (omega (arith, fits));
      digest_is = ap (take 32) (ap (drop 16) (regroup_third magic f l d p) ∙ drop_at (magic ++ f ++ l) (d ++ p) 16 to_length) ∙ take_at d p 32 ld
          ∙ ap sha256 (sym (drop_at front p 48 to_payload));
      count_is = ap (λ w. number32 w 48) (regroup_count front a e c) ∙ number32_between front (length sections) (e ++ c) 48 to_payload (omega (arith, holds.most));
      ends_are = λ k lt. ap (λ w. number32 w (52 + 4 * k)) (regroup_ends front a e c)
          ∙ number32_in_table (front ++ a) ends c 52 k to_count small (omega (arith, length-ends_from (end_entry (length sections)) sections))
          ∙ get_or-ends_from (end_entry (length sections)) sections k 0 lt;
      pieces_are = λ k from to lt is_from is_to.
          ap (λ w. slice_range w from to) (regroup_ends front a e c ∙ sym (append-nil ((front ++ a ++ e) ++ c)))
          ∙ slice_of_pieces (front ++ a ++ e) sections [] k from to lt (omega (arith, to_ends)) (omega (arith, to_ends));
    }

-- where a section begins that is read
section_start_is : (bytes : List ℕ) (sections : List (List ℕ)) → IsRead bytes sections
    → (k : ℕ) → k ≤ length sections → section_start bytes k ≡ 52 + 4 * length sections + before k sections
section_start_is bytes sections r zero le = omega (arith, r.count_is)
section_start_is bytes sections r (suc k) le = r.ends_are k (omega arith)

-- the sections that are read
pub sections_of_read : (bytes : List ℕ) (sections : List (List ℕ)) → IsRead bytes sections → sections_of bytes ≡ sections
sections_of_read bytes sections r =
    sym (fill_by_all (section bytes) sections (section_count bytes) [] (sym r.count_is) (λ k lt.
    let below : k < length sections = omega (arith, r.count_is) in
    sym (r.pieces_are k (section_start bytes k) (section_end bytes k) below (section_start_is bytes sections r k (omega arith)) (r.ends_are k below))))

-- a container that is spelled passes
pub checked_read : (bytes : List ℕ) (sections : List (List ℕ)) → AreSections sections → IsRead bytes sections → IsChecked bytes
checked_read bytes sections holds r =
    let data_len = length-payload sections in
    record {
      short = omega (arith, r.length_is, holds.fits);
      long = omega (arith, r.length_is, data_len);
      magic_is = r.magic_is;
      format_is = r.format_is;
      length_is = r.length_read ∙ sym r.length_is;
      digest_is = r.digest_is;
      least = omega (arith, r.count_is, holds.least);
      most = omega (arith, r.count_is, holds.most);
      entries = omega (arith, r.count_is, r.length_is, data_len);
      ordered = λ k lt.
          let below : k < length sections = omega (arith, r.count_is) in
          let from = section_start_is bytes sections r k (omega arith) in
          let to = r.ends_are k below in
          let more = before-suc k sections below in
          omega (arith, from, to, more);
      within = λ k lt.
          let below : k < length sections = omega (arith, r.count_is) in
          let to = r.ends_are k below in
          let all = before-le (suc k) sections in
          omega (arith, to, all, r.length_is, data_len);
      last =
          let end = sym (start_is bytes (section_count bytes) (omega (arith, r.count_is, holds.least))) in
          let from = section_start_is bytes sections r (section_count bytes) (omega (arith, r.count_is)) in
          let all : before (section_count bytes) sections ≡ length (concat sections) = ap (λ n. before n sections) r.count_is ∙ before_all sections in
          end ∙ omega (arith, from, all, r.length_is, data_len);
    }

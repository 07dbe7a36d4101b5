-- A blob that is sealed.
use Rattle.std.proofs.Common.{◌≡◌, ℕ, ◌+◌, ◌<◌, List, [], ◌++◌, length, get_or, take, drop, ap, sym, ◌∙◌, arith}
use Rattle.std.specs.Prelude.{Vec}
use Rattle.std.specs.Global.{Global}
use Rattle.std.specs.List.{flat_map, concat}
use Rattle.std.proofs.lemmas.List.{append_assoc, drop_at, get_or-map, length-append, length-map, take_at}
use Rattle.sha2.specs.Sha256.{sha256}
use Rattle.sha2.proofs.Facts256.{length-sha256}
use Rattle.spec_format.specs.Container.{container, end_entry, magic, payload}
use Rattle.spec_format.specs.Number.{ends_from, spelled32}
use Rattle.spec_format.proofs.Numbers.{length-spelled32, length-spelled32_all}
use Rattle.spec_format.proofs.Pieces.{length-ends_from}
use Rattle.snap_blob.specs.Sections.{lists_of, sealed_length, zeros}

-- the bytes of a section that was read
pub item_of : (sections : List (Vec ℕ Global)) (i : ℕ) (v : Vec ℕ Global) → i < length sections → v ≡ get_or sections i v → get_or (lists_of sections) i [] ≡ v.items
item_of sections i v lt e = get_or-map (λ (s : Vec ℕ Global). s.items) sections i v [] lt ∙ ap (λ (s : Vec ℕ Global). s.items) (sym e)

-- there are as many lists as sections
pub length-lists_of : (sections : List (Vec ℕ Global)) → length (lists_of sections) ≡ length sections
length-lists_of sections = length-map sections (λ (s : Vec ℕ Global). s.items)

-- how long a blob is
pub length-payload : (sections : List (List ℕ)) → 48 + length (payload sections) ≡ sealed_length sections
length-payload sections =
    let count = spelled32 (length sections) in
    let starts = ends_from (end_entry (length sections)) sections in
    let ends = flat_map spelled32 starts in
    omega (
      arith,
      length-append (count ++ ends) (concat sections),
      length-append count ends,
      length-spelled32 (length sections),
      length-spelled32_all starts,
      length-ends_from (end_entry (length sections)) sections,
    )

-- what stands before the digest
pub length-head : (format len : ℕ) → length (magic ++ spelled32 format ++ spelled32 len) ≡ 16
length-head format len =
    omega (
      arith,
      length-append (magic ++ spelled32 format) (spelled32 len),
      length-append magic (spelled32 format),
      length-spelled32 format,
      length-spelled32 len,
    )

-- the container is as long as its payload and the header
pub length-container : (format : ℕ) (sections : List (List ℕ)) → length (container format sections) ≡ sealed_length sections
length-container format sections =
    let pay = payload sections in
    let head = magic ++ spelled32 format ++ spelled32 (48 + length pay) in
    omega (
      arith,
      length-append (head ++ sha256 pay) pay,
      length-append head (sha256 pay),
      length-head format (48 + length pay),
      length-sha256 pay,
      length-payload sections,
    )

-- the digest takes the place of the zeros
pub digest_filled : (format len : ℕ) (pay x y : List ℕ) → x ≡ (magic ++ spelled32 format ++ spelled32 len ++ zeros) ++ pay
    → y ≡ take 16 x ++ sha256 (drop 48 x) ++ drop 48 x → y ≡ magic ++ spelled32 format ++ spelled32 len ++ sha256 pay ++ pay
digest_filled format len pay x y e filled =
    let head = magic ++ spelled32 format ++ spelled32 len in
    let to_data : length (head ++ zeros) ≡ 48 = omega (arith, length-append head zeros, length-head format len) in
    let front : take 16 x ≡ head = ap (take 16) (e ∙ append_assoc head zeros pay) ∙ take_at head (zeros ++ pay) 16 (length-head format len) in
    let rest : drop 48 x ≡ pay = ap (drop 48) e ∙ drop_at (head ++ zeros) pay 48 to_data in
    filled ∙ ap (λ w. w ++ sha256 (drop 48 x) ++ drop 48 x) front ∙ ap (λ w. head ++ sha256 w ++ w) rest

-- what was written through a slice of the whole is the whole
pub written_back : (n : ℕ) (xs ys : List ℕ) → length ys ≡ n → take n (ys ++ drop (length ys) xs) ≡ ys
written_back n xs ys e = take_at ys (drop (length ys) xs) n e

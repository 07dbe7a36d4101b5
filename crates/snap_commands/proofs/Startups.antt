-- What a startup section tells of its script and its shapes.
use Rattle.std.proofs.Common.{◌≡◌, ℕ, zero, suc, ◌+◌, ◌/◌, ◌%◌, ◌<◌, ◌≤◌, ◌^◌, true, false, cond, List, [], ◌∷◌, ◌++◌, length, get_or, refl, sym, ap, ◌∙◌, arith, append_assoc, length-append}
use Rattle.std.specs.Prelude.{nat_lt}
use Rattle.std.specs.List.{flat_map}
use Rattle.std.proofs.lemmas.Option.{slice_get-get_or}
use Rattle.spec_format.specs.Number.{spelled64}
use Rattle.spec_format.specs.Shapes.{AreLawful}
use Rattle.spec_format.specs.Startup.{AreShort, counted, one_script, pair_bytes, script_bytes, startup_bytes}
use Rattle.spec_format.specs.Varint.{varint, varint_within}
use Rattle.spec_sections.proofs.Varints.{same_varint}
use Rattle.snap_blob.proofs.Parts.{front_parts, length-spelled64, same_rest, startup_parts}
use Rattle.snap_blob.specs.Steps.{front_bytes}
use Rattle.snap_ctxfmt.proofs.Fronts.{same_front}

within_some : (more n : ℕ) → 0 < length (varint_within more n)
unfolding varint_within
within_some zero n = omega arith
within_some (suc more) n =
    elim (nat_lt n 128) as (λ b. 0 < length (cond b (n ∷ []) ((128 + n % 128) ∷ varint_within more (n / 128)))) [
      | true ↦ omega arith
      | false ↦ omega arith
    ]

-- a varint has a byte at least
varint_some : (n : ℕ) → 0 < length (varint n)
unfolding varint
varint_some n = within_some 9 n

pairs_long : (pairs : List (ℕ × ℕ)) → length pairs ≤ length (flat_map pair_bytes pairs)
pairs_long [] = omega arith
pairs_long (pair ∷ pairs) =
    omega (arith, length-append (pair_bytes pair) (flat_map pair_bytes pairs), length-append (varint pair.0) (varint pair.1), varint_some pair.0, pairs_long pairs)

-- a section has more bytes than shapes
pub shapes_few : (seed : ℕ) (script : List ℕ) (shapes : List (ℕ × ℕ)) → length shapes ≤ length (startup_bytes (one_script seed script shapes))
shapes_few seed script shapes =
    omega (
      arith,
      ap length (startup_parts seed script shapes),
      length-append (front_bytes seed script) (counted pair_bytes shapes),
      length-append (varint (length shapes)) (flat_map pair_bytes shapes),
      pairs_long shapes,
    )

-- lawful shapes are pairs of numbers of 32 bits
pub lawful_short : (strings : ℕ) (shapes : List (ℕ × ℕ)) → strings < 2 ^ 32 → length shapes < 2 ^ 32 → AreLawful strings shapes → AreShort shapes
lawful_short strings shapes few short lawful = λ i d inside.
    let shape = get_or shapes i d in
    let parent : shape.0 ≤ i = lawful.parents i shape.0 shape.1 (slice_get-get_or shapes i d inside) in
    let name : shape.1 < strings = lawful.names i d inside in
    (omega arith, omega arith)

same_pair : (p q : ℕ × ℕ) → p.0 ≡ q.0 → p.1 ≡ q.1 → p ≡ q
same_pair p q e f = ap (λ (n : ℕ). (n, p.1)) e ∙ ap (λ (n : ℕ). (q.0, n)) f

same_pairs : (one other : List (ℕ × ℕ)) → length one ≡ length other → flat_map pair_bytes one ≡ flat_map pair_bytes other → one ≡ other
same_pairs [] [] len e = refl
same_pairs [] (q ∷ other) len e = absurd (omega (arith, len))
same_pairs (p ∷ one) [] len e = absurd (omega (arith, len))
same_pairs (p ∷ one) (q ∷ other) len e =
    let rest = flat_map pair_bytes one in
    let other_rest = flat_map pair_bytes other in
    let whole : varint p.0 ++ (varint p.1 ++ rest) ≡ varint q.0 ++ (varint q.1 ++ other_rest) =
    sym (append_assoc (varint p.0) (varint p.1) rest) ∙ e ∙ append_assoc (varint q.0) (varint q.1) other_rest in
    let first = same_varint p.0 q.0 (varint p.1 ++ rest) (varint q.1 ++ other_rest) whole in
    let second = same_varint p.1 q.1 rest other_rest first.1 in
    ap (λ (x : ℕ × ℕ). x ∷ one) (same_pair p q first.0 second.0) ∙ ap (λ (xs : List (ℕ × ℕ)). q ∷ xs) (same_pairs one other (omega (arith, len)) second.1)

-- a section has one script and one list of shapes
pub one_startup : (seed other_seed : ℕ) (script other_script : List ℕ) (shapes other_shapes : List (ℕ × ℕ)) → startup_bytes (one_script seed script shapes) ≡ startup_bytes (one_script other_seed other_script other_shapes)
    → (script ≡ other_script) × (shapes ≡ other_shapes)
one_startup seed other_seed script other_script shapes other_shapes e =
    let tail = counted pair_bytes shapes in
    let other_tail = counted pair_bytes other_shapes in
    let whole = sym (startup_parts seed script shapes ∙ front_parts seed script tail) ∙ e ∙ startup_parts other_seed other_script other_shapes ∙ front_parts other_seed other_script other_tail in
    let from_one = same_rest (spelled64 seed) (spelled64 other_seed) (varint 1 ++ (script_bytes script ++ (varint 0 ++ tail))) (varint 1 ++ (script_bytes other_script ++ (varint 0 ++ other_tail))) (length-spelled64 seed ∙ sym (length-spelled64 other_seed)) whole in
    let from_script = (same_varint 1 1 (script_bytes script ++ (varint 0 ++ tail)) (script_bytes other_script ++ (varint 0 ++ other_tail)) from_one).1 in
    let grouped = sym (append_assoc (varint (length script)) script (varint 0 ++ tail)) ∙ from_script ∙ append_assoc (varint (length other_script)) other_script (varint 0 ++ other_tail) in
    let lengths = same_varint (length script) (length other_script) (script ++ (varint 0 ++ tail)) (other_script ++ (varint 0 ++ other_tail)) grouped in
    let from_none = same_rest script other_script (varint 0 ++ tail) (varint 0 ++ other_tail) lengths.0 lengths.1 in
    let tails = (same_varint 0 0 tail other_tail from_none).1 in
    let counts = same_varint (length shapes) (length other_shapes) (flat_map pair_bytes shapes) (flat_map pair_bytes other_shapes) tails in (
      same_front script other_script (varint 0 ++ tail) (varint 0 ++ other_tail) lengths.0 lengths.1,
      same_pairs shapes other_shapes counts.0 counts.1,
    )

-- A startup section in its parts.
use Rattle.std.proofs.Common.{◌≡◌, ℕ, ◌+◌, ◌<◌, ◌≤◌, ◌^◌, List, [], ◌∷◌, ◌++◌, length, get_or, drop, refl, sym, ap, ◌∙◌, arith}
use Rattle.std.specs.Prelude.{map}
use Rattle.std.specs.List.{flat_map}
use Rattle.std.proofs.lemmas.List.{append-nil, append_assoc, drop_at, drop_more, length-append, map_push}
use Rattle.std.proofs.lemmas.List.Concat.{flat_map-append}
use Rattle.std.proofs.lemmas.List.Elements.{All-head, All-tail}
use Rattle.std.proofs.lemmas.Nat.{le_bytes_8}
use Rattle.byteorder.specs.Endian.{little_number}
use Rattle.spec_format.specs.Number.{spelled64}
use Rattle.spec_format.specs.Startup.{AreShort, counted, one_script, pair_bytes, script_bytes, startup_bytes}
use Rattle.spec_format.specs.Varint.{IsVarint, varint}
use Rattle.spec_format.proofs.Spellings.{varint_spelled}
use Rattle.snap_blob.specs.declared.startups.ShapeStep.{ShapeStep}
use Rattle.snap_blob.specs.Steps.{front_bytes, pair_of}

-- a seed is spelled in eight bytes
pub length-spelled64 : (n : ℕ) → length (spelled64 n) ≡ 8
unfolding spelled64
length-spelled64 n = refl

-- the eight bytes that are read spell the number
pub spelled64_number : (bytes : List ℕ) (n : ℕ) → length bytes ≡ 8 → ((i : ℕ) → get_or bytes i 0 < 256) → n ≡ little_number 8 bytes → bytes ≡ spelled64 n
unfolding spelled64
spelled64_number bytes n len small e = sym (le_bytes_8 bytes n len small (e ∙ omega arith))

-- what follows fronts of one length
pub same_rest : (a b x y : List ℕ) → length a ≡ length b → a ++ x ≡ b ++ y → x ≡ y
same_rest a b x y len e = sym (drop_at a x (length a) refl) ∙ ap (drop (length a)) e ∙ drop_at b y (length a) (sym len)

regroup : (a b c d r : List ℕ) → (((a ++ b) ++ c) ++ d) ++ r ≡ a ++ (b ++ (c ++ (d ++ r)))
regroup a b c d r = simp append_assoc

-- the front, field by field
pub front_parts : (seed : ℕ) (script rest : List ℕ) → front_bytes seed script ++ rest ≡ spelled64 seed ++ (varint 1 ++ (script_bytes script ++ (varint 0 ++ rest)))
front_parts seed script rest = regroup (spelled64 seed) (varint 1) (script_bytes script) (varint 0) rest

-- the front that was read field by field
pub front_read : (l0 l1 l2 l3 l4 : List ℕ) (seed n m : ℕ) (script : List ℕ) → l0 ≡ spelled64 seed ++ l1 → l1 ≡ varint n ++ l2 → n ≡ 1
    → l2 ≡ script_bytes script ++ l3 → l3 ≡ varint m ++ l4 → m ≡ 0 → l0 ≡ front_bytes seed script ++ l4
front_read l0 l1 l2 l3 l4 seed n m script e0 e1 one e2 e3 none =
    e0
    ∙ ap (λ w. spelled64 seed ++ w)
    (e1 ∙ ap (λ k. varint k ++ l2) one
    ∙ ap (λ w. varint 1 ++ w) (e2 ∙ ap (λ w. script_bytes script ++ w) (e3 ∙ ap (λ k. varint k ++ l4) none)))
    ∙ sym (front_parts seed script l4)

startup_groups : (a b c d e : List ℕ) → ((a ++ (b ++ (c ++ []))) ++ (d ++ [])) ++ e ≡ (((a ++ b) ++ c) ++ d) ++ e
startup_groups a b c d e = simp (append-nil, append_assoc)

-- a section is its front and the shapes
pub startup_parts : (seed : ℕ) (script : List ℕ) (shapes : List (ℕ × ℕ)) → startup_bytes (one_script seed script shapes) ≡ front_bytes seed script ++ counted pair_bytes shapes
startup_parts seed script shapes = startup_groups (spelled64 seed) (varint 1) (script_bytes script) (varint 0) (counted pair_bytes shapes)

positive_text : (text : List ℕ) (n : ℕ) → IsVarint text n → 0 < length text
positive_text [] n p = absurd p
positive_text (b ∷ bs) n p = omega arith

-- each shape has a byte at least
shapes_long : (shapes : List (ℕ × ℕ)) → AreShort shapes → length shapes ≤ length (flat_map pair_bytes shapes)
shapes_long [] short = omega arith
shapes_long (p ∷ ps) short =
    let P : (ℕ × ℕ) → Type 0 = λ pair. (pair.0 < 2 ^ 32) × (pair.1 < 2 ^ 32) in
    let first = All-head P p ps short in
    let first_fits : p.0 < 2 ^ 32 = first.0 in
    let parent = positive_text (varint p.0) p.0 (varint_spelled p.0 (omega arith)) in
    let rest = shapes_long ps (All-tail P p ps short) in
    omega (arith, rest, parent, length-append (pair_bytes p) (flat_map pair_bytes ps), length-append (varint p.0) (varint p.1))

-- a section is longer than its script, and has more bytes than shapes
pub parts_fit : (section : List ℕ) (seed : ℕ) (script : List ℕ) (shapes : List (ℕ × ℕ)) → AreShort shapes → length section < 2 ^ 32
    → section ≡ startup_bytes (one_script seed script shapes) → (length script < 2 ^ 32) × (length shapes < 2 ^ 64)
parts_fit section seed script shapes short len e =
    let front = front_bytes seed script in
    let whole = e ∙ startup_parts seed script shapes in
    let total : length section ≡ length front + length (counted pair_bytes shapes) = ap length whole ∙ length-append front (counted pair_bytes shapes) in
    let script_len : length script ≤ length front =
    omega (
      arith,
      length-append (spelled64 seed ++ varint 1 ++ script_bytes script) (varint 0),
      length-append (spelled64 seed ++ varint 1) (script_bytes script),
      length-append (varint (length script)) script,
    ) in
    let shapes_len : length shapes ≤ length (counted pair_bytes shapes) =
    omega (arith, shapes_long shapes short, length-append (varint (length shapes)) (flat_map pair_bytes shapes)) in
    (omega arith, omega arith)

-- the shapes that are left from a place on
pub shapes_left : (left : List ℕ) (shapes : List (ℕ × ℕ)) (rest : List ℕ) (i : ℕ) → i < length shapes → left ≡ flat_map pair_bytes (drop i shapes) ++ rest
    → left ≡ pair_bytes (get_or shapes i (0, 0)) ++ (flat_map pair_bytes (drop (i + 1) shapes) ++ rest)
shapes_left left shapes rest i lt e =
    e
    ∙ ap (λ w. flat_map pair_bytes w ++ rest) (drop_more shapes i (0, 0) lt)
    ∙ append_assoc (pair_bytes (get_or shapes i (0, 0))) (flat_map pair_bytes (drop (i + 1) shapes)) rest

-- one shape more was read
pub shapes_read : (whole count left next : List ℕ) (shapes more : List ShapeStep) (shape : ShapeStep)
    → whole ≡ count ++ (flat_map pair_bytes (map pair_of shapes) ++ left) → left ≡ pair_bytes (pair_of shape) ++ next → more ≡ shapes ++ shape ∷ []
    → whole ≡ count ++ (flat_map pair_bytes (map pair_of more) ++ next)
shapes_read whole count left next shapes more shape e read pushed =
    let before = flat_map pair_bytes (map pair_of shapes) in
    let one = pair_bytes (pair_of shape) in
    let after : flat_map pair_bytes (map pair_of more) ≡ before ++ one =
    ap (λ w. flat_map pair_bytes (map pair_of w)) pushed
    ∙ ap (flat_map pair_bytes) (map_push pair_of shapes shape)
    ∙ flat_map-append pair_bytes (map pair_of shapes) (pair_of shape ∷ [])
    ∙ ap (λ w. before ++ w) (append-nil one) in
    e
    ∙ ap (λ w. count ++ (before ++ w)) read
    ∙ ap (λ w. count ++ w) (sym (append_assoc before one next))
    ∙ ap (λ w. count ++ (w ++ next)) (sym after)

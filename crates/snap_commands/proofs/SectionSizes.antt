-- How long the sections of a startup snapshot are.
use Rattle.std.proofs.Common.{◌≡◌, ℕ, zero, suc, ◌+◌, ◌*◌, ◌/◌, ◌%◌, ◌≤◌, true, false, cond, List, [], ◌∷◌, ◌++◌, length, refl, arith, length-append}
use Rattle.std.specs.Prelude.{◌==◌, nat_lt}
use Rattle.std.specs.List.{concat, flat_map}
use Rattle.sha2.specs.Sha256.{sha256}
use Rattle.sha2.proofs.Facts256.{length-sha256}
use Rattle.spec_format.specs.Container.{container, end_entry, magic, payload}
use Rattle.spec_format.specs.Number.{ends_from, spelled32, spelled64}
use Rattle.spec_format.specs.Startup.{counted, one_script, pair_bytes, script_bytes, startup_bytes}
use Rattle.spec_format.specs.Strings.{string_list}
use Rattle.spec_format.specs.Varint.{varint, varint_within}
use Rattle.spec_format.proofs.Numbers.{length-spelled32, length-spelled32_all}
use Rattle.spec_format.proofs.Pieces.{length-ends_from}
use Rattle.spec_sections.specs.Global.{global_node, global_section, text_number, value_bytes, zigzag}
use Rattle.snap_blob.proofs.Parts.{length-spelled64}
use Rattle.snap_graph.specs.declared.value.Value.{Value}
use Rattle.snap_graph.specs.declared.value.Value.TheVariants as value
use Rattle.snap_commands.specs.Strings.{mass}

varint_within_short : (more n : ℕ) → length (varint_within more n) ≤ suc more
unfolding varint_within
varint_within_short zero n = omega arith
varint_within_short (suc more) n =
    let rest = varint_within_short more (n / 128) in
    elim (nat_lt n 128) as (λ b. length (cond b (n ∷ []) ((128 + n % 128) ∷ varint_within more (n / 128))) ≤ suc (suc more)) [
      | true ↦ omega arith
      | false ↦ omega (arith, rest)
    ]

-- a varint has ten bytes at the most
pub varint_short : (n : ℕ) → length (varint n) ≤ 10
unfolding varint
varint_short n = varint_within_short 9 n

-- ---- the startup section

pairs_short : (pairs : List (ℕ × ℕ)) → length (flat_map pair_bytes pairs) ≤ 20 * length pairs
pairs_short [] = omega arith
pairs_short (pair ∷ pairs) =
    omega (arith, length-append (pair_bytes pair) (flat_map pair_bytes pairs), length-append (varint pair.0) (varint pair.1), varint_short pair.0, varint_short pair.1, pairs_short pairs)

counted_pairs_short : (pairs : List (ℕ × ℕ)) → length (counted pair_bytes pairs) ≤ 10 + 20 * length pairs
counted_pairs_short pairs = omega (arith, length-append (varint (length pairs)) (flat_map pair_bytes pairs), varint_short (length pairs), pairs_short pairs)

script_short : (script : List ℕ) → length (counted script_bytes (script ∷ [])) ≤ 20 + length script
script_short script =
    omega (arith, length-append (varint 1) (script_bytes script ++ []), length-append (script_bytes script) [], length-append (varint (length script)) script, varint_short 1, varint_short (length script))

-- a startup section of one script has few bytes beside the script and the shapes
pub startup_short : (seed : ℕ) (script : List ℕ) (shapes : List (ℕ × ℕ)) → length (startup_bytes (one_script seed script shapes)) ≤ 48 + length script + 20 * length shapes
startup_short seed script shapes =
    let scripts = counted script_bytes (script ∷ []) in
    let functions = counted pair_bytes [] in
    let pairs = counted pair_bytes shapes in
    omega (
      arith,
      length-append (spelled64 seed ++ scripts ++ functions) pairs,
      length-append (spelled64 seed ++ scripts) functions,
      length-append (spelled64 seed) scripts,
      length-spelled64 seed,
      script_short script,
      counted_pairs_short [],
      counted_pairs_short shapes,
    )

-- ---- the context section

value_short : (strings : List (List ℕ)) (v : Value) → length (value_bytes strings v) ≤ 11
value_short strings value.Undefined = omega arith
value_short strings value.Null = omega arith
value_short strings (value.Bool true) = omega arith
value_short strings (value.Bool false) = omega arith
value_short strings (value.Int z) = omega (arith, varint_short (zigzag z))
value_short strings (value.Text text) = omega (arith, varint_short (text_number strings text))
value_short strings (value.Node node) =
    let own = varint_short 0 in
    let other = varint_short node in
    elim (node == global_node) as (λ b. length (cond b (0x08 ∷ varint 0) (0x07 ∷ varint node)) ≤ 11) [
      | true ↦ omega (arith, own)
      | false ↦ omega (arith, other)
    ]
value_short strings value.Empty = omega arith

values_short : (strings : List (List ℕ)) (values : List Value) → length (flat_map (value_bytes strings) values) ≤ 11 * length values
values_short strings [] = omega arith
values_short strings (v ∷ values) =
    omega (arith, length-append (value_bytes strings v) (flat_map (value_bytes strings) values), value_short strings v, values_short strings values)

-- the section of the global object has few bytes beside its values
pub section_short : (strings : List (List ℕ)) (shape : ℕ) (values : List Value) → length (global_section strings shape values) ≤ 60 + 11 * length values
section_short strings shape values =
    let object = 0x09 ∷ 0x10 ∷ 0x00 ∷ 0x07 ∷ 0x00 ∷ 0x20 ∷ varint shape in
    let held = flat_map (value_bytes strings) values in
    let none = varint 0 in
    omega (
      arith,
      length-append (varint 1 ++ object ++ held ++ none ++ none) (0x00 ∷ 0x00 ∷ []),
      length-append (varint 1 ++ object ++ held ++ none) none,
      length-append (varint 1 ++ object ++ held) none,
      length-append (varint 1 ++ object) held,
      length-append (varint 1) object,
      varint_short 1,
      varint_short shape,
      varint_short 0,
      values_short strings values,
    )

-- ---- the strings

concat_short : (strings : List (List ℕ)) → 4 * length strings + length (concat strings) ≤ 4 * mass strings
concat_short [] = omega arith
concat_short (s ∷ strings) = omega (arith, length-append s (concat strings), concat_short strings)

-- a list of strings has few bytes beside what the strings hold
pub strings_short : (strings : List (List ℕ)) → length (string_list strings [] []) ≤ 8 + 4 * mass strings
strings_short strings =
    let counts = spelled32 (length strings) ++ spelled32 0 in
    let ends = flat_map spelled32 (ends_from 0 strings) in
    omega (
      arith,
      length-append (counts ++ ends ++ [] ++ concat strings) [],
      length-append (counts ++ ends ++ []) (concat strings),
      length-append (counts ++ ends) [],
      length-append counts ends,
      length-append (spelled32 (length strings)) (spelled32 0),
      length-spelled32 (length strings),
      length-spelled32 0,
      length-spelled32_all (ends_from 0 strings),
      length-ends_from 0 strings,
      concat_short strings,
    )

-- ---- the container

payload_length : (sections : List (List ℕ)) → length (payload sections) ≡ 4 + 4 * length sections + length (concat sections)
payload_length sections =
    let start = end_entry (length sections) in
    let count = spelled32 (length sections) in
    let ends = flat_map spelled32 (ends_from start sections) in
    omega (arith, length-append (count ++ ends) (concat sections), length-append count ends, length-spelled32 (length sections), length-spelled32_all (ends_from start sections), length-ends_from start sections)

container_length : (format : ℕ) (sections : List (List ℕ)) → length (container format sections) ≡ 48 + length (payload sections)
container_length format sections =
    let held = payload sections in
    let version = spelled32 format in
    let whole = spelled32 (48 + length held) in
    let digest = sha256 held in
    let eight : length magic ≡ 8 = refl in
    omega (
      arith,
      length-append (magic ++ version ++ whole ++ digest) held,
      length-append (magic ++ version ++ whole) digest,
      length-append (magic ++ version) whole,
      length-append magic version,
      eight,
      length-spelled32 format,
      length-spelled32 (48 + length held),
      length-sha256 held,
    )

-- a container of four sections, the first of which is one byte
pub container_short : (strings startup context : List ℕ) → length (container 1 ((0 ∷ []) ∷ strings ∷ startup ∷ context ∷ [])) ≡ 69 + length strings + length startup + length context
container_short strings startup context =
    let sections = (0 ∷ []) ∷ strings ∷ startup ∷ context ∷ [] in
    let held : length (concat sections) ≡ 1 + length strings + length startup + length context =
    omega (arith, length-append (0 ∷ []) (concat (strings ∷ startup ∷ context ∷ [])), length-append strings (concat (startup ∷ context ∷ [])), length-append startup (concat (context ∷ [])), length-append context []) in
    omega (arith, container_length 1 sections, payload_length sections, held)

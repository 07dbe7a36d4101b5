-- A context section whose one private node is the global object, with primitive values and the values
-- that it has in each context.
use Rattle.std.specs.Prelude.{ℕ, ◌+◌, ◌*◌, ◌==◌, ℤ, pos, negsuc, true, false, if◌then◌else◌, unwrap_or, position, List, [], ◌∷◌, ◌++◌}
use Rattle.std.specs.List.{flat_map}
use Rattle.std.specs.Str.{bytes_eq}
use Rattle.spec_format.specs.Varint.{varint}
use Rattle.snap_graph.specs.declared.intrinsic.TheConstants.{GLOBAL_OBJECT}
use Rattle.snap_graph.specs.declared.value.Value.{Value}
use Rattle.snap_graph.specs.declared.value.Value.TheVariants.{Undefined, Null, Bool, Int, Text, Node, Empty}

-- n at 0 and above becomes 2 n, and below 0 it becomes -2 n - 1
abbrev pub zigzag : ℤ → ℕ
zigzag (pos n) = 2 * n
zigzag (negsuc n) = 2 * n + 1

-- the number of a text among the strings
abbrev pub text_number : List (List ℕ) → List ℕ → ℕ
text_number strings text = unwrap_or (position (bytes_eq text) strings) 0

-- the number of the global object: the node behind the intrinsics
abbrev pub global_node : ℕ
global_node = GLOBAL_OBJECT

-- a value; the global object is the private node that was brought in before, and other nodes are intrinsics
abbrev pub value_bytes : List (List ℕ) → Value → List ℕ
value_bytes strings Undefined = 0x00 ∷ []
value_bytes strings Null = 0x01 ∷ []
value_bytes strings (Bool false) = 0x02 ∷ []
value_bytes strings (Bool true) = 0x03 ∷ []
value_bytes strings Empty = 0x04 ∷ []
value_bytes strings (Int z) = 0x05 ∷ varint (zigzag z)
value_bytes strings (Text text) = 0x06 ∷ varint (text_number strings text)
value_bytes strings (Node node) = if node == global_node then 0x08 ∷ varint 0 else 0x07 ∷ varint node

-- One private node, brought in as the global object: plain, not frozen, with Object.prototype as its
-- prototype, its properties by a shape, and no elements; no callbacks, and no main function.
abbrev pub global_section : List (List ℕ) → ℕ → List Value → List ℕ
global_section strings shape values =
    varint 1 ++ 0x09 ∷ 0x10 ∷ 0x00 ∷ 0x07 ∷ 0x00 ∷ 0x20 ∷ varint shape ++ flat_map (value_bytes strings) values
    ++ varint 0 ++ varint 0 ++ 0x00 ∷ 0x00 ∷ []

-- The order of a node's own keys (ECMA-262, 10.1.11.1): array indices first, ascending, and then the others in order of creation.
use Rattle.std.specs.Prelude.{ℕ, ◌&&◌, nat_lt, List, [], ◌∷◌, Option, None, Some, unwrap_or, if◌then◌else◌}
use Rattle.std.specs.Fmt.{decimal}
use Rattle.std.specs.Str.{bytes_eq as text_eq}
use Rattle.std.specs.Str.Parse.{digits_value}
use Rattle.snap_graph.specs.declared.value.Property.{Property}

-- the least number that is no array index, 2^32 - 1
abbrev pub index_end : ℕ
index_end = 4294967295

-- the array index that a text is: a number is the text of only one index (ECMA-262, 6.1.7 and 7.1.21)
abbrev pub array_index : List ℕ → Option ℕ
array_index text =
    let n = digits_value 10 text in
    if nat_lt n index_end && text_eq text (decimal n) then Some n else None

-- where a key stands among own keys: an index at its number, and any other key behind all indices
abbrev pub key_rank : List ℕ → ℕ
key_rank key = unwrap_or (array_index key) index_end

-- properties with one more, which was created before them all
abbrev pub put_in_order : Property → List Property → List Property
put_in_order property [] = property ∷ []
put_in_order property (first ∷ rest) =
    if nat_lt (key_rank first.key) (key_rank property.key) then first ∷ put_in_order property rest else property ∷ first ∷ rest

-- the properties in the order of own keys, given those in order of creation
abbrev pub own_order : List Property → List Property
own_order [] = []
own_order (first ∷ rest) = put_in_order first (own_order rest)

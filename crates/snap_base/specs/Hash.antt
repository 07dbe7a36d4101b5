-- The hash of a text under a seed.
use Rattle.std.specs.Prelude.{ℕ, ◌*◌, ◌/◌, ◌%◌, ◌^◌, List, fold, bit_xor}

-- one more unit is mixed into what has been gathered
abbrev pub mixed : ℕ → ℕ → ℕ
mixed gathered unit = (bit_xor gathered unit * 1099511628211) % 2 ^ 64

-- the seed with each unit mixed in, in order, and its high half mixed into its low half
abbrev pub hash_of : ℕ → List ℕ → ℕ
hash_of seed text = let gathered = fold mixed seed text in bit_xor gathered (gathered / 2 ^ 32)

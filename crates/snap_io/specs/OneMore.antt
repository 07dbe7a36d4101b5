-- A count of faults that rises by one.
use Rattle.std.specs.Prelude.{◌≡◌, ℕ, ◌+◌, ◌-◌, ◌^◌, min}

-- one more than before, up to the greatest number of 64 bits
abbrev pub IsOneMore : ℕ → ℕ → Type 0
IsOneMore before now = now ≡ min (before + 1) (2 ^ 64 - 1)

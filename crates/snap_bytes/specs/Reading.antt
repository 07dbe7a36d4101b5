-- What a reader of varints answers.
use Rattle.std.specs.Prelude.{◌≡◌, ℕ, ◌+◌, ◌<◌, ◌≤◌, List, length, slice_index}
use Rattle.spec_format.specs.Varint.{HasNoLastByte, IsBadVarint}
use Rattle.snap_bytes.specs.Place.{Place}
use Rattle.snap_bytes.specs.declared.fault.ByteFault.{ByteFault}
use Rattle.snap_bytes.specs.declared.fault.ByteFault.TheVariants.{Truncated, BadNumber}

-- the byte at the place ends the text, and it alone is below 128
pub record IsWhole (text : List ℕ) (last : ℕ) : Type 0 where
  pub len : length text ≡ last + 1
  pub ends : slice_index text last < 128
  pub goes_on : (k : ℕ) → k < last → 128 ≤ slice_index text k

-- the fault is that of the varint at a place
abbrev pub IsVarintFault : Place → ByteFault → Type 0
IsVarintFault place (Truncated at) = HasNoLastByte place.left × (at ≡ place.at)
IsVarintFault place (BadNumber at) = IsBadVarint place.left × (at ≡ place.at)

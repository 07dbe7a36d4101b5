-- Texts that are parts of buffers.
use Rattle.std.specs.Prelude.{◌≡◌, ℕ, ◌+◌, ◌^◌, ◌<◌, ◌≤◌, Bool, true, false, nat_lt, List, [], ◌++◌, length, map, take, drop, slice_index_or, Result, Ok, Err}
use Rattle.std.proofs.Common.{Vec, Global}
use Rattle.snap_base.specs.declared.limits.TheConstants.{MOST_ITEMS}
use Rattle.snap_arena.specs.declared.fault.JoinFault.{JoinFault}
use Rattle.snap_arena.specs.declared.fault.JoinFault.TheVariants.{TooLong, NoMemory}
use Rattle.snap_arena.specs.declared.held.HeldText.{HeldText}

-- the units of a held text: so many from a place of a buffer on
unfoldable pub text_in : List (List ℕ) → HeldText → List ℕ
text_in buffers held = take held.length (drop held.start (slice_index_or buffers held.buffer []))

-- a held text stands in its buffer
unfoldable pub IsHeld : List (List ℕ) → HeldText → Type 0
IsHeld buffers held = held.start + held.length ≤ length (slice_index_or buffers held.buffer [])

-- each buffer begins with what it was
unfoldable pub Extends : List (List ℕ) → List (List ℕ) → Type 0
Extends before after = (k : ℕ) → (rest : List ℕ) × (slice_index_or after k [] ≡ slice_index_or before k [] ++ rest)

-- two texts have more units than one text may have
abbrev pub is_too_long : List ℕ → List ℕ → Bool
is_too_long left right = nat_lt MOST_ITEMS (length left + length right)

-- refused with TooLong exactly where there would be too many units, but for want of memory
abbrev pub JoinsWhere : Bool → Result HeldText JoinFault → Type 0
JoinsWhere long (Ok held) = long ≡ false
JoinsWhere long (Err TooLong) = long ≡ true
JoinsWhere long (Err NoMemory) = Unit {0}

-- what buffers hold
abbrev pub contents : List (Vec ℕ Global) → List (List ℕ)
contents buffers = map (λ buffer. buffer.items) buffers

-- each place of a buffer is a number of 32 bits
unfoldable pub AreSmall : List (List ℕ) → Type 0
AreSmall buffers = (k : ℕ) → length (slice_index_or buffers k []) < 2 ^ 32

-- a text came to be held, and what was held still is
pub record IsAdded (before : List (List ℕ)) (text : List ℕ) (after : List (List ℕ)) (held : HeldText) : Type 0 where
  pub stands : IsHeld after held
  pub units : text_in after held ≡ text
  pub grown : Extends before after

-- Counts of faults. Each stops at the greatest number of 64 bits and never falls.
use Rattle.std.specs.Prelude.{◌≡◌, ℕ, ◌+◌, ◌-◌, ◌^◌, ◌≤◌, min, Result, Ok, Err}
use Rattle.snap_io.specs.declared.answers.ReadAnswer.{ReadAnswer}
use Rattle.snap_io.specs.declared.answers.WriteAnswer.{WriteAnswer}
use Rattle.snap_io.specs.declared.answers.ReadAnswer.TheVariants as read
use Rattle.snap_io.specs.declared.answers.WriteAnswer.TheVariants as write

-- the count rose, or stands at its last value
abbrev pub HasRisen : ℕ → ℕ → Type 0
HasRisen before now = min (before + 1) (2 ^ 64 - 1) ≤ now

-- the count of reads: it rises where the read failed, and stays elsewhere
abbrev pub CountsRead : {T : Type 0} → Result T ReadAnswer → ℕ → ℕ → Type 0
CountsRead (Ok _) before now = now ≡ before
CountsRead (Err read.TooLong) before now = now ≡ before
CountsRead (Err read.NoMemory) before now = now ≡ before
CountsRead (Err read.Failed) before now = HasRisen before now × (before ≤ now)

-- the count of writes, in the same way
abbrev pub CountsWrite : {T : Type 0} → Result T WriteAnswer → ℕ → ℕ → Type 0
CountsWrite (Ok _) before now = now ≡ before
CountsWrite (Err write.NoMemory) before now = now ≡ before
CountsWrite (Err write.Failed) before now = HasRisen before now × (before ≤ now)

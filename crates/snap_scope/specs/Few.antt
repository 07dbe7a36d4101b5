-- The first few names of a scope, as slots.
use Rattle.std.specs.Prelude.{ℕ, ◌+◌, ◌≤◌, List, take, drop}
use Rattle.snap_scope.specs.declared.few.SlotName.{SlotName}
use Rattle.spec_scopes.specs.Scopes.{Slot}

-- the slot of a name whose bytes stand among these
abbrev pub slot_at : List ℕ → SlotName → Slot
slot_at bytes name = record { name = take name.count (drop name.first bytes); is_constant = name.is_constant }

-- the bytes of the name are among so many
abbrev pub IsSlotName : ℕ → SlotName → Type 0
IsSlotName many name = name.first + name.count ≤ many

use Rattle.std.proofs.Common.{ℕ, All, List, Option}
use Rattle.snap_store.specs.Keyed.{IsKeyed}
use Rattle.snap_arena.specs.Texts.{Extends}
use Rattle.snap_store.specs.Kept.{ArePropertiesKept}
use Rattle.snap_text.specs.declared.key.Key.{Key}
use Rattle.snap_store.proofs.plain_kept.kept_properties.Given as goal

-- those so far
abbrev pub invariant-loop-property : goal.invariant-loop-property
invariant-loop-property l = Extends l.initial.texts l.texts × ArePropertiesKept l.texts l.kept.items l.yielded
    × ((key_of : List ℕ → Option Key) → All (IsKeyed key_of) l.kept.items)

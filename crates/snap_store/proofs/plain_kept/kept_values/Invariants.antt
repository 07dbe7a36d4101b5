use Rattle.snap_arena.specs.Texts.{Extends}
use Rattle.snap_store.specs.Kept.{AreKept}
use Rattle.snap_store.proofs.plain_kept.kept_values.Given as goal

-- those so far
abbrev pub invariant-loop-value : goal.invariant-loop-value
invariant-loop-value l = Extends l.initial.texts l.texts × AreKept l.texts l.kept.items l.yielded

use Rattle.std.proofs.Common.{◌≡◌, map}
use Rattle.snap_store.proofs.plain_order.bare_keys.Given as goal

-- those so far
abbrev pub invariant-loop-one : goal.invariant-loop-one
invariant-loop-one l = l.keys.items ≡ map (λ one. one.key) l.yielded

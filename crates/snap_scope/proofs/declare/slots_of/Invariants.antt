use Rattle.std.proofs.Common.{◌≡◌, map, take}
use Rattle.snap_scope.proofs.Apart.{AreApart}
use Rattle.snap_scope.specs.Names.{all_declared}
use Rattle.spec_scopes.specs.Scopes.{slot_of}
use Rattle.snap_scope.proofs.declare.slots_of.Given as goal

-- the names so far have their slots, and none repeats
abbrev pub invariant-loop-name : goal.invariant-loop-name
invariant-loop-name l = record {
  slots : l.slots ≡ map slot_of (take l.name-index (all_declared l.names));
  apart : AreApart (all_declared l.names) l.name-index;
}

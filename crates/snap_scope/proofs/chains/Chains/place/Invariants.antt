use Rattle.std.proofs.Common.{◌≡◌, map, drop}
use Rattle.snap_scope.specs.Chains.{chain_in, scope_in}
use Rattle.spec_scopes.specs.Slots.{place_of}
use Rattle.snap_scope.proofs.Levels.{pushed_out}
use Rattle.snap_scope.proofs.chains.Chains.place.Given as goal

-- the place, seen from where the loop has come, that many scopes further out
abbrev pub invariant-loop-hops : goal.invariant-loop-hops
invariant-loop-hops l = place_of (chain_in l.self l.number) l.name ≡ pushed_out l.hops (place_of (map (scope_in l.self.scopes) (drop l.hops l.scope-items)) l.name)

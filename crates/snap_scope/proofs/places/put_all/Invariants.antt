use Rattle.std.proofs.Common.{◌≡◌, ◌++◌, map, drop}
use Rattle.snap_scope.specs.Chains.{chain_in}
use Rattle.snap_scope.specs.Names.{all_declared, names_in}
use Rattle.spec_scopes.specs.Slots.{place_of}
use Rattle.snap_scope.proofs.places.put_all.Given as goal

-- what is added so far, with what is left to add, is all
abbrev pub invariant-loop-name : goal.invariant-loop-name
invariant-loop-name l = l.out.items ++ map (place_of (chain_in l.chains l.chain)) (names_in (all_declared (drop l.name-index l.names)))
    ≡ l.initial.out.items ++ map (place_of (chain_in l.chains l.chain)) (names_in (all_declared l.names))

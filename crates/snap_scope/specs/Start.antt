-- What is known before any node is visited.
use Rattle.std.specs.Prelude.{◌≡◌, ℕ, false, List, [], ◌∷◌, replicate}
use Rattle.snap_graph.specs.declared.kind.ScopeKind.TheVariants.{Script}
use Rattle.snap_scope.specs.declared.visiting.Pass.{Pass}
use Rattle.spec_scopes.specs.Scopes.{Slot}

abbrev pub IsStart : ℕ → List Slot → Pass → Type 0
IsStart count slots pass = (pass.chains.scopes ≡ record { kind = Script; slots = slots } ∷ []) × (pass.chains.chains ≡ (record { kind = Script; slots = slots } ∷ []) ∷ [])
    × (pass.contexts.items ≡ replicate count (record { chain = 0; in_loop = false; in_function = false })) × (pass.entries.items ≡ []) × (pass.places.items ≡ [])

-- Literals that a store holds.
use Rattle.std.specs.Prelude.{◌≡◌}
use Rattle.std.specs.Option.{ForSome}
use Rattle.snap_store.specs.declared.store.Store.{Ghosts}
use Rattle.snap_action.specs.declared.literals.Literal.{Literal}

-- what is kept of a literal is the store's own, and stands for its value
abbrev pub StandsFor : {S H : Type 0} → Ghosts S H → S → Literal H → Type 0
StandsFor store now literal = ForSome literal.held (λ held. store.owns now held × (store.meaning now held ≡ literal.value))

-- What is found in the global object.
use Rattle.std.specs.Prelude.{◌≡◌, ℕ, List, Option, Some}
use Rattle.snap_graph.specs.declared.value.Value.{Value}
use Rattle.snap_store.specs.declared.store.Store.{Ghosts}
use Rattle.snap_action.specs.Gives.{Shows, owned_some, view_some}
use Rattle.snap_object.specs.declared.globals.FoundGlobal.{FoundGlobal}

-- what a name stands for, seen as the value, if there is one; its key is that of the name
abbrev pub as_global : {S H : Type 0} → Ghosts S H → S → List ℕ → Shows (FoundGlobal H) (Option Value)
as_global store now name = record { view = λ found. view_some (store.meaning now) found.held; owned = λ found. owned_some (store.owns now) found.held × (store.key_of now name ≡ Some found.key) }

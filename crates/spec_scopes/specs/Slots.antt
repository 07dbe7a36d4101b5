-- The slot of a name, and those of the names that a node mentions.
use Rattle.std.specs.Prelude.{ℕ, suc, List, [], ◌∷◌, map, get_or, position, false, Option, None, Some}
use Rattle.std.specs.Option.{option_map}
use Rattle.std.specs.Str.{bytes_eq as text_eq}
use Rattle.snap_ast.specs.declared.form.Form.{Form}
use Rattle.spec_scopes.specs.declared.place.SlotPlace.{SlotPlace}
use Rattle.spec_scopes.specs.Names.{mentions}
use Rattle.spec_scopes.specs.Scopes.{Scope, Slot}

abbrev pub nameless : Slot
nameless = record { name = []; is_constant = false }

-- a slot of a scope, from inside
abbrev pub at_slot : List Slot → ℕ → SlotPlace
at_slot slots slot = record { hops = 0; slot = slot; constant = (get_or slots slot nameless).is_constant }

-- the slot of a scope that has the name
abbrev pub place_in : List Slot → List ℕ → Option SlotPlace
place_in slots name = option_map (at_slot slots) (position (λ slot. text_eq name slot.name) slots)

-- a place, seen from one scope further in
abbrev pub further : SlotPlace → SlotPlace
further place = record place { hops = suc place.hops }

abbrev pub first_place : Option SlotPlace → Option SlotPlace → Option SlotPlace
first_place (Some place) outer = Some place
first_place None outer = option_map further outer

-- the place of a name in the innermost scope of a chain that holds it
abbrev pub place_of : List Scope → List ℕ → Option SlotPlace
place_of [] name = None
place_of (scope ∷ chain) name = first_place (place_in scope.slots name) (place_of chain name)

-- the places of the names that a node mentions, in the chain round it; none is the place of a global
abbrev pub places : List Scope → Form → List (Option SlotPlace)
places chain form = map (place_of chain) (mentions form)

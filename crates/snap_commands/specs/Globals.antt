-- The globals that a map holds, and the names of a table, without the places of names and texts in memory.
use Rattle.std.specs.Prelude.{ℕ, List, map}
use Rattle.std.specs.Borrow.{Bor}
use Rattle.snap_graph.specs.declared.value.Property.{Property}
use Rattle.snap_commands.specs.declared.statement.Literal.{Literal}
use Rattle.snap_commands.specs.Properties.{own}
use Rattle.snap_commands.specs.Thin.{Globals, value_of}

-- the entries of a map
abbrev pub entries_of : List (Bor (List ℕ) × Literal) → Globals
entries_of entries = map (λ (e : Bor (List ℕ) × Literal). (e.0.now, value_of e.1)) entries

-- a property that holds a node
abbrev pub own_of : Bor (List ℕ) × ℕ → Property
own_of entry = own entry.0.now entry.1

-- the bytes of texts
abbrev pub spelled : List (Bor (List ℕ)) → List (List ℕ)
spelled texts = map (λ (text : Bor (List ℕ)). text.now) texts

-- the names of a table
abbrev pub names_of : List (Bor (List ℕ) × ℕ) → List (List ℕ)
names_of entries = map (λ (entry : Bor (List ℕ) × ℕ). entry.0.now) entries

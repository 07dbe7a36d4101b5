-- What a context section denotes consists of bytes, and how what is found there is told.
use Rattle.std.proofs.Common.{ℕ, All, Contains, List, length, get_or, Option, Some, None, Result, Ok, Err, subst}
use Rattle.std.specs.Prelude.{IfNone, IfOk, IfSome}
use Rattle.std.specs.Global.{Vec}
use Rattle.std.proofs.lemmas.Option.{get_or_from_slice_get, slice_get_within}
use Rattle.spec_format.specs.Number.{AreBytes}
use Rattle.spec_format.specs.Shapes.{AreLawful}
use Rattle.spec_sections.specs.Properties.{DenotesGlobal, IsGlobalValue}
use Rattle.snap_base.specs.declared.NoMemory.{NoMemory}
use Rattle.snap_graph.specs.declared.value.Property.{Property}
use Rattle.snap_graph.specs.declared.value.Value.{Value}
use Rattle.snap_graph.specs.declared.value.Value.TheVariants as value
use Rattle.snap_commands.specs.Kept.{IsHeld, StandsInBlob}
use Rattle.snap_commands.proofs.KeysApart.{key_at}

-- one of some texts of bytes has bytes
among_bytes : (strings : List (List ℕ)) (text : List ℕ) → All AreBytes strings → Contains strings text → AreBytes text
among_bytes strings text bytes (i, within, is) = subst AreBytes is (bytes i text within)

-- a value that a global object may hold, where all strings consist of bytes
is_held : (strings : List (List ℕ)) (v : Value) → All AreBytes strings → IsGlobalValue strings v → IsHeld v
is_held strings value.Undefined bytes may = tt
is_held strings value.Null bytes may = tt
is_held strings (value.Bool b) bytes may = tt
is_held strings (value.Int z) bytes may = may
is_held strings (value.Text text) bytes may = among_bytes strings text bytes may
is_held strings (value.Node node) bytes may = tt
is_held strings value.Empty bytes may = tt

-- the properties that a section denotes
pub stand : (strings : List (List ℕ)) (shapes : List (ℕ × ℕ)) (section : List ℕ) (properties : List Property) → All AreBytes strings → DenotesGlobal strings shapes section properties → All StandsInBlob properties
stand strings shapes section properties bytes denotes = λ i p inside.
    let key = (get_or properties i p).key in
    let at = key_at strings denotes.names properties i p denotes.are_properties.keys inside in
    let place = get_or denotes.names i 0 in (
      subst AreBytes (get_or_from_slice_get strings place key key at) (bytes place key (slice_get_within strings place key at)),
      is_held strings (get_or properties i p).value bytes (denotes.are_properties.values i p inside),
    )

some_stand : (strings : List (List ℕ)) (shapes : List (ℕ × ℕ)) (section : List ℕ) (o : Option (Vec Property)) → All AreBytes strings → IfSome o (λ ps. DenotesGlobal strings shapes section ps.items) → IfSome o (λ ps. All StandsInBlob ps.items)
some_stand strings shapes section None bytes denotes = tt
some_stand strings shapes section (Some ps) bytes denotes = stand strings shapes section ps.items bytes denotes

pub all_stand : (strings : List (List ℕ)) (shapes : List (ℕ × ℕ)) (section : List ℕ) (r : Result (Option (Vec Property)) NoMemory) → All AreBytes strings → IfOk r (λ read. IfSome read (λ ps. DenotesGlobal strings shapes section ps.items))
    → IfOk r (λ read. IfSome read (λ ps. All StandsInBlob ps.items))
all_stand strings shapes section (Err e) bytes denotes = tt
all_stand strings shapes section (Ok o) bytes denotes = some_stand strings shapes section o bytes denotes

none_denoted : (strings : List (List ℕ)) (shapes : List (ℕ × ℕ)) (section : List ℕ) (o : Option (Vec Property)) → IfNone o ((ps : List Property) → DenotesGlobal strings shapes section ps → ⊥)
    → IfNone o ((ps : List Property) → AreLawful (length strings) shapes → DenotesGlobal strings shapes section ps → ⊥)
none_denoted strings shapes section None none = λ ps lawful denotes. none ps denotes
none_denoted strings shapes section (Some ps) none = tt

pub all_none : (strings : List (List ℕ)) (shapes : List (ℕ × ℕ)) (section : List ℕ) (r : Result (Option (Vec Property)) NoMemory) → IfOk r (λ read. IfNone read ((ps : List Property) → DenotesGlobal strings shapes section ps → ⊥))
    → IfOk r (λ read. IfNone read ((ps : List Property) → AreLawful (length strings) shapes → DenotesGlobal strings shapes section ps → ⊥))
all_none strings shapes section (Err e) none = tt
all_none strings shapes section (Ok o) none = none_denoted strings shapes section o none

-- The globals behind the properties that the global object has of its own.
use Rattle.std.proofs.Common.{◌≡◌, All, List, [], ◌∷◌, ◌++◌, Option, Some, None, Result, Ok, Err, map, refl, sym, ap, subst, ◌∙◌}
use Rattle.std.specs.Prelude.{IfOk, MatchOption, drop}
use Rattle.std.specs.Global.{Vec}
use Rattle.std.proofs.lemmas.List.{drop_at}
use Rattle.std.proofs.lemmas.List.Elements.{All-map}
use Rattle.snap_base.specs.declared.NoMemory.{NoMemory}
use Rattle.snap_graph.specs.declared.value.Property.{Property}
use Rattle.snap_commands.specs.declared.kept.Kept.{Kept}
use Rattle.snap_commands.specs.Kept.{IsThinProperty, global_of, kept_globals}
use Rattle.snap_commands.specs.Properties.{own_properties, properties_of, property_of}
use Rattle.snap_commands.specs.Thin.{Globals}
use Rattle.snap_commands.specs.ThinBlob.{IsThinGlobal}

-- a property is that of the global that it is
pub properties_again : (properties : List Property) → map property_of (map global_of properties) ≡ properties
properties_again [] = refl
properties_again (p ∷ properties) = ap (λ (ps : List Property). p ∷ ps) (properties_again properties)

-- and the other way round
pub globals_again : (globals : Globals) → map global_of (map property_of globals) ≡ globals
globals_again [] = refl
globals_again (g ∷ globals) = ap (λ (gs : Globals). g ∷ gs) (globals_again globals)

-- what stands behind the own properties
same_behind : (one other : List Property) → own_properties ++ one ≡ own_properties ++ other → one ≡ other
same_behind one other e = sym (drop_at own_properties one 13 refl) ∙ ap (drop 13) e ∙ drop_at own_properties other 13 refl

-- the globals that properties are of are one list
pub one_globals : (one other : Globals) → properties_of one ≡ properties_of other → one ≡ other
one_globals one other e =
    let rest : map property_of one ≡ map property_of other = same_behind (map property_of one) (map property_of other) e in
    sym (globals_again one) ∙ ap (map global_of) rest ∙ globals_again other

-- what is found among the other properties, said of all
abbrev FoundIn : List Property → Option (Vec Kept) → Type 0
FoundIn rest o = MatchOption o (All IsThinProperty rest → ⊥) (λ list. (kept_globals list.items ≡ map global_of rest) × All IsThinProperty rest)

abbrev FoundBehind : List Property → Option (Vec Kept) → Type 0
FoundBehind properties o = MatchOption o
    ((globals : Globals) → properties ≡ properties_of globals → All IsThinGlobal globals → ⊥)
    (λ list. (properties ≡ properties_of (kept_globals list.items)) × All IsThinGlobal (kept_globals list.items))

found_behind : (properties rest : List Property) (o : Option (Vec Kept)) → properties ≡ own_properties ++ rest → FoundIn rest o → FoundBehind properties o
found_behind properties rest None whole none = λ globals e thin.
    let others : rest ≡ map property_of globals = same_behind rest (map property_of globals) (sym whole ∙ e) in
    none (subst (All IsThinProperty) (sym others) (All-map IsThinProperty property_of globals thin))
found_behind properties rest (Some list) whole found =
    let same : map property_of (kept_globals list.items) ≡ rest = ap (map property_of) found.0 ∙ properties_again rest in (
      whole ∙ ap (λ (ps : List Property). own_properties ++ ps) (sym same),
      subst (All IsThinGlobal) (sym found.0) (All-map IsThinGlobal global_of rest found.1),
    )

pub all_behind : (properties front rest : List Property) (r : Result (Option (Vec Kept)) NoMemory) → properties ≡ front ++ rest → front ≡ own_properties → IfOk r (FoundIn rest) → IfOk r (FoundBehind properties)
all_behind properties front rest (Err e) whole own found = tt
all_behind properties front rest (Ok o) whole own found = found_behind properties rest o (whole ∙ ap (λ (ps : List Property). ps ++ rest) own) found

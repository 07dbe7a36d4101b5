-- The entries of a map of globals.
use Rattle.std.proofs.Common.{◌≡◌, ℕ, ◌+◌, true, false, cond, ◌<◌, List, [], ◌∷◌, ◌++◌, inl, inr, Some, None, arith, length, map, refl, ap, sym, ◌∙◌, append_assoc}
use Rattle.std.specs.Prelude.{slice_get, take}
use Rattle.std.proofs.lemmas.List.{map-append, take_more}
use Rattle.std.proofs.lemmas.Option.{get_or_from_slice_get, none-some, slice_get_cases, slice_get_within}
use Rattle.std.specs.Borrow.{Bor}
use Rattle.std.specs.Map.{lookup}
use Rattle.std.specs.Option.{option_map_or}
use Rattle.std.specs.Str.{bytes_eq}
use Rattle.indexmap.specs.IndexMap.{insert_entry}
use Rattle.snap_graph.specs.declared.value.Value.{Value}
use Rattle.snap_graph.specs.declared.value.Value.TheVariants.{Undefined}
use Rattle.snap_commands.specs.declared.statement.Literal.{Literal}
use Rattle.snap_commands.specs.Globals.{entries_of}
use Rattle.snap_graph.specs.declared.value.Property.{Property}
use Rattle.snap_commands.specs.Properties.{property_of, texts_of, value_texts}
use Rattle.snap_commands.specs.Thin.{assigned, global_value, value_of}

abbrev pub Entry : Type 0
Entry = Bor (List ℕ) × Literal

-- an entry of a map that was lent
abbrev pub pointed : Bor (Bor (List ℕ)) × Bor Literal → Entry
pointed lent = (lent.0.now, lent.1.now)

-- a map that takes an entry holds the globals with the name assigned
pub entries_assigned : (es : List Entry) (k : Bor (List ℕ)) (v : Literal) → entries_of (insert_entry (λ x y. bytes_eq x.now y.now) es k v) ≡ assigned (entries_of es) k.now (value_of v)
entries_assigned [] k v = refl
entries_assigned (e ∷ es) k v =
    elim (bytes_eq k.now e.0.now) as (λ b. entries_of (cond b ((e.0, v) ∷ es) (e ∷ insert_entry (λ x y. bytes_eq x.now y.now) es k v)) ≡ cond b ((e.0.now, value_of v) ∷ entries_of es) ((e.0.now, value_of e.1) ∷ assigned (entries_of es) k.now (value_of v))) [
      | true ↦ refl
      | false ↦ ap (λ (globals : List (List ℕ × Value)). (e.0.now, value_of e.1) ∷ globals) (entries_assigned es k v)
    ]

-- what a name holds is what the map finds, or undefined
pub value_found : (es : List Entry) (name : List ℕ) → global_value (entries_of es) name ≡ option_map_or value_of (lookup (λ x. bytes_eq name x.now) es) Undefined
value_found [] name = refl
value_found (e ∷ es) name =
    elim (bytes_eq name e.0.now) as (λ b. cond b (value_of e.1) (global_value (entries_of es) name) ≡ option_map_or value_of (cond b (Some e.1) (lookup (λ x. bytes_eq name x.now) es)) Undefined) [
      | true ↦ refl
      | false ↦ value_found es name
    ]

-- one entry more
pub entries_more : (es : List Entry) (i : ℕ) (e : Entry) → slice_get es i ≡ Some e → entries_of (take (i + 1) es) ≡ entries_of (take i es) ++ (e.0.now, value_of e.1) ∷ []
entries_more es i e found =
    let within = slice_get_within es i e found in
    let more : take (i + 1) es ≡ take i es ++ e ∷ [] = take_more es i e within ∙ ap (λ (x : Entry). take i es ++ x ∷ []) (get_or_from_slice_get es i e e found) in
    ap entries_of more ∙ map-append (λ (x : Entry). (x.0.now, value_of x.1)) (take i es) (e ∷ [])

-- one property more
pub properties_more : (es : List Entry) (i : ℕ) (e : Entry) (front before after : List Property) → slice_get es i ≡ Some e → before ≡ front ++ map property_of (entries_of (take i es)) → after ≡ before ++ property_of (e.0.now, value_of e.1) ∷ []
    → after ≡ front ++ map property_of (entries_of (take (i + 1) es))
properties_more es i e front before after found so_far pushed =
    let more : map property_of (entries_of (take (i + 1) es)) ≡ map property_of (entries_of (take i es)) ++ property_of (e.0.now, value_of e.1) ∷ [] =
    ap (map property_of) (entries_more es i e found) ∙ map-append property_of (entries_of (take i es)) ((e.0.now, value_of e.1) ∷ []) in
    pushed ∙ ap (λ (xs : List Property). xs ++ property_of (e.0.now, value_of e.1) ∷ []) so_far ∙ append_assoc front (map property_of (entries_of (take i es))) (property_of (e.0.now, value_of e.1) ∷ []) ∙ ap (λ (xs : List Property). front ++ xs) (sym more)

-- an entry stands at each place below the count
pub entry_stands : (es : List Entry) (i : ℕ) → i < length es → slice_get es i ≡ None → ⊥
entry_stands es i within none = elim (slice_get_cases es i).1 [
  | inl here ↦ absurd (none-some here.0 (sym none ∙ here.2))
  | inr past ↦ absurd (omega (arith, past.0, within))
]

-- the texts of properties, and of properties behind them
pub texts_of_both : (ps qs : List Property) → texts_of (ps ++ qs) ≡ texts_of ps ++ texts_of qs
texts_of_both [] qs = refl
texts_of_both (p ∷ ps) qs =
    ap (λ (ts : List (List ℕ)). p.key ∷ value_texts p.value ++ ts) (texts_of_both ps qs) ∙ ap (λ (ts : List (List ℕ)). p.key ∷ ts) (sym (append_assoc (value_texts p.value) (texts_of ps) (texts_of qs)))

-- the texts of one property more
pub texts_more : (es : List Entry) (i : ℕ) (e : Entry) (front before after : List (List ℕ)) → slice_get es i ≡ Some e → before ≡ front ++ texts_of (map property_of (entries_of (take i es))) → after ≡ before ++ texts_of (property_of (e.0.now, value_of e.1) ∷ [])
    → after ≡ front ++ texts_of (map property_of (entries_of (take (i + 1) es)))
texts_more es i e front before after found so_far added =
    let one : List Property = property_of (e.0.now, value_of e.1) ∷ [] in
    let more : texts_of (map property_of (entries_of (take (i + 1) es))) ≡ texts_of (map property_of (entries_of (take i es))) ++ texts_of one =
    ap texts_of (ap (map property_of) (entries_more es i e found) ∙ map-append property_of (entries_of (take i es)) ((e.0.now, value_of e.1) ∷ [])) ∙ texts_of_both (map property_of (entries_of (take i es))) one in
    added ∙ ap (λ (xs : List (List ℕ)). xs ++ texts_of one) so_far ∙ append_assoc front (texts_of (map property_of (entries_of (take i es)))) (texts_of one) ∙ ap (λ (xs : List (List ℕ)). front ++ xs) (sym more)

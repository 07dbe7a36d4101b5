-- A map of globals whose names are apart, made one by one.
use Rattle.std.proofs.Common.{◌≡◌, ℕ, suc, ◌+◌, ◌<◌, Bool, true, false, cond, Contains, List, [], ◌∷◌, ◌++◌, length, get_or, map, refl, sym, ap, ◌∙◌, arith}
use Rattle.std.specs.Prelude.{take}
use Rattle.std.proofs.lemmas.List.{get_or-map, get_or-take, length-map, length-take-le, map_push, take-map, take_more}
use Rattle.std.proofs.lemmas.Slice.Eq.{bytes_eq-Decides}
use Rattle.std.specs.Str.{bytes_eq}
use Rattle.snap_graph.specs.declared.value.Value.{Value}
use Rattle.snap_commands.specs.declared.kept.Kept.{Kept}
use Rattle.snap_commands.specs.Kept.{AreApart, kept_global, kept_globals, kept_value}
use Rattle.snap_commands.specs.Thin.{Globals, assigned}

abbrev Name : List ℕ × Value → List ℕ
Name global = global.0

new_by : (b : Bool) (g : List ℕ × Value) (globals : Globals) (name : List ℕ) (v : Value) → bytes_eq name g.0 ≡ b → (Contains (g.0 ∷ map Name globals) name → ⊥) → assigned globals name v ≡ globals ++ (name, v) ∷ []
    → cond b ((g.0, v) ∷ globals) (g ∷ assigned globals name v) ≡ g ∷ (globals ++ (name, v) ∷ [])
new_by true g globals name v e new more = absurd (new (0, omega arith, sym ((bytes_eq-Decides name g.0).0 e)))
new_by false g globals name v e new more = ap (λ (gs : Globals). g ∷ gs) more

-- a new name comes last
pub assigned_new : (globals : Globals) (name : List ℕ) (v : Value) → (Contains (map Name globals) name → ⊥) → assigned globals name v ≡ globals ++ (name, v) ∷ []
assigned_new [] name v new = refl
assigned_new (g ∷ globals) name v new =
    new_by (bytes_eq name g.0) g globals name v refl new
    (assigned_new globals name v (λ (has : Contains (map Name globals) name). new (suc has.0, omega (arith, has.1), has.2)))

-- a name of globals that are apart is none of those before it
name_is_new : (globals : Globals) (i : ℕ) (g : List ℕ × Value) → AreApart globals → i < length globals → g ≡ get_or globals i g → Contains (map Name (take i globals)) g.0 → ⊥
name_is_new globals i g apart inside at (k, within, is) =
    let names = map Name globals in
    let below : k < i = omega (arith, length-map (take i globals) Name, length-take-le i globals (omega arith)) in
    let one : get_or names k g.0 ≡ g.0 = sym (get_or-take i names k g.0 below) ∙ ap (λ (xs : List (List ℕ)). get_or xs k g.0) (take-map Name i globals) ∙ is in
    let other : get_or names i g.0 ≡ g.0 = get_or-map Name globals i g g.0 inside ∙ ap Name (sym at) in
    apart k i g.0 below (omega (arith, length-map globals Name)) (one ∙ sym other)

-- one kept global more
pub kept_more : (list : List Kept) (i : ℕ) (k : Kept) (before after : Globals) → AreApart (kept_globals list) → i < length list → k ≡ get_or list i k → before ≡ kept_globals (take i list)
    → after ≡ assigned before k.name.items (kept_value k.value) → after ≡ kept_globals (take (i + 1) list)
kept_more list i k before after apart inside at so_far added =
    let g = kept_global k in
    let place : g ≡ get_or (kept_globals list) i g = ap kept_global at ∙ sym (get_or-map kept_global list i k g inside) in
    let new = name_is_new (kept_globals list) i g apart (omega (arith, length-map list kept_global)) place in
    let front : before ≡ take i (kept_globals list) = so_far ∙ sym (take-map kept_global i list) in
    added
    ∙ ap (λ (gs : Globals). assigned gs k.name.items (kept_value k.value)) front
    ∙ assigned_new (take i (kept_globals list)) g.0 g.1 new
    ∙ ap (λ (gs : Globals). gs ++ g ∷ []) (take-map kept_global i list)
    ∙ sym (map_push kept_global (take i list) k)
    ∙ ap (λ (x : Kept). kept_globals (take i list ++ x ∷ [])) at
    ∙ sym (ap kept_globals (take_more list i k inside))

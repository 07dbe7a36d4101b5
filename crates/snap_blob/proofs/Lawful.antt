-- Lawful shapes, clause by clause.
use Rattle.std.proofs.Common.{◌≡◌, ◌≢◌, ℕ, ◌<◌, AllPairs, List, Some, length, get_or, map, option_map, slice_get, sym, ap, subst, ◌∙◌, arith}
use Rattle.std.proofs.lemmas.List.{length-map, get_or-map}
use Rattle.std.proofs.lemmas.Option.{slice_get-get_or, slice_get-map, slice_get_within, some_pair_parts}
use Rattle.spec_format.specs.Shapes.{AreLawful}
use Rattle.snap_blob.specs.declared.startups.ShapeStep.{ShapeStep}
use Rattle.snap_blob.specs.OpenShapes.{AreBounded, AreFresh, HasKey, HaveLowParents, IsFresh}
use Rattle.snap_blob.specs.Steps.{pair_of}
use Rattle.snap_blob.proofs.KeyPaths.{HasLowParents}

-- the pair at a place
pub pair_at : (shapes : List ShapeStep) (n : ℕ) (d : ShapeStep) → n < length shapes → slice_get (map pair_of shapes) n ≡ Some (pair_of (get_or shapes n d))
pair_at shapes n d inside = slice_get-map pair_of shapes n ∙ ap (option_map pair_of) (slice_get-get_or shapes n d inside)

-- a pair that is read is that of the shape there
pub record IsPairOf (shapes : List ShapeStep) (n parent name : ℕ) (d : ShapeStep) : Type 0 where
  pub inside : n < length shapes
  pub parent_is : (get_or shapes n d).parent ≡ parent
  pub name_is : (get_or shapes n d).name ≡ name

pub pair_read : (shapes : List ShapeStep) (n parent name : ℕ) (d : ShapeStep) → slice_get (map pair_of shapes) n ≡ Some (parent, name) → IsPairOf shapes n parent name d
pair_read shapes n parent name d at =
    let small = slice_get_within (map pair_of shapes) n (parent, name) at in
    let within : n < length shapes = omega (arith, length-map shapes pair_of) in
    let step = get_or shapes n d in
    let parts = some_pair_parts step.parent parent step.name name (sym (pair_at shapes n d within) ∙ at) in
    record { inside = within; parent_is = parts.0; name_is = parts.1 }

pub parents_low : (strings : ℕ) (shapes : List ShapeStep) → AreBounded strings shapes → HaveLowParents shapes
parents_low strings shapes bounded n d inside = (bounded n d inside).0

pub low_parents : (shapes : List ShapeStep) → HaveLowParents shapes → HasLowParents (map pair_of shapes)
low_parents shapes low n parent name at =
    let none : ShapeStep = record { parent = 0; name = 0 } in
    let read = pair_read shapes n parent name none at in
    let here = low n none read.inside in
    omega (arith, read.parent_is, here)

-- a shape that is fresh, or isn't, by what stands at its place
pub fresh_at : (shapes : List ShapeStep) (n : ℕ) (d : ShapeStep) → n < length shapes
    → (HasKey (map pair_of shapes) (get_or shapes n d).parent (get_or shapes n d).name → ⊥) → IsFresh (map pair_of shapes) n
fresh_at shapes n d inside none parent name at key =
    let read = pair_read shapes n parent name d at in
    none (subst (λ p. HasKey (map pair_of shapes) p (get_or shapes n d).name) (sym read.parent_is) (subst (HasKey (map pair_of shapes) parent) (sym read.name_is) key))

pub not_fresh_at : (shapes : List ShapeStep) (n : ℕ) (d : ShapeStep) → n < length shapes
    → HasKey (map pair_of shapes) (get_or shapes n d).parent (get_or shapes n d).name → IsFresh (map pair_of shapes) n → ⊥
not_fresh_at shapes n d inside key fresh = fresh (get_or shapes n d).parent (get_or shapes n d).name (pair_at shapes n d inside) key

-- ---- the clauses together

pub lawful_from : (strings : ℕ) (shapes : List ShapeStep) → AreBounded strings shapes → AllPairs (λ one other. one ≢ other) (map pair_of shapes) → AreFresh (map pair_of shapes)
    → AreLawful strings (map pair_of shapes)
lawful_from strings shapes bounded apart fresh = record {
  parents = low_parents shapes (parents_low strings shapes bounded);
  names = λ n d within.
      let none : ShapeStep = record { parent = 0; name = 0 } in
      let inside : n < length shapes = omega (arith, length-map shapes pair_of) in
      subst (λ (p : ℕ × ℕ). p.1 < strings) (sym (get_or-map pair_of shapes n none d inside)) (bounded n none inside).1;
  fresh = λ n parent name keys at has among. fresh n parent name at (keys, has, among);
  apart = apart;
}

pub bounded_from : (strings : ℕ) (shapes : List ShapeStep) → AreLawful strings (map pair_of shapes) → AreBounded strings shapes
bounded_from strings shapes l n d inside =
    let at = pair_at shapes n d inside in
    let within : n < length (map pair_of shapes) = omega (arith, length-map shapes pair_of) in (
      l.parents n (get_or shapes n d).parent (get_or shapes n d).name at,
      subst (λ (p : ℕ × ℕ). p.1 < strings) (get_or-map pair_of shapes n d (pair_of d) inside) (l.names n (pair_of d) within),
    )

pub fresh_from : (strings : ℕ) (shapes : List ShapeStep) → AreLawful strings (map pair_of shapes) → AreFresh (map pair_of shapes)
fresh_from strings shapes l n parent name at key = l.fresh n parent name key.0 at key.1 key.2

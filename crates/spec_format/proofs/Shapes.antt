-- Shapes and their keys.
use Rattle.std.proofs.Common.{◌≡◌, ℕ, suc, ◌≤◌, All, List, [], ◌∷◌, ◌++◌, Some, length, refl, sym, ap, subst, ◌∙◌, arith}
use Rattle.std.specs.List.{slice_get}
use Rattle.std.proofs.lemmas.List.Elements.{All-nil, All-push}
use Rattle.std.proofs.lemmas.Option.{get_or_from_slice_get, slice_get_within, some_pair_parts}
use Rattle.spec_format.specs.Shapes.{HasKeys}
use Rattle.spec_format.specs.Shapes.HasKeys.{Root, Child}

-- the shape that is empty has no keys
none_at_root : (shapes : List (ℕ × ℕ)) (n : ℕ) (keys : List ℕ) → n ≡ 0 → HasKeys shapes n keys → keys ≡ []
none_at_root shapes _ _ e Root = refl
none_at_root shapes _ _ e (Child n parent name keys step has) = absurd (omega (arith, e))

-- another has the keys of its parent and its own
last_key : (shapes : List (ℕ × ℕ)) (m n parent name : ℕ) (keys : List ℕ) → m ≡ suc n → slice_get shapes n ≡ Some (parent, name) → HasKeys shapes m keys
    → (front : List ℕ) × HasKeys shapes parent front × (keys ≡ front ++ name ∷ [])
last_key shapes _ n parent name _ e step Root = absurd (omega (arith, e))
last_key shapes _ n parent name _ e step (Child k other last keys given has) =
    let same : k ≡ n = omega (arith, e) in
    let parts = some_pair_parts other parent last name (sym given ∙ ap (slice_get shapes) same ∙ step) in
    let P : ℕ → Type 0 = λ shape. HasKeys shapes shape keys in
    (keys, subst P parts.0 has, ap (λ (key : ℕ). keys ++ key ∷ []) parts.1)

-- a shape has one list of keys
pub one_key_list : (shapes : List (ℕ × ℕ)) (shape : ℕ) (one other : List ℕ) → HasKeys shapes shape one → HasKeys shapes shape other → one ≡ other
one_key_list shapes _ _ other Root q = sym (none_at_root shapes 0 other refl q)
one_key_list shapes _ _ other (Child n parent name keys step has) q =
    let whole = last_key shapes (suc n) n parent name other refl step q in
    ap (λ (front : List ℕ). front ++ name ∷ []) (one_key_list shapes parent keys whole.0 has whole.1) ∙ sym whole.2

-- a shape that has keys is one of the shapes, or the empty one
pub shape_within : (shapes : List (ℕ × ℕ)) (shape : ℕ) (keys : List ℕ) → HasKeys shapes shape keys → shape ≤ length shapes
shape_within shapes _ _ Root = omega arith
shape_within shapes _ _ (Child n parent name keys step has) = omega (arith, slice_get_within shapes n (parent, name) step)

-- each key is that of one of the shapes
pub keys_among : (P : ℕ → Type 0) (shapes : List (ℕ × ℕ)) (shape : ℕ) (keys : List ℕ) → All (λ step. P step.1) shapes → HasKeys shapes shape keys → All P keys
keys_among P shapes _ _ all Root = All-nil P
keys_among P shapes _ _ all (Child n parent name keys step has) =
    let item = get_or_from_slice_get shapes n (parent, name) (parent, name) step in
    let here = all n (parent, name) (slice_get_within shapes n (parent, name) step) in
    let Q : ℕ × ℕ → Type 0 = λ pair. P pair.1 in
    All-push P keys name (keys_among P shapes parent keys all has) (subst Q item here)

-- The keys of shapes, and marks that follow a walk over them.
use Rattle.std.proofs.Common.{◌≡◌, ℕ, zero, suc, ◌<◌, ◌≤◌, ◌⊎◌, Bool, true, false, Contains, List, [], ◌∷◌, ◌++◌, Some, length, get_or, set, replicate, slice_get, inl, inr, sym, ap, subst, ◌∙◌, refl, true≢false, arith}
use Rattle.std.proofs.lemmas.Bool.{cases_eq}
use Rattle.std.proofs.lemmas.List.{get_or-set_same, get_or-set_other, get_or-replicate, length-set, length-replicate}
use Rattle.std.proofs.lemmas.List.Elements.{Contains-append_left, Contains-push, Contains-push_cases}
use Rattle.std.proofs.lemmas.Option.{slice_get-get_or, slice_get_within, some_pair_parts}
use Rattle.spec_format.specs.Shapes.{HasKeys, Root, Child}
use Rattle.snap_blob.specs.OpenShapes.{HasKey, IsClean, Ground, Above, IsMarked}

-- each parent is below its shape
abbrev pub HasLowParents : List (ℕ × ℕ) → Type 0
HasLowParents shapes = (n parent name : ℕ) → slice_get shapes n ≡ Some (parent, name) → parent ≤ n

-- so each shape has keys
keys_within : (shapes : List (ℕ × ℕ)) → HasLowParents shapes → (room s : ℕ) → s ≤ room → s ≤ length shapes → (keys : List ℕ) × HasKeys shapes s keys
keys_within shapes low room zero le inside = ([], Root)
keys_within shapes low zero (suc n) le inside = absurd (omega arith)
keys_within shapes low (suc room) (suc n) le inside =
    let pair = get_or shapes n (0, 0) in
    let at : slice_get shapes n ≡ Some (pair.0, pair.1) = slice_get-get_or shapes n (0, 0) (omega arith) in
    let below = low n pair.0 pair.1 at in
    let front = keys_within shapes low room pair.0 (omega arith) (omega arith) in
    (front.0 ++ pair.1 ∷ [], Child n pair.0 pair.1 front.0 at front.1)

pub keys_of : (shapes : List (ℕ × ℕ)) → HasLowParents shapes → (s : ℕ) → s ≤ length shapes → (keys : List ℕ) × HasKeys shapes s keys
keys_of shapes low s inside = keys_within shapes low s s (omega arith) inside

-- ---- one step up

-- the keys of a stored shape are those of its parent, and its own
split_keys : (shapes : List (ℕ × ℕ)) (s : ℕ) (keys : List ℕ) → HasKeys shapes s keys → (n parent name : ℕ) → s ≡ suc n → slice_get shapes n ≡ Some (parent, name)
    → (front : List ℕ) × HasKeys shapes parent front × (keys ≡ front ++ name ∷ [])
split_keys shapes s keys Root n parent name is at = absurd (omega arith)
split_keys shapes s keys (Child m p x front e h) n parent name is at =
    let same : m ≡ n = omega arith in
    let here : slice_get shapes n ≡ Some (p, x) = subst (λ k. slice_get shapes k ≡ Some (p, x)) same e in
    let parts = some_pair_parts p parent x name (sym here ∙ at) in
    (front, subst (λ k. HasKeys shapes k front) parts.0 h, ap (λ k. front ++ k ∷ []) parts.1)

no_keys : (shapes : List (ℕ × ℕ)) (s : ℕ) (keys : List ℕ) → HasKeys shapes s keys → s ≡ 0 → keys ≡ []
no_keys shapes s keys Root is = refl
no_keys shapes s keys (Child m p x front e h) is = absurd (omega arith)

-- shape 0 has no key
pub no_key : (shapes : List (ℕ × ℕ)) (name : ℕ) → HasKey shapes 0 name → ⊥
no_key shapes name (keys, h, (k, inside, at)) = omega (arith, ap length (no_keys shapes 0 keys h refl))

pub own_key : (shapes : List (ℕ × ℕ)) → HasLowParents shapes → (n parent name : ℕ) → slice_get shapes n ≡ Some (parent, name) → HasKey shapes (suc n) name
own_key shapes low n parent name at =
    let inside = slice_get_within shapes n (parent, name) at in
    let front = keys_of shapes low parent (let below = low n parent name at in omega arith) in
    (front.0 ++ name ∷ [], Child n parent name front.0 at front.1, Contains-push front.0 name)

pub inherited_key : (shapes : List (ℕ × ℕ)) (n parent name other : ℕ) → slice_get shapes n ≡ Some (parent, name) → HasKey shapes parent other → HasKey shapes (suc n) other
inherited_key shapes n parent name other at (front, h, among) =
    (front ++ name ∷ [], Child n parent name front at h, Contains-append_left front (name ∷ []) other among)

pub key_cases : (shapes : List (ℕ × ℕ)) (n parent name other : ℕ) → slice_get shapes n ≡ Some (parent, name) → HasKey shapes (suc n) other → (name ≡ other) ⊎ HasKey shapes parent other
key_cases shapes n parent name other at (keys, h, among) =
    let split = split_keys shapes (suc n) keys h n parent name refl at in
    elim (Contains-push_cases split.0 name other (subst (λ w. Contains w other) split.2 among)) [
      | inl above ↦ inr (split.0, split.1, above)
      | inr own ↦ inl own
    ]

-- ---- marks

clean_above : (shapes : List (ℕ × ℕ)) (s : ℕ) → IsClean shapes s → (n parent name : ℕ) → s ≡ suc n → slice_get shapes n ≡ Some (parent, name)
    → (HasKey shapes parent name → ⊥) × IsClean shapes parent
clean_above shapes s Ground n parent name is at = absurd (omega arith)
clean_above shapes s (Above m p x e fresh above) n parent name is at =
    let same : m ≡ n = omega arith in
    let here : slice_get shapes n ≡ Some (p, x) = subst (λ k. slice_get shapes k ≡ Some (p, x)) same e in
    let parts = some_pair_parts p parent x name (sym here ∙ at) in
    let moved : HasKey shapes parent name → HasKey shapes p x = λ k. subst (HasKey shapes p) (sym parts.1) (subst (λ q. HasKey shapes q name) (sym parts.0) k) in
    (λ k. fresh (moved k), subst (IsClean shapes) parts.0 above)

-- no mark is set at the start
pub none_marked : (shapes : List (ℕ × ℕ)) (strings : ℕ) → IsMarked shapes 0 (replicate strings false)
none_marked shapes strings = record {
  clean = Ground;
  keys = λ name inside. (
    λ on. absurd (true≢false (sym on ∙ get_or-replicate strings name false false (omega (arith, length-replicate strings false)))),
    λ key. absurd (no_key shapes name key),
  );
}

-- a shape that is left takes back its own mark alone
pub left : (shapes : List (ℕ × ℕ)) (n parent name : ℕ) (marks : List Bool) → slice_get shapes n ≡ Some (parent, name) → name < length marks
    → IsMarked shapes (suc n) marks → IsMarked shapes parent (set marks name false)
left shapes n parent name marks at small m =
    let up = clean_above shapes (suc n) m.clean n parent name refl at in
    record {
      clean = up.1;
      keys = λ other inside.
          let within : other < length marks = omega (arith, length-set marks name false) in
          elim (cases_eq other name) [
            | inl same ↦ (
              λ on. absurd (true≢false (sym on ∙ ap (λ k. get_or (set marks name false) k false) same ∙ get_or-set_same marks name false false small)),
              λ key. absurd (up.0 (subst (HasKey shapes parent) same key)),
            )
            | inr apart ↦
                let kept = get_or-set_other marks name other false false apart in (
                  λ on. elim (key_cases shapes n parent name other at ((m.keys other within).0 (sym kept ∙ on))) [
                    | inl own ↦ absurd (apart (sym own))
                    | inr key ↦ key
                  ],
                  λ key. kept ∙ (m.keys other within).1 (inherited_key shapes n parent name other at key),
                )
          ];
    }

-- a shape that is entered marks its own key
pub entered : (shapes : List (ℕ × ℕ)) → HasLowParents shapes → (n parent name : ℕ) (marks : List Bool) → slice_get shapes n ≡ Some (parent, name) → name < length marks
    → (HasKey shapes parent name → ⊥) → IsMarked shapes parent marks → IsMarked shapes (suc n) (set marks name true)
entered shapes low n parent name marks at small fresh m =
    record {
      clean = Above n parent name at fresh m.clean;
      keys = λ other inside.
          let within : other < length marks = omega (arith, length-set marks name true) in
          elim (cases_eq other name) [
            | inl same ↦ (
              λ on. subst (HasKey shapes (suc n)) (sym same) (own_key shapes low n parent name at),
              λ key. ap (λ k. get_or (set marks name true) k false) same ∙ get_or-set_same marks name true false small,
            )
            | inr apart ↦
                let kept = get_or-set_other marks name other true false apart in (
                  λ on. inherited_key shapes n parent name other at ((m.keys other within).0 (sym kept ∙ on)),
                  λ key. elim (key_cases shapes n parent name other at key) [
                    | inl own ↦ absurd (apart (sym own))
                    | inr above ↦ kept ∙ (m.keys other within).1 above
                  ],
                )
          ];
    }

-- Three shapes: the first of key 1, the second of key 0, and the third of both.
use Rattle.std.proofs.Common.{◌≡◌, ℕ, zero, suc, ◌<◌, ◌≤◌, Contains, List, [], ◌∷◌, Some, length, get_or, refl, sym, ap, subst, ◌∙◌, arith}
use Rattle.std.specs.List.{slice_get}
use Rattle.std.proofs.lemmas.List.Elements.{All-cons, All-nil}
use Rattle.std.proofs.lemmas.Option.{none-some, some_pair_parts}
use Rattle.spec_format.specs.Shapes.{AreLawful, HasKeys}
use Rattle.spec_format.specs.Shapes.HasKeys.{Root, Child}
use Rattle.spec_format.proofs.Shapes.{one_key_list}

abbrev pub three : List (ℕ × ℕ)
three = (0, 1) ∷ (0, 0) ∷ (2, 1) ∷ []

parents_of : (n parent name : ℕ) → slice_get three n ≡ Some (parent, name) → parent ≤ n
parents_of zero parent name e = let parts = some_pair_parts 0 parent 1 name e in omega (arith, parts.0)
parents_of (suc zero) parent name e = let parts = some_pair_parts 0 parent 0 name e in omega (arith, parts.0)
parents_of (suc (suc zero)) parent name e = let parts = some_pair_parts 2 parent 1 name e in omega (arith, parts.0)
parents_of (suc (suc (suc n))) parent name e = absurd (none-some (parent, name) e)

-- the empty shape has no key, and the second has the key 0 alone
no_key : (parent name : ℕ) (keys : List ℕ) → 0 ≡ parent → HasKeys three parent keys → Contains keys name → ⊥
no_key parent name keys same has among =
    let P : ℕ → Type 0 = λ n. HasKeys three n keys in
    let none = one_key_list three 0 keys [] (subst P (sym same) has) Root in
    omega (arith, ap length none, among.1)

key_0_alone : (parent name : ℕ) (keys : List ℕ) → 2 ≡ parent → 1 ≡ name → HasKeys three parent keys → Contains keys name → ⊥
key_0_alone parent name keys same other has among =
    let P : ℕ → Type 0 = λ n. HasKeys three n keys in
    let one = one_key_list three 2 keys (0 ∷ []) (subst P (sym same) has) (Child 1 0 0 [] refl Root) in
    let place : among.0 ≡ 0 = omega (arith, ap length one, among.1) in
    let item : get_or keys among.0 name ≡ 0 = ap (λ (k : ℕ). get_or keys k name) place ∙ ap (λ (w : List ℕ). get_or w 0 name) one in
    let found : get_or keys among.0 name ≡ name = among.2 in
    omega arith

fresh_in : (n parent name : ℕ) (keys : List ℕ) → slice_get three n ≡ Some (parent, name) → HasKeys three parent keys → Contains keys name → ⊥
fresh_in zero parent name keys e has among = no_key parent name keys (some_pair_parts 0 parent 1 name e).0 has among
fresh_in (suc zero) parent name keys e has among = no_key parent name keys (some_pair_parts 0 parent 0 name e).0 has among
fresh_in (suc (suc zero)) parent name keys e has among =
    let parts = some_pair_parts 2 parent 1 name e in
    key_0_alone parent name keys parts.0 parts.1 has among
fresh_in (suc (suc (suc n))) parent name keys e has among = absurd (none-some (parent, name) e)

apart_in : (i j : ℕ) (d : ℕ × ℕ) → i < j → j < length three → get_or three i d ≡ get_or three j d → ⊥
apart_in i zero d before inside e = absurd (omega arith)
apart_in zero (suc zero) d before inside e = let key : ◌≡◌ {A = ℕ} 1 0 = ap (λ (p : ℕ × ℕ). p.1) e in omega arith
apart_in zero (suc (suc zero)) d before inside e = let parent : ◌≡◌ {A = ℕ} 0 2 = ap (λ (p : ℕ × ℕ). p.0) e in omega arith
apart_in (suc zero) (suc zero) d before inside e = absurd (omega arith)
apart_in (suc zero) (suc (suc zero)) d before inside e = let parent : ◌≡◌ {A = ℕ} 0 2 = ap (λ (p : ℕ × ℕ). p.0) e in omega arith
apart_in (suc (suc i)) (suc zero) d before inside e = absurd (omega arith)
apart_in (suc (suc i)) (suc (suc zero)) d before inside e = absurd (omega arith)
apart_in i (suc (suc (suc j))) d before inside e = absurd (omega arith)

-- they are lawful
pub three_lawful : (strings : ℕ) → 2 ≤ strings → AreLawful strings three
three_lawful strings two =
    let P : ℕ × ℕ → Type 0 = λ shape. shape.1 < strings in
    record {
      parents = parents_of;
      names = All-cons P (0, 1) ((0, 0) ∷ (2, 1) ∷ []) (omega arith) (All-cons P (0, 0) ((2, 1) ∷ []) (omega arith) (All-cons P (2, 1) [] (omega arith) (All-nil P)));
      fresh = fresh_in;
      apart = apart_in;
    }

-- Names of which no two are the same have their slots in order.
use Rattle.std.proofs.Common.{◌≡◌, inl, inr, ℕ, zero, suc, ◌+◌, ◌<◌, Bool, true, false, cond, not, List, [], ◌∷◌, map, length, refl, sym, ap, ◌∙◌, arith, position}
use Rattle.std.specs.Prelude.{slice_get, Option, None, Some}
use Rattle.std.specs.List.{position_or_len}
use Rattle.std.specs.Option.{option_map}
use Rattle.std.specs.Str.{bytes_eq as text_eq}
use Rattle.std.proofs.lemmas.Bool.{cases_Bool, lt-ltb}
use Rattle.std.proofs.lemmas.Option.{get_or_from_slice_get, slice_get-map, slice_get_within}
use Rattle.std.proofs.lemmas.Slice.Eq.{bytes_eq-Decides}
use Rattle.snap_ast.specs.declared.form.Form.{Form}
use Rattle.snap_ast.specs.declared.form.Form.TheVariants as f
use Rattle.snap_ast.specs.declared.tree.Tree.{Tree}
use Rattle.snap_ast.specs.declared.tree.TreeNode.{TreeNode}
use Rattle.snap_graph.specs.declared.kind.ScopeKind.{ScopeKind}
use Rattle.spec_scopes.specs.EarlyErrors.{HasDuplicate, Repeats}
use Rattle.spec_scopes.specs.Names.{Declared}
use Rattle.spec_scopes.specs.Round.{inside}
use Rattle.spec_scopes.specs.Scopes.{Scope, Slot, made, made_of, names_apart, own_names, script_names, script_scope, slot_of}
use Rattle.spec_scopes.specs.Slots.{at_slot, first_place, nameless, place_in, place_of}
use Rattle.spec_scopes.specs.declared.place.SlotPlace.{SlotPlace}

-- the first item that passes
pub first_at : {A : Type 0} → (p : A → Bool) (xs : List A) (i : ℕ) (x : A) → slice_get xs i ≡ Some x → p x ≡ true → ((k : ℕ) (y : A) → k < i → slice_get xs k ≡ Some y → p y ≡ false) → position_or_len p xs ≡ i
first_at p [] i x e passes before = absurd cc
first_at p (y ∷ ys) zero x e passes before =
    let same : y ≡ x = cc in
    ap (λ (z : _). cond (not (p z)) (1 + position_or_len p ys) 0) same ∙ ap (λ (b : Bool). cond (not b) (1 + position_or_len p ys) 0) passes
first_at p (y ∷ ys) (suc i) x e passes before =
    let rest : position_or_len p ys ≡ i = first_at p ys i x e passes (λ k z less at. before (suc k) z (omega arith) at) in
    ap (λ (b : Bool). cond (not b) (1 + position_or_len p ys) 0) (before 0 y (omega arith) refl) ∙ omega arith

abbrev has_name : List ℕ → Slot → Bool
has_name name slot = text_eq name slot.name

module _ (names : List Declared) (apart : (at : ℕ) → Repeats names at → ⊥) (i : ℕ) (name : Declared) (stands : slice_get names i ≡ Some name) where
  slot_at : slice_get (map slot_of names) i ≡ Some (slot_of name)
  slot_at = slice_get-map slot_of names i ∙ ap (option_map slot_of) stands

  -- no earlier slot has the name
  not_before : (k : ℕ) (slot : Slot) → k < i → slice_get (map slot_of names) k ≡ Some slot → has_name name.named.name slot ≡ false
  not_before k slot less at =
      elim (cases_Bool (has_name name.named.name slot)) as (λ _. has_name name.named.name slot ≡ false) [
        | inl found ↦ absurd (earlier (slice_get names k) refl ((bytes_eq-Decides name.named.name slot.name).0 found))
        | inr lost ↦ lost
      ]
    where
      earlier : (found : Option Declared) → slice_get names k ≡ found → name.named.name ≡ slot.name → ⊥
      earlier None e same =
          let none : slice_get (map slot_of names) k ≡ None = slice_get-map slot_of names k ∙ ap (option_map slot_of) e in
          absurd cc
      earlier (Some other) e same =
          let some : slice_get (map slot_of names) k ≡ Some (slot_of other) = slice_get-map slot_of names k ∙ ap (option_map slot_of) e in
          let is : slot_of other ≡ slot = cc in
          let equal : other.named.name ≡ name.named.name = ap (λ (s : Slot). s.name) is ∙ sym same in
          apart name.named.at (record { earlier = k; later = i; first = other; second = name; before = less; has_first = e; has_second = stands; same = equal; place = refl })

  position_is : position (has_name name.named.name) (map slot_of names) ≡ Some i
  position_is =
      let first : position_or_len (has_name name.named.name) (map slot_of names) ≡ i = first_at (has_name name.named.name) (map slot_of names) i (slot_of name) slot_at ((bytes_eq-Decides name.named.name name.named.name).1 refl) not_before in
      let below : i < length (map slot_of names) = slice_get_within (map slot_of names) i (slot_of name) slot_at in
      rw (first, lt-ltb i (length (map slot_of names)) below) refl

  -- the place of the name from inside
  pub place_is : place_in (map slot_of names) name.named.name ≡ Some (record { hops = 0; slot = i; constant = name.is_constant })
  place_is =
      ap (option_map (at_slot (map slot_of names))) position_is
      ∙ ap (λ (slot : Slot). Some (record { hops = 0; slot = i; constant = slot.is_constant })) (get_or_from_slice_get (map slot_of names) i (slot_of name) nameless slot_at)

-- the same where the scope is one of a chain
first_is : (slots : List Slot) (kind : ScopeKind) (round : List Scope) (text : List ℕ) (place : SlotPlace) → place_in slots text ≡ Some place → place_of (record { kind = kind; slots = slots } ∷ round) text ≡ Some place
first_is slots kind round text place e = ap (λ (found : Option SlotPlace). first_place found (place_of round text)) e

made_place : (kind : ScopeKind) (names : List Declared) → ((at : ℕ) → Repeats names at → ⊥) → (i : ℕ) (name : Declared) (round : List Scope) → slice_get names i ≡ Some name
    → place_of (inside (made_of kind names) round) name.named.name ≡ Some (record { hops = 0; slot = i; constant = name.is_constant })
made_place kind [] apart i name round e = absurd cc
made_place kind (first ∷ names) apart i name round e =
    first_is (map slot_of (first ∷ names)) kind round name.named.name (record { hops = 0; slot = i; constant = name.is_constant }) (place_is (first ∷ names) apart i name e)

-- one name does not repeat
one_name : (name : Declared) (at : ℕ) → Repeats (name ∷ []) at → ⊥
one_name name at h = let within = slice_get_within (name ∷ []) h.later h.second h.has_second in let before = h.before in omega arith

-- names of one scope that repeat are names that are to be apart
repeats_apart : (nodes : List TreeNode) (form : Form) (at : ℕ) → Repeats (own_names nodes form).names at → Repeats (names_apart nodes form) at
repeats_apart nodes (f.TryCatchName tried name handler finalizer) at h = absurd (one_name (record { named = name; is_constant = false }) at h)
repeats_apart nodes form at h = h

pub own_in_order : (tree : Tree) (number i : ℕ) (node : TreeNode) (name : Declared) (round : List Scope) → ((at : ℕ) → HasDuplicate tree at → ⊥) → slice_get tree.nodes number ≡ Some node → slice_get (own_names tree.nodes node.form).names i ≡ Some name
    → place_of (inside (made tree.nodes node.form) round) name.named.name ≡ Some (record { hops = 0; slot = i; constant = name.is_constant })
own_in_order tree number i node name round apart stands e =
    made_place (own_names tree.nodes node.form).kind (own_names tree.nodes node.form).names (λ at h. apart at (inr (number, node, stands, repeats_apart tree.nodes node.form at h))) i name round e

pub script_in_order : (tree : Tree) (i : ℕ) (name : Declared) (round : List Scope) → ((at : ℕ) → HasDuplicate tree at → ⊥) → slice_get (script_names tree).names i ≡ Some name
    → place_of (inside (Some (script_scope tree)) round) name.named.name ≡ Some (record { hops = 0; slot = i; constant = name.is_constant })
script_in_order tree i name round apart e =
    first_is (map slot_of (script_names tree).names) (script_names tree).kind round name.named.name (record { hops = 0; slot = i; constant = name.is_constant }) (place_is (script_names tree).names (λ at h. apart at (inl h)) i name e)

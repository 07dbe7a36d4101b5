-- The table of scopes: what one more scope leaves, and how a name is found.
use Rattle.std.proofs.Common.{◌≡◌, ℕ, zero, suc, ◌+◌, ◌<◌, ◌≤◌, ◌^◌, List, [], ◌∷◌, ◌++◌, map, length, get_or, refl, sym, subst, ap, ◌∙◌, arith, length-append}
use Rattle.std.specs.Prelude.{Option}
use Rattle.std.specs.Option.{option_map}
use Rattle.std.proofs.lemmas.List.{get_or_append_left, get_or-map, length-map, map-append}
use Rattle.std.proofs.Math.Seq.{get_or-append_seam}
use Rattle.snap_ast.specs.Words.{Each}
use Rattle.snap_graph.specs.declared.kind.ScopeKind.{ScopeKind}
use Rattle.snap_scope.specs.Chains.{AreLevels, IsLevel, Table, chain_in, level_chain, nothing, own_scope, scope_in, scopes_of, table_of}
use Rattle.snap_scope.specs.declared.level.Level.{Level}
use Rattle.spec_scopes.specs.Scopes.{Scope, Slot, need}
use Rattle.spec_scopes.specs.declared.need.ScopeNeed.{ScopeNeed}
use Rattle.spec_scopes.specs.declared.place.SlotPlace.{SlotPlace}

-- ---- one more scope

pub each_at : {A : Type 0} → (P : A → Type 0) (xs : List A) (i : ℕ) (x : A) → Each P xs → i < length xs → x ≡ get_or xs i x → P x
each_at P [] i x each below e = absurd (omega arith)
each_at P (y ∷ ys) zero x each below e = subst P (sym e) each.0
each_at P (y ∷ ys) (suc i) x each below e = each_at P ys i x each.1 (omega arith) e

pub each_more : {A : Type 0} → (P : A → Type 0) (xs : List A) (x : A) → Each P xs → P x → Each P (xs ++ x ∷ [])
each_more P [] x each one = (one, tt)
each_more P (y ∷ ys) x each one = (each.0, each_more P ys x each.1 one)

pub each_by : {A : Type 0} → (P Q : A → Type 0) → ((x : A) → P x → Q x) → (xs : List A) → Each P xs → Each Q xs
each_by P Q by [] each = tt
each_by P Q by (x ∷ xs) each = (by x each.0, each_by P Q by xs each.1)

pub map_same : {A B : Type 0} → (f g : A → B) (P : A → Type 0) → ((x : A) → P x → f x ≡ g x) → (xs : List A) → Each P xs → map f xs ≡ map g xs
map_same f g P same [] each = refl
map_same {A} {B} f g P same (x ∷ xs) each = ap (λ (y : B). y ∷ map f xs) (same x each.0) ∙ ap (λ (ys : List B). g x ∷ ys) (map_same f g P same xs each.1)

-- a level's chain stays where a scope is added
chain_stays : (scopes : List Scope) (scope : Scope) (level : Level) → IsLevel scopes level → level_chain (scopes ++ scope ∷ []) level ≡ level_chain scopes level
chain_stays scopes scope level is =
    map_same (scope_in (scopes ++ scope ∷ [])) (scope_in scopes) (λ number. number < length scopes) (λ number below. get_or_append_left scopes (scope ∷ []) nothing number below) level.scopes.items is.within

level_stays : (scopes : List Scope) (scope : Scope) (level : Level) → IsLevel scopes level → IsLevel (scopes ++ scope ∷ []) level
level_stays scopes scope level is = record {
  within = each_by (λ number. number < length scopes) (λ number. number < length (scopes ++ scope ∷ [])) (λ number below. omega (arith, length-append scopes (scope ∷ []))) level.scopes.items is.within;
  needs = is.needs ∙ ap (map need) (sym (chain_stays scopes scope level is));
  few = is.few;
}

-- a level inside another
pub record IsInside (levels : List Level) (outer : ℕ) (around level : Level) (kind : ScopeKind) (slots : List Slot) : Type 0 where
  pub below : outer < length levels
  pub around_is : around ≡ get_or levels outer around
  pub kind_is : level.kind ≡ kind
  pub slots_is : level.slots ≡ slots
  pub needs_is : ◌≡◌ {A = List ScopeNeed} level.needs.items (record { kind = kind; slots = length slots } ∷ around.needs.items)
  pub scopes_is : level.scopes.items ≡ length levels ∷ around.scopes.items

own_is : (level : Level) (kind : ScopeKind) (slots : List Slot) → level.kind ≡ kind → level.slots ≡ slots → ◌≡◌ {A = Scope} (own_scope level) (record { kind = kind; slots = slots })
own_is level kind slots e d = ap (λ (k : ScopeKind). record { kind = k; slots = level.slots }) e ∙ ap (λ (s : List Slot). record { kind = kind; slots = s }) d

module _ (levels : List Level) (outer : ℕ) (around level : Level) (kind : ScopeKind) (slots : List Slot) (all : AreLevels levels) (is : IsInside levels outer around level kind slots) where
  scopes_more : scopes_of (levels ++ level ∷ []) ≡ scopes_of levels ++ own_scope level ∷ []
  scopes_more = map-append own_scope levels (level ∷ [])

  around_level : IsLevel (scopes_of levels) around
  around_level = each_at (IsLevel (scopes_of levels)) levels outer around all is.below is.around_is

  -- the chain of the new level
  inner_chain : level_chain (scopes_of levels ++ own_scope level ∷ []) level ≡ own_scope level ∷ level_chain (scopes_of levels) around
  inner_chain =
      let scopes : List Scope = scopes_of levels in
      let here : scope_in (scopes ++ own_scope level ∷ []) (length levels) ≡ own_scope level =
      ap (λ (n : ℕ). scope_in (scopes ++ own_scope level ∷ []) n) (sym (length-map levels own_scope)) ∙ get_or-append_seam scopes (own_scope level) [] nothing in
      ap (map (scope_in (scopes ++ own_scope level ∷ []))) is.scopes_is ∙ ap (λ (scope : Scope). scope ∷ level_chain (scopes ++ own_scope level ∷ []) around) here
      ∙ ap (λ (chain : List Scope). own_scope level ∷ chain) (chain_stays scopes (own_scope level) around around_level)

  chain_there : (table : Table) → table_of levels ≡ table → chain_in table outer ≡ level_chain (scopes_of levels) around
  chain_there table view =
      ap (λ (t : Table). chain_in t outer) (sym view) ∙ get_or-map (level_chain (scopes_of levels)) levels outer around [] is.below ∙ ap (level_chain (scopes_of levels)) (sym is.around_is)

  -- the chains with that of the new level
  pub chains_more : (after : List Level) (table : Table) → after ≡ levels ++ level ∷ [] → table_of levels ≡ table → map (level_chain (scopes_of after)) after ≡ table.chains ++ (record { kind = kind; slots = slots } ∷ chain_in table outer) ∷ []
  chains_more after table e view =
      let scopes : List Scope = scopes_of levels in
      let wider : List Scope = scopes ++ own_scope level ∷ [] in
      ap (λ (ls : List Level). map (level_chain (scopes_of ls)) ls) e ∙ ap (λ (ss : List Scope). map (level_chain ss) (levels ++ level ∷ [])) scopes_more ∙ map-append (level_chain wider) levels (level ∷ [])
      ∙ ap (λ (cs : List (List Scope)). cs ++ level_chain wider level ∷ []) (map_same (level_chain wider) (level_chain scopes) (IsLevel scopes) (chain_stays scopes (own_scope level)) levels all)
      ∙ ap (λ (chain : List Scope). map (level_chain scopes) levels ++ chain ∷ []) (inner_chain ∙ ap (λ (s : Scope). s ∷ level_chain scopes around) (own_is level kind slots is.kind_is is.slots_is) ∙ ap (λ (chain : List Scope). record { kind = kind; slots = slots } ∷ chain) (sym (chain_there table view)))
      ∙ ap (λ (t : Table). t.chains ++ (record { kind = kind; slots = slots } ∷ chain_in table outer) ∷ []) view

  -- the levels with the new one
  pub levels_more : (after : List Level) (table : Table) → after ≡ levels ++ level ∷ [] → table_of levels ≡ table → length (chain_in table outer) < 2 ^ 32 → AreLevels after
  levels_more after table e view few =
      let scopes : List Scope = scopes_of levels in
      let wider : List Scope = scopes ++ own_scope level ∷ [] in
      let around_is = around_level in
      let long : length (level_chain scopes around) ≡ length around.scopes.items = length-map around.scopes.items (scope_in scopes) in
      let same : length (chain_in table outer) ≡ length around.scopes.items = ap (λ (chain : List Scope). length chain) (chain_there table view) ∙ long in
      let own : IsLevel wider level = record {
        within = subst (λ (ids : List ℕ). Each (λ number. number < length wider) ids) (sym is.scopes_is)
            (omega (arith, length-append scopes (own_scope level ∷ []), length-map levels own_scope), each_by (λ number. number < length scopes) (λ number. number < length wider) (λ number below. omega (arith, length-append scopes (own_scope level ∷ []))) around.scopes.items around_is.within);
        needs = is.needs_is ∙ ap (λ (ns : List ScopeNeed). record { kind = kind; slots = length slots } ∷ ns) around_is.needs
            ∙ ap (map need) (sym (inner_chain ∙ ap (λ (s : Scope). s ∷ level_chain scopes around) (own_is level kind slots is.kind_is is.slots_is)));
        few = subst (λ (ids : List ℕ). length ids ≤ 2 ^ 32) (sym is.scopes_is) (omega arith);
      } in
      subst AreLevels (sym e) (subst (λ (ss : List Scope). Each (IsLevel ss) (levels ++ level ∷ [])) (sym scopes_more)
      (each_more (IsLevel wider) levels level (each_by (IsLevel scopes) (IsLevel wider) (level_stays scopes (own_scope level)) levels all) own))

-- ---- the place of a name

-- a place, seen from so many scopes further in
abbrev pub pushed_out : ℕ → Option SlotPlace → Option SlotPlace
pushed_out hops place = option_map (λ (p : SlotPlace). record p { hops = hops + p.hops }) place

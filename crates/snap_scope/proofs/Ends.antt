-- What is known before any node is visited, and what once all are.
use Rattle.std.proofs.Common.{◌≡◌, ℕ, zero, suc, ◌<◌, false, List, [], ◌∷◌, map, length, replicate, refl, sym, subst, ap, ◌∙◌, arith}
use Rattle.std.specs.Prelude.{slice_get, Option, None, Some}
use Rattle.std.specs.Option.{option_map}
use Rattle.std.proofs.lemmas.List.{length-map, length-replicate}
use Rattle.std.proofs.lemmas.Option.{slice_get-map, slice_get_within}
use Rattle.snap_ast.specs.Lawful.{Lawful}
use Rattle.snap_ast.specs.Words.{Each}
use Rattle.snap_ast.specs.declared.tree.Tree.{Tree}
use Rattle.snap_graph.specs.declared.kind.ScopeKind.TheVariants.{Script}
use Rattle.snap_scope.specs.Chains.{Table, chain_in, scope_in}
use Rattle.snap_scope.specs.Start.{IsStart}
use Rattle.snap_scope.specs.Visit.{IsEntry, RightAt, Visited, scopes_at}
use Rattle.snap_scope.specs.declared.context.Context.{Context}
use Rattle.snap_scope.specs.declared.context.NodeEntry.{NodeEntry}
use Rattle.snap_scope.specs.declared.visiting.Pass.{Pass}
use Rattle.spec_scopes.proofs.Standing.{some_round, top_below}
use Rattle.spec_scopes.proofs.Resolved.{got}
use Rattle.spec_scopes.specs.Resolution.{AreScopes, Resolution}
use Rattle.spec_scopes.specs.Round.{IsAmong}
use Rattle.spec_scopes.specs.Scopes.{Scope, Slot, script_names, script_scope, slot_of}
use Rattle.spec_scopes.specs.Told.{first_repeat}
use Rattle.spec_scopes.specs.declared.place.SlotPlace.{SlotPlace}

got_replicate : {A : Type 0} → (n i : ℕ) (x : A) → i < n → slice_get (replicate n x) i ≡ Some x
got_replicate zero i x below = absurd (omega arith)
got_replicate (suc n) zero x below = refl
got_replicate (suc n) (suc i) x below = got_replicate n i x (omega arith)

-- before any node is visited
pub started : (tree : Tree) (count : ℕ) (slots : List Slot) (pass : Pass) → Lawful tree → count ≡ length tree.nodes → slots ≡ map slot_of (script_names tree).names → first_repeat (script_names tree).names ≡ None → IsStart count slots pass
    → Visited tree pass.chains pass.contexts.items pass.entries.items pass.places.items 0
started tree count slots pass lawful size slots_are apart is =
    let script : ◌≡◌ {A = Scope} (record { kind = Script; slots = slots }) (script_scope tree) = ap (λ (s : List Slot). record { kind = Script; slots = s }) slots_are in
    let scopes : length pass.chains.scopes ≡ 1 = ap (λ (l : List Scope). length l) is.0 in
    let chains : length pass.chains.chains ≡ 1 = ap (λ (l : List (List Scope)). length l) is.1 in
    let long : length pass.contexts.items ≡ count = ap (λ (l : List Context). length l) is.2 ∙ length-replicate count (record { chain = 0; in_loop = false; in_function = false }) in
    let many : length pass.entries.items ≡ 0 = ap (λ (l : List NodeEntry). length l) is.3 in
    let top : (number : ℕ) → IsAmong tree.top number → RightAt tree pass.chains pass.contexts.items number [] = λ number among.
    (let below : number < length tree.nodes = top_below tree number lawful among in (
      record { chain = 0; in_loop = false; in_function = false },
      ap (λ (l : List Context). slice_get l number) is.2 ∙ got_replicate count number (record { chain = 0; in_loop = false; in_function = false }) (omega arith),
      record { below = omega arith; chain_is = ap (λ (t : List (List Scope)). chain_in (record { scopes = []; chains = t }) 0) is.1 ∙ ap (λ (s : Scope). s ∷ []) script; loop_is = refl; function_is = refl },
    )) in
    record {
      long = omega arith;
      many = many;
      paired = omega arith;
      some = omega arith;
      script = ap (λ (l : List Scope). scope_in l 0) is.0 ∙ script;
      apart = apart;
      top = top;
      inner = λ parent number node round below e among stands. absurd (omega arith);
      known = λ number node steps below e stands. absurd (omega arith);
      clean = λ number node below e. absurd (omega arith);
    }

each_place : {A : Type 0} → (P : A → Type 0) (xs : List A) → ((i : ℕ) (x : A) → slice_get xs i ≡ Some x → P x) → Each P xs
each_place P [] h = tt
each_place P (x ∷ xs) h = (h 0 x refl, each_place P xs (λ i y e. h (suc i) y e))

module _ (tree : Tree) (lawful : Lawful tree) (table : Table) (contexts : List Context) (entries : List NodeEntry) (found : List (Option SlotPlace)) (is : Visited tree table contexts entries found (length tree.nodes)) where
  -- the entries are of the table
  pub entries_right : Each (IsEntry table (length found)) entries
  entries_right = each_place (IsEntry table (length found)) entries (λ i entry e.
      let below : i < length tree.nodes = omega (arith, slice_get_within entries i entry e, is.many) in
      let node = got tree.nodes i below in
      let round = some_round tree i lawful below in
      let known = is.known i node.0 round.0 below node.1 round.1 in
      let same : known.0 ≡ entry = cc in
      subst (IsEntry table (length found)) same known.2.is_entry)

  -- and stand for the scopes of the tree
  pub scopes_right : (resolution : Resolution) → resolution ≡ record { script = scope_in table.scopes 0; nodes = map (scopes_at table found) entries } → AreScopes tree resolution
  scopes_right resolution e =
      subst (AreScopes tree) (sym e) (record {
        script = is.script;
        count = length-map entries (scopes_at table found) ∙ is.many;
        nodes = λ number node steps at stands.
            (let known = is.known number node steps (slice_get_within tree.nodes number node at) at stands in
            slice_get-map (scopes_at table found) entries number ∙ ap (option_map (scopes_at table found)) known.1 ∙ ap Some known.2.scopes_are);
      })

use Rattle.std.proofs.Common.{◌≡◌, ◌+◌, ◌∙◌, ◌++◌, ◌∷◌, [], List, ℕ, map, All, ap, sym, subst, Option}
use Rattle.std.specs.Prelude.{MatchOption, take}
use Rattle.std.proofs.lemmas.List.{map_push, take_more}
use Rattle.std.proofs.lemmas.List.Elements.{All-push}
use Rattle.snap_graph.specs.declared.value.Property.{Property}
use Rattle.snap_graph.specs.declared.value.Value.{Value}
use Rattle.snap_commands.specs.declared.kept.Kept.{Kept}
use Rattle.snap_commands.specs.Kept.{IsThinProperty, global_of, kept_global}
use Rattle.snap_commands.proofs.keeping.globals_of_all.Goals as goal

pub loop-property-preserved : goal.loop-property-preserved
loop-property-preserved c =
    let properties = c.args.properties.now in
    let i = c.loop-property.property-index in
    let p = c.property-item.result in
    let more : take (i + 1) properties ≡ take i properties ++ p ∷ [] = take_more properties i p c.loop-property-test.true ∙ ap (λ (x : Property). take i properties ++ x ∷ []) (sym c.property-item.is) in
    let kept = c.in-Some.kept in
    let found : (kept_global kept ≡ global_of p) × IsThinProperty p =
    subst (λ (o : Option Kept). MatchOption o (IsThinProperty p → ⊥) (λ k. (kept_global k ≡ global_of p) × IsThinProperty p)) c.in-Some.is c.in_ok-kept.ensures in
    record {
      same =
          c.in_ok-put.ensures
          ∙ ap (λ (gs : List (List ℕ × Value)). gs ++ kept_global kept ∷ []) c.loop-property.invariant.same
          ∙ ap (λ (g : List ℕ × Value). map global_of (take i properties) ++ g ∷ []) found.0
          ∙ sym (ap (map global_of) more ∙ map_push global_of (take i properties) p);
      thin = subst (All IsThinProperty) (sym more) (All-push IsThinProperty (take i properties) p c.loop-property.invariant.thin found.1);
    }

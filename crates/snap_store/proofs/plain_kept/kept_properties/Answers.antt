use Rattle.std.proofs.Common.{All, None, ap, subst, sym}
use Rattle.std.proofs.lemmas.List.Elements.{All-push}
use Rattle.snap_graph.specs.declared.value.Value.{Value}
use Rattle.snap_store.specs.Keyed.{IsKeyed}
use Rattle.snap_arena.specs.Laws.{extends_still}
use Rattle.snap_store.proofs.Keeping.{properties_step}
use Rattle.snap_store.proofs.plain_kept.kept_properties.Goals as goal

pub loop-property-preserved : goal.loop-property-preserved
loop-property-preserved c =
    let before = c.loop-property.texts in
    let after = c.kept_value.new.texts in
    let key = c.in-Some.property.key in
    let kept = c.in_ok-value.ensures.kept in (
      extends_still c.args.texts.now before after c.loop-property.invariant.0 c.kept_value.ensures.texts,
      properties_step before after c.loop-property.kept.items c.push.new.self.items c.loop-property.yielded (record { key = key; known = None; value = c.in_ok-value.value }) c.in-Some.property
          c.loop-property.invariant.1 c.kept_value.ensures.texts (kept.0, ap (λ (v : Value). record { key = key; value = v }) kept.1) c.in_ok-push.ensures.items,
      λ key_of. subst (All (IsKeyed key_of)) (sym c.in_ok-push.ensures.items) (All-push (IsKeyed key_of) c.loop-property.kept.items (record { key = key; known = None; value = c.in_ok-value.value }) (c.loop-property.invariant.2 key_of) (λ one e. absurd cc)),
    )

pub returns-in_err-value-clause-texts : goal.returns-in_err-value-clause-texts
returns-in_err-value-clause-texts c = extends_still c.args.texts.now c.loop-property.texts c.kept_value.new.texts c.loop-property.invariant.0 c.kept_value.ensures.texts

pub returns-in_err-push-clause-texts : goal.returns-in_err-push-clause-texts
returns-in_err-push-clause-texts c = extends_still c.args.texts.now c.loop-property.texts c.kept_value.new.texts c.loop-property.invariant.0 c.kept_value.ensures.texts

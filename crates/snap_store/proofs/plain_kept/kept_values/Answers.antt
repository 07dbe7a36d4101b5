use Rattle.snap_arena.specs.Laws.{extends_still}
use Rattle.snap_store.proofs.Keeping.{values_step}
use Rattle.snap_store.proofs.plain_kept.kept_values.Goals as goal

pub loop-value-preserved : goal.loop-value-preserved
loop-value-preserved c =
    let before = c.loop-value.texts in
    let after = c.kept_value.new.texts in (
      extends_still c.args.texts.now before after c.loop-value.invariant.0 c.kept_value.ensures.texts,
      values_step before after c.loop-value.kept.items c.push.new.self.items c.loop-value.yielded c.in_ok-kept_value.field-0 c.in-Some.value
          c.loop-value.invariant.1 c.kept_value.ensures.texts c.in_ok-kept_value.ensures.kept c.in_ok-push.ensures.items,
    )

pub returns-in_err-kept_value-clause-texts : goal.returns-in_err-kept_value-clause-texts
returns-in_err-kept_value-clause-texts c = extends_still c.args.texts.now c.loop-value.texts c.kept_value.new.texts c.loop-value.invariant.0 c.kept_value.ensures.texts

pub returns-in_err-push-clause-texts : goal.returns-in_err-push-clause-texts
returns-in_err-push-clause-texts c = extends_still c.args.texts.now c.loop-value.texts c.kept_value.new.texts c.loop-value.invariant.0 c.kept_value.ensures.texts

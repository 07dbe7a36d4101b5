use Rattle.std.proofs.Common.{refl, sym, ◌∙◌}
use Rattle.spec_values.specs.Access.{get}
use Rattle.snap_action.proofs.Follows.{at_same, unmet}
use Rattle.snap_object.proofs.Bases.{is_its_text}
use Rattle.snap_object.proofs.Growing.{get_grows}
use Rattle.snap_object.proofs.reading.get.Goals as goal

pub returns-then-is_text : goal.returns-then-is_text
returns-then-is_text g c = at_same (λ base. get base c.args.key.now) (is_its_text (g.S.Store.meaning c.args.store.now c.args.base.now) (sym c.is_text.ensures ∙ c.if-is_text.true)) c.get_from_text.ensures

pub returns-in_err-base : goal.returns-in_err-base
returns-in_err-base g c = unmet (record { view = refl; later = g.met.S.Store.at_once c.args.store.now }) (get_grows (g.S.Store.meaning c.args.store.now c.args.base.now) c.args.key.now) c.from_residual.result c.from_residual.ensures.1

pub returns-in-Some : goal.returns-in-Some
returns-in-Some g c = at_same (λ base. get base c.args.key.now) c.in_ok-base.ensures c.get_at.ensures

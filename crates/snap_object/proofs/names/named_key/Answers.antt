use Rattle.std.proofs.Common.{refl, sym, ap, ◌∙◌, codes}
use Rattle.std.specs.Str.{bytes_eq as text_eq}
use Rattle.spec_values.specs.Answer.{use_key}
use Rattle.snap_action.proofs.Follows.{chained, cut_off}
use Rattle.snap_object.proofs.Naming.{judged, judged_give, judged_grows, judged_stop}
use Rattle.snap_object.proofs.names.named_key.Goals as goal

pub returns-in_err-key-clause-gives : goal.returns-in_err-key-clause-gives
returns-in_err-key-clause-gives g c =
    let text = c.args.name.now.text in
    cut_off (use_key text) (λ used. judged text) (λ used. judged_grows text) c.in_err-key.ensures.gives c.from_residual.result c.from_residual.ensures.1

pub returns-then-is_proto-clause-gives : goal.returns-then-is_proto-clause-gives
returns-then-is_proto-clause-gives g c =
    let text = c.args.name.now.text in
    let proto = ap (λ t. text_eq t (codes "__proto__")) (sym c.in_ok-key.ensures.text) ∙ sym c.is_proto.ensures ∙ c.if-is_proto.true in
    chained g.met.S.Store.later_still (λ a b text h. g.met.S.Store.keeps_left_out a b text h) (use_key text) (λ used. judged text) c.in_ok-key.ensures.gives (judged_stop text proto (record { view = refl; later = g.met.S.Store.at_once c.use_name.new.store }))

pub returns-clause-gives : goal.returns-clause-gives
returns-clause-gives g c =
    let text = c.args.name.now.text in
    let other = ap (λ t. text_eq t (codes "__proto__")) (sym c.in_ok-key.ensures.text) ∙ sym c.is_proto.ensures ∙ c.if-is_proto.false in
    chained g.met.S.Store.later_still (λ a b text h. g.met.S.Store.keeps_left_out a b text h) (use_key text) (λ used. judged text) c.in_ok-key.ensures.gives (judged_give text c.in_ok-key.key other refl c.in_ok-key.ensures.gives.owned (record { view = refl; later = g.met.S.Store.at_once c.use_name.new.store }))

use Rattle.std.proofs.Common.{codes, refl, ◌∙◌, ap, List, ℕ}
use Rattle.std.specs.Str.{bytes_eq as text_eq}
use Rattle.snap_graph.specs.declared.value.Value.TheVariants.{Text}
use Rattle.spec_values.specs.Access.{named_key}
use Rattle.spec_values.specs.Answer.{give}
use Rattle.snap_action.proofs.Follows.{answered, chained, cut_off}
use Rattle.snap_action.proofs.Growing.{give_grows}
use Rattle.snap_object.proofs.owning.is_used_length.Goals as goal

pub returns-in_err-named_key-clause-gives : goal.returns-in_err-named_key-clause-gives
returns-in_err-named_key-clause-gives g c =
    cut_off (named_key (Text c.args.name.now.text)) (λ name. give (text_eq name (codes "length"))) (λ name. give_grows (text_eq name (codes "length"))) c.in_err-named_key.ensures.gives c.from_residual.result c.from_residual.ensures.1

pub returns-clause-gives : goal.returns-clause-gives
returns-clause-gives g c =
    chained g.met.S.Store.later_still (λ a b text h. g.met.S.Store.keeps_left_out a b text h) (named_key (Text c.args.name.now.text)) (λ name. give (text_eq name (codes "length"))) c.in_ok-named_key.ensures.gives
    (answered (record { view = refl; later = g.met.S.Store.at_once c.named_key.new.store }) _ (c.is_word.ensures ∙ ap (λ (t : List ℕ). text_eq t (codes "length")) (c.text.ensures ∙ c.in_ok-named_key.ensures.kept.text)) tt)

use Rattle.std.proofs.Common.{ℕ, Option, refl, sym, ◌∙◌}
use Rattle.snap_graph.specs.declared.value.Value.TheVariants.{Text}
use Rattle.snap_store.specs.Calls.{units_in}
use Rattle.spec_values.specs.Access.{get_of_text}
use Rattle.snap_action.proofs.Follows.{at_same}
use Rattle.snap_object.proofs.Naming.{known_later}
use Rattle.snap_object.proofs.reading.get_of_text.Goals as goal

pub returns-in-Some-clause-gives : goal.returns-in-Some-clause-gives
returns-in-Some-clause-gives g c =
    let text = units_in (g.S.Store.meaning c.args.store.now c.args.text.now) in
    at_same (λ (place : Option ℕ). get_of_text text (Text c.args.name.now.text) place) (sym (sym c.index.ensures ∙ c.in-Some.is)) c.unit_of.ensures

pub returns-in-Some-clause-kept : goal.returns-in-Some-clause-kept
returns-in-Some-clause-kept g c = record {
  text = refl;
  known = known_later (g.S.Store.key_of c.args.store.now) (g.S.Store.key_of c.unit_of.new.store) c.args.name.now (g.met.S.Store.keeps_keys c.args.store.now c.unit_of.new.store c.unit_of.ensures.later) c.requires.known;
}

pub returns-in-None-clause-gives : goal.returns-in-None-clause-gives
returns-in-None-clause-gives g c =
    let text = units_in (g.S.Store.meaning c.args.store.now c.args.text.now) in
    at_same (λ (place : Option ℕ). get_of_text text (Text c.args.name.now.text) place) (sym (sym c.index.ensures ∙ c.in-None.is)) c.named_of_text.ensures.gives

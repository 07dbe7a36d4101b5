use Rattle.std.proofs.Common.{length, sym, ◌∙◌, arith}
use Rattle.std.proofs.lemmas.Bool.{lt-ltb}
use Rattle.spec_values.specs.Operations.{elements_of}
use Rattle.snap_object.proofs.Putting.{element_there}
use Rattle.snap_object.proofs.writing.set_element_of.Goals as goal

pub returns-then-place-count : goal.returns-then-place-count
returns-then-place-count g c =
    let elements = elements_of (g.S.Store.view c.args.store.now).nodes c.args.node in
    element_there c.args.node c.args.place (g.S.Store.meaning c.args.store.now c.args.held.now) (sym c.is_frozen-frozen.ensures ∙ c.if-frozen.false)
    (lt-ltb c.args.place (length elements) (omega (arith, c.count-count.ensures, c.if-place-count.true)))
    c.write_element.ensures

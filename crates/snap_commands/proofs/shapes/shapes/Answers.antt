use Rattle.std.proofs.Common.{◌≡◌, ◌∷◌, [], Contains, length, arith, ap, sym, subst, ◌∙◌, length-append}
use Rattle.snap_graph.specs.declared.value.Property.{Property}
use Rattle.spec_sections.specs.Global.{text_number}
use Rattle.snap_blob.specs.declared.startups.ShapeStep.{ShapeStep}
use Rattle.snap_commands.proofs.Chaining.{shape_put}
use Rattle.snap_commands.proofs.shapes.shapes.Goals as goal

-- src/shapes.rt:30:22
pub overflow_cast-parent : goal.overflow_cast-parent
overflow_cast-parent c = omega (arith, c.len-parent.ensures, c.loop-property.invariant.count, c.loop-property-test.true, c.requires.few)

-- src/shapes.rt:31:13
pub number-name-requires-clause-among : goal.number-name-requires-clause-among
number-name-requires-clause-among c =
    subst (λ (p : Property). Contains c.args.strings.now p.key) (sym c.property-item.is) (c.requires.held c.loop-property.property-index _ c.loop-property-test.true)

-- src/shapes.rt:29:5
pub loop-property-preserved : goal.loop-property-preserved
loop-property-preserved c =
    let parent : c.len-parent.result ≡ c.loop-property.property-index = omega (arith, c.len-parent.ensures, c.loop-property.invariant.count) in
    let step : ShapeStep = record { parent = c.len-parent.result; name = c.number-name.result } in
    record {
      chain = shape_put (λ (p : Property). text_number c.args.strings.now p.key) c.args.properties.now c.loop-property.property-index _ c.loop-property.list.items c.push.new.self.items step c.loop-property-test.true c.in-Ok.ensures.items parent (c.number-name.ensures ∙ ap (λ (p : Property). text_number c.args.strings.now p.key) c.property-item.is) c.loop-property.invariant.chain;
      count = ap length c.in-Ok.ensures.items ∙ omega (arith, length-append c.loop-property.list.items (step ∷ []), c.loop-property.invariant.count);
    }

use Rattle.std.proofs.Common.{codes, sym}
use Rattle.snap_graph.specs.declared.intrinsic.TheConstants.{REFERENCE_ERROR_PROTOTYPE}
use Rattle.snap_graph.specs.declared.value.Value.TheVariants.{Node as At}
use Rattle.spec_values.specs.Access.{set_named}
use Rattle.spec_values.specs.Answer.{◌>>=◌}
use Rattle.spec_values.specs.Asking.{set_global}
use Rattle.snap_action.proofs.Follows.{alike, at_same, chained, cut_off}
use Rattle.snap_action.proofs.Throwing.{threw}
use Rattle.snap_object.specs.Parts.{defined_from, set_defined}
use Rattle.snap_object.proofs.Defined.{set_by}
use Rattle.snap_object.proofs.Growing.{set_defined_grows}
use Rattle.snap_object.proofs.globals.set_global.Goals as goal

pub returns-in_err-is_defined : goal.returns-in_err-is_defined
returns-in_err-is_defined g c =
    let global = c.args.global in
    let name = c.args.name.now in
    let value = g.S.Store.meaning c.args.store.now c.args.held.now in
    alike (defined_from (At global) name global >>= set_defined global name value) (set_global global name value) (λ keys. set_by global name value _)
    (cut_off (defined_from (At global) name global) (set_defined global name value) (set_defined_grows global name value) c.in_err-is_defined.ensures.gives c.from_residual.result c.from_residual.ensures.1)

pub returns-then-branch : goal.returns-then-branch
returns-then-branch g c =
    let global = c.args.global in
    let name = c.args.name.now in
    let value = g.S.Store.meaning c.args.store.now c.args.held.now in
    let h = c.in_ok-is_defined.ensures.gives in
    alike (defined_from (At global) name global >>= set_defined global name value) (set_global global name value) (λ keys. set_by global name value _)
    (chained g.met.S.Store.later_still (λ a b text h. g.met.S.Store.keeps_left_out a b text h) (defined_from (At global) name global) (set_defined global name value) h
    (at_same (set_defined global name value) (sym c.if-branch.true)
    (at_same (set_named global name) (g.met.S.Store.keeps_meaning c.args.store.now c.is_defined.new.store c.args.held.now h.later c.requires.owned) c.set_named.ensures)))

pub returns : goal.returns
returns g c =
    let global = c.args.global in
    let name = c.args.name.now in
    let value = g.S.Store.meaning c.args.store.now c.args.held.now in
    alike (defined_from (At global) name global >>= set_defined global name value) (set_global global name value) (λ keys. set_by global name value _)
    (chained g.met.S.Store.later_still (λ a b text h. g.met.S.Store.keeps_left_out a b text h) (defined_from (At global) name global) (set_defined global name value) c.in_ok-is_defined.ensures.gives
    (at_same (set_defined global name value) (sym c.if-branch.false) (threw REFERENCE_ERROR_PROTOTYPE (codes "not defined") c.throw_error.ensures)))

use Rattle.std.proofs.Common.{Ok, refl, sym, ap, ◌∙◌}
use Rattle.std.specs.Fmt.{signed_decimal}
use Rattle.std.proofs.Math.Facts.{to_z-of_z}
use Rattle.snap_graph.specs.declared.value.Value.TheVariants.{Int}
use Rattle.snap_object.proofs.Naming.{narrow, text_so}
use Rattle.snap_object.proofs.names.number_text.Goals as goal

pub returns : goal.returns
returns c =
    let same = c.in_ok-decimal.ensures ∙ ap signed_decimal (to_z-of_z c.ranges.number) in
    text_so (Int c.args.number) (Int c.args.number) c.in_ok-decimal.field-0 refl (narrow c.args.number c.ranges.number) (ap Ok (sym same))

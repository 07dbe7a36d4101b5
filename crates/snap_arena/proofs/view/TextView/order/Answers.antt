use Rattle.std.specs.Ordering.{nat_cmp, ordering_reverse}
use Rattle.std.specs.Cmp.Lexicographic.{slice_cmp}
use Rattle.std.proofs.lemmas.Cmp.{nat_list_cmp_total}
use Rattle.snap_arena.specs.Views.{units}
use Rattle.snap_arena.specs.declared.view.TextView.{TextView}
use Rattle.std.proofs.Common.{sym, ap, ◌∙◌}
use Rattle.snap_arena.proofs.view.TextView.order.Goals as goal

pub returns-in-Wide-Narrow : goal.returns-in-Wide-Narrow
returns-in-Wide-Narrow c =
    let left = c.in-Wide-Narrow.left.now in
    let right = c.in-Wide-Narrow.right.now in
    c.reverse.ensures ∙ ap ordering_reverse c.order_bytes-in-Wide-Narrow.ensures ∙ sym (nat_list_cmp_total.antisymm left right)
    ∙ ap (λ (view : TextView). slice_cmp nat_cmp (units view) right) (sym c.in-Wide-Narrow.is-0) ∙ ap (λ (view : TextView). slice_cmp nat_cmp (units c.args.self.now) (units view)) (sym c.in-Wide-Narrow.is-1)

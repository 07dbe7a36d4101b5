use Rattle.std.proofs.Common.{rules}
use Rattle.std.proofs.lemmas.Fn.{always_returns_same}
use Rattle.std.specs.Cmp.Lexicographic.{slice_cmp}
use Rattle.std.specs.Ordering.{nat_cmp}
use Rattle.snap_ctxfmt.proofs.Places.{searched}
use Rattle.snap_ctxfmt.proofs.texts.place_of.Goals as goal

pub returns : goal.returns
returns c =
    let facts = c.binary_search_by.ensures in
    let text = c.args.text.now in
    let by_order = facts.position (λ s. slice_cmp nat_cmp s text) (always_returns_same _ _ _ (λ a r g called. (search rules, search rules))) in
    rw c.ok.ensures.value (searched c.args.strings.now text _ c.requires facts.bound by_order)

use Rattle.std.proofs.Common.{Some, ap, refl, sym, ◌∙◌, arith}
use Rattle.snap_store.proofs.Indexing.{is_index, no_index_long, no_index_words}
use Rattle.snap_store.proofs.indices.array_index.Goals as goal

pub returns-then-not-is_short : goal.returns-then-not-is_short
returns-then-not-is_short c = sym (no_index_long c.args.units.now (c.if-not-is_short.ensures.other refl))

pub returns-in_err-number : goal.returns-in_err-number
returns-in_err-number c = c.from_residual.ensures ∙ sym (no_index_words c.args.units.now (c.in_err-number.ensures.none refl))

pub returns-then-number-from : goal.returns-then-number-from
returns-then-number-from c =
    let some = c.in_ok-number.ensures.some in
    ap Some some.1 ∙ sym (is_index c.args.units.now (c.if-not-is_short.ensures.short refl) some.0 (omega (arith, some.1, c.if-number-from.true)))

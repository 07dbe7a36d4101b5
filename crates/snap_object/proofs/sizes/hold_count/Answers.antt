use Rattle.std.proofs.Common.{sym, ap, ◌∙◌, Ok, arith, w64}
use Rattle.std.proofs.lemmas.Int.{to_z_pos}
use Rattle.snap_graph.specs.declared.value.Value.TheVariants.{Int}
use Rattle.spec_values.specs.Access.{or_stop}
use Rattle.snap_action.proofs.Follows.{at_same}
use Rattle.snap_object.proofs.Sizing.{safe_count}
use Rattle.snap_object.proofs.sizes.hold_count.Goals as goal

pub returns-then-count-lt9007199254740992-clause-gives : goal.returns-then-count-lt9007199254740992-clause-gives
returns-then-count-lt9007199254740992-clause-gives g c =
    let below = c.if-count-lt9007199254740992.true in
    at_same or_stop (ap (λ z. Ok (Int z)) (to_z_pos w64 c.args.count (omega (arith, below))) ∙ sym (safe_count c.args.count below)) c.hold_value.ensures.gives

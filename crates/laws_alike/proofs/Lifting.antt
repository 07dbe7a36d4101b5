-- Actions on heaps as actions on states of evaluation.
use Rattle.std.proofs.Common.{ℕ, ap}
use Rattle.snap_base.specs.declared.stop.Stop.{Stop}
use Rattle.spec_values.specs.Answer.{Action, Gave, HeapAnswer, Stopped, Threw}
use Rattle.spec_values.specs.State.{StopAt, lift, placed}
use Rattle.laws_alike.specs.Alike.{Alike, Common, World}
use Rattle.laws_alike.specs.Going.{Answers, GoAlike, StatesAlike, Stays}

placed_alike : {X A : Type 0} (M : Common X) (R : Common A) → Stays M → (world : World) (place : ℕ) (one other : X) → M world one other → (x y : HeapAnswer A) → Answers Alike R world x y
    → Answers (StatesAlike M) R world (placed place one x) (placed place other y)
placed_alike M R stays world place one other h (Gave a heap) (Gave b more) e =
    record { after = e.after; grows = e.grows; matching = record { heap = e.matching; rest = stays.later world e.after e.grows one other h }; result = e.result }
placed_alike M R stays world place one other h (Gave a heap) (Threw v more) e = absurd e
placed_alike M R stays world place one other h (Gave a heap) (Stopped why more) e = absurd e
placed_alike M R stays world place one other h (Threw u heap) (Gave b more) e = absurd e
placed_alike M R stays world place one other h (Threw u heap) (Threw v more) e =
    record { after = e.after; grows = e.grows; matching = record { heap = e.matching; rest = stays.later world e.after e.grows one other h }; result = e.result }
placed_alike M R stays world place one other h (Threw u heap) (Stopped why more) e = absurd e
placed_alike M R stays world place one other h (Stopped why heap) (Gave b more) e = absurd e
placed_alike M R stays world place one other h (Stopped why heap) (Threw v more) e = absurd e
placed_alike M R stays world place one other h (Stopped why heap) (Stopped reason more) e = record {
  after = e.after;
  grows = e.grows;
  matching = record { heap = e.matching; rest = stays.later world e.after e.grows one other h };
  result = ap (λ (w : Stop). let at : StopAt = record { why = w; at = place } in at) e.result;
}

pub lift_alike : {X A : Type 0} {M : Common X} {R : Common A} {world : World} (place : ℕ) {x y : Action A} → Stays M → GoAlike Alike R world x y
    → GoAlike (StatesAlike M) R world (lift place x) (lift place y)
lift_alike {M = M} {R = R} {world = world} place {x} {y} stays h = record {
  ends = λ one other alike. placed_alike M R stays world place one.rest other.rest alike.rest (x one.heap) (y other.heap) (h.ends one.heap other.heap alike.heap);
}

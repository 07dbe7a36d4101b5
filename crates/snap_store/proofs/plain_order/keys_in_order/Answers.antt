use Rattle.std.proofs.Common.{ℕ, ◌==◌, List, filter, map, ap, ◌∙◌}
use Rattle.std.proofs.lemmas.Result.{IfOk-weaker}
use Rattle.snap_store.specs.declared.plain_order.RankedKey.{RankedKey}
use Rattle.snap_store.specs.Plain.{property_in}
use Rattle.snap_store.proofs.Ordering.{AreInOrder, ordered_keys}
use Rattle.snap_store.proofs.plain_order.keys_in_order.Goals as goal

pub returns : goal.returns
returns c =
    let properties = c.args.properties.now in
    let sorted = c.in_ok-sorted.sorted.items in
    let stays = λ (rank : ℕ). c.in_ok-sorted.ensures.stays rank ∙ ap (filter (λ (one : RankedKey). one.rank == rank)) c.in_ok-ranked.ensures in
    let law : (texts : List (List ℕ)) → AreInOrder (map (property_in texts) properties) = λ texts. record {
      ascending = c.own_keys_are_in_order.ensures.ascending (map (property_in texts) properties);
      stable = c.own_keys_are_in_order.ensures.stable (map (property_in texts) properties);
    } in
    IfOk-weaker c.bare_keys.result _ _ (λ keys is texts. is ∙ ordered_keys texts properties sorted (law texts) c.in_ok-sorted.ensures.rises stays) c.bare_keys.ensures

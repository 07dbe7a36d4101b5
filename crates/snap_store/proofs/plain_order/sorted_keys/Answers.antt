use Rattle.std.proofs.Common.{◌≡◌, ◌==◌, ◌&&◌, not, [], sym, ◌∙◌, rules}
use Rattle.std.specs.Ordering.{is_lt, nat_cmp}
use Rattle.std.proofs.lemmas.List.Elements.{filter_agree}
use Rattle.std.proofs.lemmas.List.Sorted.{IsNonDecreasingBy-from_sort_by_key, answers_always}
use Rattle.snap_store.specs.declared.plain_order.RankedKey.{RankedKey}
use Rattle.snap_store.proofs.Sorting.{ties_at}
use Rattle.snap_store.proofs.plain_order.sorted_keys.Goals as goal

pub returns-clause-rises : goal.returns-clause-rises
returns-clause-rises c = IsNonDecreasingBy-from_sort_by_key (λ (one : RankedKey). one.rank) _ c.in_ok-sort_by_key.ensures.sorted (λ a r q k. search rules)

pub returns-clause-stays : goal.returns-clause-stays
returns-clause-stays c = λ rank.
    let at : RankedKey = record { rank = rank; key = [] } in
    let stable = c.in_ok-sort_by_key.ensures.stable (λ (one : RankedKey). one.rank) (answers_always _ _ _ (λ f a r q k. search rules)) at in
    let agree : (one : RankedKey) → not (is_lt (nat_cmp rank one.rank)) && not (is_lt (nat_cmp one.rank rank)) ≡ (one.rank == rank) = λ one. ties_at rank one.rank in
    let same = filter_agree (λ (one : RankedKey). not (is_lt (nat_cmp rank one.rank)) && not (is_lt (nat_cmp one.rank rank))) (λ one. one.rank == rank) agree in
    sym (same c.sort_by_key.new.self.items) ∙ stable ∙ same c.args.ranked.items

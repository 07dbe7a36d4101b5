use Rattle.std.proofs.Common.{◌<◌, length}
use Rattle.std.proofs.lemmas.List.Sorted.{All-permutation, Contains-permutation}
use Rattle.snap_blob.specs.declared.visits.Visit.{Visit}
use Rattle.snap_blob.proofs.visits.visits_in_order.Goals as goal

pub returns : goal.returns
returns c =
    let before = c.in_ok-visits.visits.items in
    let after = c.sort_unstable.new.self.items in
    let placed = c.in_ok-visits.ensures in
    let moves = c.sort_unstable.ensures.permutation in
    record {
      within = All-permutation (λ (v : Visit). v.shape < length c.args.shapes.now) before after moves placed.within;
      all = λ n inside. let own = placed.all n inside in (own.0, Contains-permutation before after own.0 moves own.1, own.2);
    }

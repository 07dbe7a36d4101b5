use Rattle.std.proofs.Common.{◌≡◌, get_or, length, arith}
use Rattle.std.proofs.lemmas.List.Elements.{Contains-get_or}
use Rattle.snap_blob.specs.declared.visits.Visit.{Visit}
use Rattle.snap_blob.proofs.visits.placed.Goals as goal

pub returns : goal.returns
returns c =
    let visits = c.loop-n.visits.items in
    let so_far = c.loop-n.invariant in
    let none : Visit = record { place = 0; shape = 0 } in
    let many : length visits ≡ length c.args.shapes.now = omega arith in
    record {
      within = λ k d inside. let own = so_far.each k d (omega arith) in omega arith;
      all = λ n inside. (get_or visits n none, Contains-get_or visits n none (omega arith), so_far.each n none (omega arith));
    }

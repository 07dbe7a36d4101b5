use Rattle.std.proofs.Common.{◌≡◌, ◌≢◌, IsPermutation, length, subst, sym, rules}
use Rattle.std.specs.List.{AllAdjacentBelow}
use Rattle.std.proofs.lemmas.List.Sorted.{IsPermutation-sym}
use Rattle.snap_blob.proofs.Apart.{apart_from_neighbours, apart_permuted, neighbours_from_apart, pairs_apart, steps_apart}
use Rattle.snap_blob.proofs.shapes.are_apart.Goals as goal

pub returns : goal.returns
returns c =
    let shapes = c.args.shapes.now in
    let sorted = c.sort_unstable.new.self.items in
    let copied : c.in_ok-sorted.sorted.items ≡ shapes = search rules in
    let moves : IsPermutation shapes sorted = subst (λ w. IsPermutation w sorted) copied c.sort_unstable.ensures.permutation in
    let passed : c.deref.result.now ≡ sorted = c.deref.ensures.value in
    let judged = c.neighbours_differ.ensures in (
      λ yes.
          let differ = subst (λ w. AllAdjacentBelow (λ one other. one ≢ other) w (length w)) passed (judged.0 yes) in
          pairs_apart shapes (apart_permuted sorted shapes (IsPermutation-sym shapes sorted moves) (apart_from_neighbours sorted c.sort_unstable.ensures.sorted differ)),
      λ apart.
          let differ = neighbours_from_apart sorted (apart_permuted shapes sorted moves (steps_apart shapes apart)) in
          judged.1 (subst (λ w. AllAdjacentBelow (λ one other. one ≢ other) w (length w)) (sym passed) differ),
    )

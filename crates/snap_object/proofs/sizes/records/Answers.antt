use Rattle.std.proofs.Common.{◌+◌, ◌*◌, ◌<◌, ◌≤◌, List, length, count_by, ap, ◌∙◌, arith}
use Rattle.snap_graph.specs.declared.value.Value.{Value}
use Rattle.spec_values.specs.Access.{is_there}
use Rattle.snap_graph.specs.Lawful.{record_keys}
use Rattle.spec_values.specs.Operations.{elements_of}
use Rattle.std.proofs.lemmas.List.{take_all}
use Rattle.snap_object.proofs.Counting.{counted_none, counted_one, record_at, record_count}
use Rattle.snap_object.proofs.sizes.records.Goals.{then-branch, else-branch}
use Rattle.snap_object.proofs.sizes.records.Goals as goal

pub loop-i-preserved : goal.loop-i-preserved
loop-i-preserved g c =
    let h = c.in_ok-is_there.ensures in
    let elements = elements_of (g.S.Store.view c.args.store.now).nodes c.args.node in
    let keys = record_keys elements in
    let within : 2 * c.loop-i.i + 1 < length elements = omega (arith, c.loop-i-test.true, c.count-i-end.ensures) in
    let at = record_at elements c.loop-i.i h.0 within h.1 in
    elim c.if-branch.branch [
      | then-branch w ↦ record { counted = counted_one keys c.loop-i.i c.loop-i.count c.if-branch.count h.0 c.in_ok-is_there.field-0 at h.2 c.loop-i.invariant.counted w.if-branch.true w.count-is; few = omega (arith, w.count-is, c.loop-i.invariant.few) }
      | else-branch w ↦ record { counted = counted_none keys c.loop-i.i c.loop-i.count c.if-branch.count h.0 c.in_ok-is_there.field-0 at h.2 c.loop-i.invariant.counted w.if-branch.false w.count-is; few = omega (arith, w.count-is, c.loop-i.invariant.few) }
    ]

pub returns : goal.returns
returns g c =
    let keys = record_keys (elements_of (g.S.Store.view c.args.store.now).nodes c.args.node) in
    let all : length keys ≤ c.loop-i.i = omega (arith, record_count (elements_of (g.S.Store.view c.args.store.now).nodes c.args.node), c.count-i-end.ensures, c.loop-i-test.false) in
    c.loop-i.invariant.counted ∙ ap (λ (values : List Value). count_by is_there values) (take_all c.loop-i.i keys all)

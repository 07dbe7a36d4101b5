use Rattle.std.proofs.Common.{◌≡◌, ℕ, suc, ◌+◌, ◌-◌, List, [], ◌∷◌, ◌++◌, sym, ap, ◌∙◌, arith}
use Rattle.std.proofs.lemmas.List.{append_assoc}
use Rattle.snap_graph.specs.declared.node.Node.{Node}
use Rattle.snap_graph.specs.Intrinsics.{native, natives_from}
use Rattle.snap_store.proofs.Pushing.{natives_more}
use Rattle.snap_store.proofs.intrinsic_nodes.push_methods.Goals as goal

pub loop-native-preserved : goal.loop-native-preserved
loop-native-preserved c =
    let before = c.args.nodes.now.items in
    let count = c.loop-native.native - 24 in
    let number : c.loop-native.native ≡ 24 + count = omega arith in
    let more : suc count ≡ c.loop-native.native + 1 - 24 = omega arith in
    c.in_ok-push.ensures.items
    ∙ ap (λ (ns : List Node). ns ++ c.in_ok-row_as_node.field-0 ∷ []) c.loop-native.invariant
    ∙ ap (λ (n : Node). (before ++ natives_from 24 count) ++ n ∷ []) (c.in_ok-row_as_node.ensures ∙ ap (λ (n : ℕ). native n []) number)
    ∙ append_assoc before (natives_from 24 count) (native (24 + count) [] ∷ [])
    ∙ ap (λ (ns : List Node). before ++ ns) (sym (natives_more 24 count))
    ∙ ap (λ (k : ℕ). before ++ natives_from 24 k) more

pub returns : goal.returns
returns c =
    let all : c.loop-native.native - 24 ≡ 38 = omega arith in
    c.loop-native.invariant ∙ ap (λ (k : ℕ). c.args.nodes.now.items ++ natives_from 24 k) all

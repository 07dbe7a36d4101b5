use Rattle.snap_graph.specs.declared.value.Value.{Value}
use Rattle.snap_store.specs.Calls.{units_in}
use Rattle.spec_values.specs.Access.{or_stop}
use Rattle.spec_values.specs.Answer.{◌>>=◌}
use Rattle.spec_values.specs.Operators.{added, joined}
use Rattle.snap_action.specs.Gives.{standing}
use Rattle.snap_action.proofs.Follows.{alike, at_same, chained, cut_off, grows_then}
use Rattle.snap_action.proofs.Growing.{or_stop_grows}
use Rattle.snap_apply.specs.Judged.{spelled}
use Rattle.snap_apply.proofs.Spelling.{adds_in_turn}
use Rattle.snap_apply.proofs.adding.add_texts.Goals as goal

pub returns-in_err-left-clause-gives : goal.returns-in_err-left-clause-gives
returns-in_err-left-clause-gives g c =
    let store = c.args.store.now in
    let left = g.S.Store.meaning store c.args.left.now in
    let right = g.S.Store.meaning store c.args.right.now in
    alike (or_stop (spelled left) >>= λ v. or_stop (spelled right) >>= λ w. or_stop (joined (units_in v) (units_in w))) (or_stop (added left right)) (λ keys. adds_in_turn left right (standing (g.S.Store.view store) keys) c.requires.text)
    (cut_off (or_stop (spelled left)) (λ v. or_stop (spelled right) >>= λ w. or_stop (joined (units_in v) (units_in w)))
    (λ v. grows_then (or_stop (spelled right)) _ (or_stop_grows (spelled right)) (λ w. or_stop_grows (joined (units_in v) (units_in w)))) c.in_err-left.ensures.gives c.from_residual.result c.from_residual.ensures.1)

pub returns-in_err-right-clause-gives : goal.returns-in_err-right-clause-gives
returns-in_err-right-clause-gives g c =
    let store = c.args.store.now in
    let left = g.S.Store.meaning store c.args.left.now in
    let right = g.S.Store.meaning store c.args.right.now in
    let same = g.met.S.Store.keeps_meaning store c.spell_held.new.store c.args.right.now c.in_ok-left.ensures.gives.later c.requires.right in
    let one = g.S.Store.meaning c.spell_held.new.store c.in_ok-left.left in
    alike (or_stop (spelled left) >>= λ v. or_stop (spelled right) >>= λ w. or_stop (joined (units_in v) (units_in w))) (or_stop (added left right)) (λ keys. adds_in_turn left right (standing (g.S.Store.view store) keys) c.requires.text)
    (chained g.met.S.Store.later_still (λ a b text h. g.met.S.Store.keeps_left_out a b text h) (or_stop (spelled left)) (λ v. or_stop (spelled right) >>= λ w. or_stop (joined (units_in v) (units_in w))) c.in_ok-left.ensures.gives
    (at_same (λ (r : Value). or_stop (spelled r) >>= λ w. or_stop (joined (units_in one) (units_in w))) same
    (cut_off (or_stop (spelled (g.S.Store.meaning c.spell_held.new.store c.args.right.now))) (λ w. or_stop (joined (units_in one) (units_in w))) (λ w. or_stop_grows (joined (units_in one) (units_in w))) c.in_err-right.ensures.gives c.from_residual-in_err-right.result c.from_residual-in_err-right.ensures.1)))

pub returns-clause-gives : goal.returns-clause-gives
returns-clause-gives g c =
    let store = c.args.store.now in
    let left = g.S.Store.meaning store c.args.left.now in
    let right = g.S.Store.meaning store c.args.right.now in
    let same = g.met.S.Store.keeps_meaning store c.spell_held.new.store c.args.right.now c.in_ok-left.ensures.gives.later c.requires.right in
    let one = g.S.Store.meaning c.spell_held.new.store c.in_ok-left.left in
    let other = g.S.Store.meaning c.spell_held-2.new.store c.in_ok-right.right in
    let stays = g.met.S.Store.keeps_meaning c.spell_held.new.store c.spell_held-2.new.store c.in_ok-left.left c.in_ok-right.ensures.gives.later c.in_ok-left.ensures.gives.owned in
    alike (or_stop (spelled left) >>= λ v. or_stop (spelled right) >>= λ w. or_stop (joined (units_in v) (units_in w))) (or_stop (added left right)) (λ keys. adds_in_turn left right (standing (g.S.Store.view store) keys) c.requires.text)
    (chained g.met.S.Store.later_still (λ a b text h. g.met.S.Store.keeps_left_out a b text h) (or_stop (spelled left)) (λ v. or_stop (spelled right) >>= λ w. or_stop (joined (units_in v) (units_in w))) c.in_ok-left.ensures.gives
    (at_same (λ (r : Value). or_stop (spelled r) >>= λ w. or_stop (joined (units_in one) (units_in w))) same
    (chained g.met.S.Store.later_still (λ a b text h. g.met.S.Store.keeps_left_out a b text h) (or_stop (spelled (g.S.Store.meaning c.spell_held.new.store c.args.right.now))) (λ w. or_stop (joined (units_in one) (units_in w))) c.in_ok-right.ensures.gives
    (at_same (λ (l : Value). or_stop (joined (units_in l) (units_in other))) stays c.join_texts-2.ensures.gives))))

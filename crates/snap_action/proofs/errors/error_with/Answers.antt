use Rattle.std.proofs.Common.{codes, refl}
use Rattle.snap_graph.specs.declared.kind.Kind.TheVariants.{Error}
use Rattle.snap_graph.specs.declared.value.Value.TheVariants.{Node as At, Text}
use Rattle.spec_values.specs.Answer.{◌>>=◌, give}
use Rattle.spec_values.specs.Operations.{make}
use Rattle.snap_action.specs.Errors.{error_prototype, put_named}
use Rattle.snap_action.proofs.Follows.{answered, at_same, chained, cut_off, grows_then, unmet}
use Rattle.snap_action.proofs.Growing.{give_grows, make_grows}
use Rattle.snap_action.proofs.Throwing.{put_named_grows, rest_grows}
use Rattle.snap_action.proofs.errors.error_with.Goals as goal

pub returns-in_err-name : goal.returns-in_err-name
returns-in_err-name g c =
    let of = error_prototype c.args.kind in
    unmet (record { view = refl; later = g.met.S.Store.at_once c.args.store.now }) (grows_then (make Error (At of)) _ (make_grows Error (At of)) (λ error. rest_grows c.args.message.now error)) c.from_residual.result c.from_residual.ensures.1

pub returns-in_err-copy : goal.returns-in_err-copy
returns-in_err-copy g c =
    let of = error_prototype c.args.kind in
    unmet (record { view = refl; later = g.met.S.Store.at_once c.args.store.now }) (grows_then (make Error (At of)) _ (make_grows Error (At of)) (λ error. rest_grows c.args.message.now error)) c.from_residual-in_err-copy.result c.from_residual-in_err-copy.ensures.1

pub returns-in_err-number : goal.returns-in_err-number
returns-in_err-number g c =
    cut_off (make Error (At (error_prototype c.args.kind))) _ (λ error. rest_grows c.args.message.now error) c.in_err-number.ensures.gives c.from_residual-in_err-number.result c.from_residual-in_err-number.ensures.1

pub returns-in_err-error : goal.returns-in_err-error
returns-in_err-error g c =
    let n = c.in_ok-number.number in
    chained g.met.S.Store.later_still (λ a b text h. g.met.S.Store.keeps_left_out a b text h) (make Error (At (error_prototype c.args.kind))) _ c.in_ok-number.ensures.gives
    (cut_off (give (At n)) (λ value. put_named n (codes "message") (Text c.args.message.now) >>= λ put. give value)
    (λ value. grows_then (put_named n (codes "message") (Text c.args.message.now)) _ (put_named_grows n (codes "message") (Text c.args.message.now)) (λ put. give_grows value))
    c.in_err-error.ensures.gives c.from_residual-in_err-error.result c.from_residual-in_err-error.ensures.1)

pub returns-in_err-put : goal.returns-in_err-put
returns-in_err-put g c =
    let n = c.in_ok-number.number in
    let message = c.args.message.now in
    let value = g.S.Store.meaning c.hold_value.new.store c.in_ok-error.error in
    chained g.met.S.Store.later_still (λ a b text h. g.met.S.Store.keeps_left_out a b text h) (make Error (At (error_prototype c.args.kind))) _ c.in_ok-number.ensures.gives
    (chained g.met.S.Store.later_still (λ a b text h. g.met.S.Store.keeps_left_out a b text h) (give (At n)) (λ value. put_named n (codes "message") (Text message) >>= λ put. give value) c.in_ok-error.ensures.gives
    (cut_off (put_named n (codes "message") (Text message)) (λ put. give value) (λ put. give_grows value)
    (at_same (λ name. put_named n name (Text message)) c.in_ok-name.ensures (at_same (λ text. put_named n c.in_ok-name.name (Text text)) c.in_ok-copy.ensures c.in_err-put.ensures))
    c.from_residual-in_err-put.result c.from_residual-in_err-put.ensures.1))

pub returns : goal.returns
returns g c =
    let n = c.in_ok-number.number in
    let message = c.args.message.now in
    let value = g.S.Store.meaning c.hold_value.new.store c.in_ok-error.error in
    let put = c.in_ok-put.ensures in
    let owned = g.met.S.Store.stays_owned c.hold_value.new.store c.put.new.store c.in_ok-error.error put.later c.in_ok-error.ensures.gives.owned in
    chained g.met.S.Store.later_still (λ a b text h. g.met.S.Store.keeps_left_out a b text h) (make Error (At (error_prototype c.args.kind))) _ c.in_ok-number.ensures.gives
    (chained g.met.S.Store.later_still (λ a b text h. g.met.S.Store.keeps_left_out a b text h) (give (At n)) (λ value. put_named n (codes "message") (Text message) >>= λ put. give value) c.in_ok-error.ensures.gives
    (chained g.met.S.Store.later_still (λ a b text h. g.met.S.Store.keeps_left_out a b text h) (put_named n (codes "message") (Text message)) (λ put. give value)
    (at_same (λ name. put_named n name (Text message)) c.in_ok-name.ensures (at_same (λ text. put_named n c.in_ok-name.name (Text text)) c.in_ok-copy.ensures put))
    (answered (record { view = refl; later = g.met.S.Store.at_once c.put.new.store }) value (g.met.S.Store.keeps_meaning c.hold_value.new.store c.put.new.store c.in_ok-error.error put.later c.in_ok-error.ensures.gives.owned) owned)))

use Rattle.std.proofs.Common.{◌≡◌, ◌++◌, List, ℕ, take, drop, length, ap, ◌∙◌, arith, take_at}
use Rattle.snap_io.proofs.Steps.{takes-behind, takes_nothing}
use Rattle.snap_io.proofs.transfer.read_more.Goals as goal

pub returns-in_err-make_room-clause-bounded : goal.returns-in_err-make_room-clause-bounded
returns-in_err-make_room-clause-bounded g c = takes_nothing _ _

pub returns-clause-takes : goal.returns-clause-takes
returns-clause-takes g c =
    let bytes : List ℕ = c.read_behind.new.bytes in
    let room = c.make_room.new.bytes in
    let whole : take room.len (bytes ++ drop (length bytes) room.items) ≡ bytes = take_at bytes (drop (length bytes) room.items) room.len (omega (arith, c.as_mut_slice.ensures.len)) in
    let front : take c.args.len bytes ≡ take c.args.len c.args.bytes.now.items =
    c.read_behind.ensures.front ∙ ap (take c.args.len) c.as_mut_slice.ensures.value ∙ c.in_ok-make_room.ensures.front in
    rw whole (takes-behind _ _ c.read_behind.result c.args.bytes.now.items bytes c.args.len front c.read_behind.ensures.read)

use Rattle.std.proofs.Common.{arith}
use Rattle.snap_arena.proofs.Contents.{anyhow, with_more, with_same}
use Rattle.snap_arena.proofs.buffers.put_units.Goals as goal

pub returns-in_err-extend_from_slice-clause-err : goal.returns-in_err-extend_from_slice-clause-err
returns-in_err-extend_from_slice-clause-err c =
    anyhow c.from_residual.result (with_same c.args.buffers.now.items c.args.number c.index_mut.result.now c.extend_from_slice.new.self (omega (arith, c.args.buffers.now.ok)) c.index_mut.ensures.value c.in_err-extend_from_slice.ensures.items)

pub returns-clause-ok : goal.returns-clause-ok
returns-clause-ok c = with_more c.args.buffers.now.items c.args.number c.index_mut.result.now c.extend_from_slice.new.self c.args.units.now (omega (arith, c.args.buffers.now.ok)) c.index_mut.ensures.value c.in_ok-extend_from_slice.ensures.items

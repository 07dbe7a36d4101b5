use Rattle.std.proofs.Common.{arith, length-take-le}
use borrow.Rule.Slice.PartMut.{take_put}
use Rattle.snap_io.proofs.Steps.{read-behind}
use Rattle.snap_io.proofs.transfer.read_behind.Goals as goal

pub returns-clause-front : goal.returns-clause-front
returns-clause-front g c = take_put _ _ c.args.bytes.now _ (omega (arith, c.requires))

pub returns-clause-read : goal.returns-clause-read
returns-clause-read g c =
    read-behind _ _ c.read_part.result _ c.read_part.new.part _ c.args.len (length-take-le _ c.args.bytes.now (omega (arith, c.requires)))
    c.read_part.ensures.most c.read_part.ensures.read

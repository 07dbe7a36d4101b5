use Rattle.std.proofs.Common.{◌+◌, ◌≤◌, take, vec_len}
use Rattle.std.specs.Io.KnownBytes.{Consumes}
use Rattle.snap_io.proofs.transfer.read_up_to.Given as goal

-- what was read so far stands at the front
abbrev pub invariant-loop-turn : goal.invariant-loop-turn
invariant-loop-turn g l = record {
  counted : l._turn ≤ l.len;
  within : l.len ≤ l.limit-2;
  filled : l.len ≤ vec_len l.bytes;
  fits : vec_len l.bytes ≤ l.limit-2 + 1;
  read : Consumes (g.R.Read.remaining l.initial.reader) (g.R.Read.remaining l.reader) (take l.len l.bytes.items);
}

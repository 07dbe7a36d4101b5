use Rattle.std.proofs.Common.{◌≡◌, ◌≤◌, length, take, vec_capacity}
use Rattle.snap_arena.proofs.view.put_bytes.Given as goal

abbrev pub invariant-loop-byte : goal.invariant-loop-byte
invariant-loop-byte l = record {
  done : l.list.items ≡ take l.byte-index l.bytes;
  room : length l.bytes ≤ vec_capacity l.list;
}

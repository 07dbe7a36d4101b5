use Rattle.std.proofs.Common.{◌≡◌, ◌++◌, take, drop, vec_len}
use Rattle.snap_text.specs.Utf8.{utf8_of}
use Rattle.snap_arena.proofs.view.append.Given as goal

abbrev pub invariant-loop-byte : goal.invariant-loop-byte
invariant-loop-byte l = record {
  whole : l.out.items ++ utf8_of (drop l.byte-index l.bytes) ≡ l.fn.out.items ++ utf8_of l.bytes;
  kept : take (vec_len l.fn.out) l.out.items ≡ l.fn.out.items;
}

use Rattle.std.proofs.Common.{◌≡◌, ℕ, List, ◌++◌, take, length}
use Rattle.spec_format.specs.Varint.{IsVarint}
use Rattle.snap_bytes.proofs.writing.push_varint.Given as goal

-- what spells the rest completes the spelling
abbrev pub invariant-loop-high : goal.invariant-loop-high
invariant-loop-high l =
    record {
      completes : (tail : List ℕ) → IsVarint tail l.high → (text : List ℕ) × IsVarint text l.n × (l.out.items ++ tail ≡ l.fn.out.items ++ text);
      kept : take (length l.fn.out.items) l.out.items ≡ l.fn.out.items;
    }

abbrev pub decreases-loop-high : goal.decreases-loop-high
decreases-loop-high l = l.high

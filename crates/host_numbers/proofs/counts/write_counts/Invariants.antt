-- `host_numbers::counts::write_counts` meets its contract. The first `i` numbers are written.
use Prim.Native.Nat.{◌*◌}
use lib.ListN.{take}
use Rattle.buffer.specs.Wrote.{Wrote}
use Rattle.host_numbers.specs.Counts.{long_bytes_of}
use Rattle.host_numbers.proofs.counts.write_counts.Given as goal

abbrev pub invariant-loop-i : goal.invariant-loop-i
invariant-loop-i l = Wrote l.initial.bytes l.bytes 0 (long_bytes_of (take l.i l.numbers)) (l.i * 8)

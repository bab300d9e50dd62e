-- `buffer::put` meets its contract: after some turns the bytes so far are written.
use lib.ListN.{take}
use Rattle.buffer.specs.Wrote.{Wrote}
use Rattle.buffer.proofs.put.Given as goal

abbrev pub invariant-loop-byte : goal.invariant-loop-byte
invariant-loop-byte l = Wrote l.initial.out l.out l.at (take l.byte-index l.bytes) l.next

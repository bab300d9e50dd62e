-- `buffer::put_numbers` meets its contract: after some turns the numbers so far are written.
use lib.ListN.{take}
use Rattle.buffer.specs.Wrote.{Wrote}
use Rattle.buffer.specs.Bytes.{bytes_of}
use Rattle.buffer.proofs.put_numbers.Given as goal

abbrev pub invariant-loop-n : goal.invariant-loop-n
invariant-loop-n l = Wrote l.initial.out l.out l.at (bytes_of (take l.n-index l.numbers)) l.next

-- `wall::line::put_shown` meets its contract: after some turns the bytes so far are written.
use Rattle.wall.specs.Pages.{shown}
use Rattle.buffer.specs.Wrote.{Wrote}
use lib.ListN.{take}
use mathlib.Core.List.{map}
use Rattle.wall.proofs.line.put_shown.Given as goal

abbrev pub invariant-loop-b : goal.invariant-loop-b
invariant-loop-b l = Wrote l.initial.out l.out l.at (map shown (take l.b-index l.bytes)) l.next

-- `wall::line::put_blanks` meets its contract: after some turns as many blanks are written.
use Rattle.wall.specs.Pages.{blanks}
use Rattle.buffer.specs.Wrote.{Wrote}
use Rattle.wall.proofs.line.put_blanks.Given as goal

abbrev pub invariant-loop : goal.invariant-loop
invariant-loop l = Wrote l.initial.out l.out l.at (blanks l.counter) l.next

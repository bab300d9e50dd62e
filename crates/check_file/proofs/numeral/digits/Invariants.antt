-- `check_file::numeral::digits` meets its contract: what the digits passed stand for, and those that lie ahead.
use lib.ListN.{length}
use Rattle.check_file.proofs.Reading.{Passed}
use Rattle.check_file.proofs.numeral.digits.Given as goal

abbrev pub invariant-loop-i : goal.invariant-loop-i
invariant-loop-i l = Passed l.first l.s l.at l.value l.i

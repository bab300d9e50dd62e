-- `walk::path::end_after` meets its contract.
use Prim.Native.Nat.{◌≤◌, ◌-◌}
use lib.ListN.{length}
use Rattle.walk.proofs.Dots.{Passed}
use Rattle.walk.proofs.path.end_after.Given as goal

abbrev pub invariant-loop-i : goal.invariant-loop-i
invariant-loop-i l = Passed l.path l.i

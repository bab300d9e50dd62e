-- `walk::path::is_digits` meets its contract.
use Prim.Native.Nat.{◌≤◌, ◌-◌}
use lib.ListN.{length}
use Rattle.walk.proofs.Digits.{SoFar}
use Rattle.walk.proofs.path.is_digits.Given as goal

abbrev pub invariant-loop-b : goal.invariant-loop-b
invariant-loop-b l = SoFar l.segment l.b-index

-- `number_samples::count_differing` meets its contract: as many lines were counted as bytes were passed, at most.
use Prim.Native.Nat.{◌+◌, ◌-◌, ◌≤◌}
use lib.ListN.{length}
use Rattle.number_samples.proofs.count_differing.Given as goal

abbrev pub invariant-loop-i : goal.invariant-loop-i
invariant-loop-i g l = (l.n ≤ l.i) × (l.i ≤ length l.s + 1)

abbrev pub decreases-loop-i : goal.decreases-loop-i
decreases-loop-i g l = length l.s + 1 - l.i

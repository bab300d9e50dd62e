-- `vectors::count`: its number stays small.
use Prim.Native.Nat.{◌≤◌}
use Rattle.vectors.proofs.count.Given as goal

abbrev pub invariant-loop-i : goal.invariant-loop-i
invariant-loop-i l = l.value ≤ 1000000

use Prim.Native.Nat.{◌-◌}
use Rattle.defect_walk.proofs.standing.+scope_below.Given as goal

abbrev pub decreases-scope_below : goal.decreases-scope_below
decreases-scope_below l = l.end - l.i
